-- Each order's effect is a change, or one that is guarded.
use Rattle.std.proofs.Common.{ℕ, Bool, true, false, cond, eqb}
use Rattle.kdf_journal.specs.declared.failure.Failure.TheVariants.{Nouv}
use Rattle.kdf_qstore.specs.Triples.{triple_at}
use Rattle.kdf_syllable.specs.declared.order.Order.{Order}
use Rattle.kdf_syllable.specs.declared.order.Order.TheVariants as order
use Rattle.kdf_processor.specs.declared.registers.Registers.{Registers}
use Rattle.kdf_processor.specs.Effect.{Change, Effect, Failing, of_change}
use Rattle.kdf_processor.specs.State.{Claims}
use Rattle.kdf_processor.specs.Table.{change_of, device_effect, direct_effect, effect, guarded, indirect_effect, on_top, out_effect, plain_row, query_effect}

either : (Has : Effect → Type 0) (b : Bool) (x y : Effect) → Has x → Has y → Has (cond b x y)
either Has true x y hx hy = hx
either Has false x y hx hy = hy

-- what each change has, and each guarded effect that fits, the effect of each order has
pub each_effect : (c : Claims) (r : Registers) (Fits Has : Effect → Type 0)
    → ((e : Effect) → Fits e → Has (guarded c e)) → ((x : Change) → Has (of_change x))
    → Fits (on_top (Failing Nouv) r.nest (out_effect c r))
    → ((code k q : ℕ) → Fits (indirect_effect r code k q))
    → ((t u : Bool) (q a : ℕ) → Fits (direct_effect r t u q a))
    → ((code q : ℕ) → Fits (device_effect r code (triple_at r.q q)))
    → ((b q : ℕ) → Fits (query_effect r b (triple_at r.q q)))
    → (o : Order) → Has (effect c r o)
each_effect c r Fits Has guard change out indirect direct device query (order.Plain code) =
    either Has (eqb code 0x21) (guarded c (on_top (Failing Nouv) r.nest (out_effect c r))) (of_change (plain_row r code)) (guard _ out)
    (change (plain_row r code))
each_effect c r Fits Has guard change out indirect direct device query (order.Indirect code k q) = guard _ (indirect code k q)
each_effect c r Fits Has guard change out indirect direct device query (order.Direct t u q a) = guard _ (direct t u q a)
each_effect c r Fits Has guard change out indirect direct device query (order.Device code q) = guard _ (device code q)
each_effect c r Fits Has guard change out indirect direct device query (order.Query b q) = guard _ (query b q)
each_effect c r Fits Has guard change out indirect direct device query o = change (change_of r o)
