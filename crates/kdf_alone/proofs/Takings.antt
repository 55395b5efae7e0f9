-- An order that takes from the pool, and is answered the device that it takes, comes to the same.
use Rattle.std.proofs.Common.{◌≡◌, ℕ, ◌+◌, ltb, eqb, Bool, true, false, ◌&&◌, cond, List, [], ◌∷◌, length, Option, Some, None, refl, ap, ap₂}
use Rattle.std.specs.Prelude.{unwrap_or}
use Rattle.kdf_journal.specs.declared.failure.Failure.TheVariants.{Liv, Nouv, Claim}
use Rattle.kdf_journal.specs.declared.kind.Kind.{Kind}
use Rattle.kdf_journal.specs.declared.kind.Kind.TheVariants.{Mt}
use Rattle.kdf_syllable.specs.declared.order.Order.{Order}
use Rattle.kdf_qstore.specs.declared.triple.Triple.{Triple}
use Rattle.kdf_qstore.specs.Triples.{triple_at, triple_of}
use Rattle.kdf_transfer.specs.AtOnce.{kind_of, has_area}
use Rattle.kdf_transfer.specs.Devices.{is_kind}
use Rattle.kdf_transfer.specs.declared.order.TransferOrder.{TransferOrder}
use Rattle.kdf_transfer.specs.declared.test.Test.TheVariants.{Flag, Start, Mark}
use Rattle.kdf_transfer.specs.declared.wanted.Wanted.TheVariants.{Kinded, Labelled}
use Rattle.kdf_processor.specs.declared.registers.Registers.{Registers}
use Rattle.kdf_processor.specs.Claims.{claim, free_for, is_claimed, kind_numbered, least_pooled, may_take, taken_device}
use Rattle.kdf_processor.specs.Effect.{Change, Refused, Going, of_change, Effect, Failing, Ending, Changing, Fetching, Keeping, Testing, Starting, Asking}
use Rattle.kdf_processor.specs.Effect.{IsBusy, IsOut, Time, FreeOf, OfService, Claiming, Returning, Spooling}
use Rattle.kdf_processor.specs.Needs.{effect_or_liv, next_effect, order_at}
use Rattle.kdf_processor.specs.Row.{done_by, next_of, perform, row, taking}
use Rattle.kdf_processor.specs.State.{Claims, State, word_at}
use Rattle.kdf_processor.specs.Table.{asks_service, claims_found, claims_kind, claims_or_takes, direct_effect, effect, guarded, has_bit, indirect_effect}
use Rattle.kdf_processor.specs.Table.{indirect_half, is_area, moves, on_top, out_effect, query_effect, starts, transfer_of, with_nest}
use Rattle.kdf_processor.proofs.EachEffect.{each_effect}
use Rattle.kdf_processor.proofs.Fit.{IsFit, next_fit}
use Rattle.kdf_processor.proofs.Stinting.{taken_can}
use Rattle.kdf_alone.specs.LonePort.{given}

-- what is taken where what is taken is the answer
pub taken_again : (c : Claims) (kind : Kind) (a : ℕ) → may_take c kind ≡ true → taken_device c kind (taken_device c kind a) ≡ taken_device c kind a
taken_again c kind a may = ap (λ b. cond b (taken_device c kind a) (unwrap_or (least_pooled c kind) 0)) (taken_can c kind a may)

-- an order that takes from the pool leaves its registers by the device that it takes
abbrev pub IsByTaken : Claims → Effect → Type 0
IsByTaken c (Asking (FreeOf kind) after) = (a : ℕ) → may_take c kind ≡ true → after (taken_device c kind a) ≡ after a
IsByTaken c _ = Unit {0}

either_by : (c : Claims) (b : Bool) (x y : Effect) → IsByTaken c x → IsByTaken c y → IsByTaken c (cond b x y)
either_by c true x y hx hy = hx
either_by c false x y hx hy = hy

top_by : (c : Claims) (nest : List ℕ) (f : ℕ → List ℕ → Effect) → ((n : ℕ) (below : List ℕ) → IsByTaken c (f n below))
    → IsByTaken c (on_top (Failing Nouv) nest f)
top_by c [] f h = tt
top_by c (n ∷ below) f h = h n below

guarded_by : (c : Claims) (e : Effect) → IsByTaken c e → IsByTaken c (guarded c e)
unfolding guarded
guarded_by c (Failing kind) h = tt
guarded_by c (Ending after) h = tt
guarded_by c (Changing after) h = tt
guarded_by c (Fetching a after) h = either_by c (ltb a c.size) (Fetching a after) (Failing Liv) tt tt
guarded_by c (Keeping a w after) h = either_by c (ltb a c.size) (Keeping a w after) (Failing Liv) tt tt
guarded_by c (Testing d Flag after) h = either_by c (is_claimed c d) (Testing d Flag after) (Failing Claim) tt tt
guarded_by c (Testing d Start after) h = either_by c (is_kind Mt (claim c d)) (Testing d Start after) (Failing Claim) tt tt
guarded_by c (Testing d Mark after) h = either_by c (is_kind Mt (claim c d)) (Testing d Mark after) (Failing Claim) tt tt
guarded_by c (Starting d o first last after) h =
    either_by c (is_kind (kind_of o) (claim c d)) _ (Failing Claim)
    (either_by c (has_area o) _ (Starting d o first last after)
    (either_by c (is_area c.size first last) (Starting d o first last after) (Failing Liv) tt tt) tt)
    tt
guarded_by c (Asking (IsBusy d) after) h = either_by c (is_claimed c d) (Asking (IsBusy d) after) (Failing Claim) tt tt
guarded_by c (Asking (IsOut first last) after) h = either_by c (is_area c.size first last) (Asking (IsOut first last) after) (Failing Liv) tt tt
guarded_by c (Asking Time after) h = tt
guarded_by c (Asking (FreeOf kind) after) h = h
guarded_by c (Asking (OfService word) after) h = tt
guarded_by c (Claiming d after) h = tt
guarded_by c (Returning pooled d after) h = either_by c (is_claimed c d) (Returning pooled d after) (Failing Claim) tt tt
guarded_by c (Spooling stream first last after) h = either_by c (is_area c.size first last) (Spooling stream first last after) (Failing Liv) tt tt

change_by : (c : Claims) (x : Change) → IsByTaken c (of_change x)
change_by c (Refused kind) = tt
change_by c (Going after) = tt

moves_by : (c : Claims) (t : Bool) (r : Registers) (n address : ℕ) (half : Option ℕ) (u : Bool) (q : ℕ) → IsByTaken c (moves t r n address half u q)
moves_by c true r n address half u q = top_by c r.nest _ (λ n1 below. tt)
moves_by c false r n address half u q = either_by c (ltb (length r.nest) 16) _ (Failing Nouv) tt tt

indirect_by : (c : Claims) (r : Registers) (code k q : ℕ) → IsByTaken c (indirect_effect r code k q)
unfolding indirect_effect
indirect_by c r code k q = moves_by c (has_bit 8 code) r 2 _ (indirect_half code (triple_at r.q q).m) (has_bit 4 code) q

direct_by : (c : Claims) (r : Registers) (t u : Bool) (q a : ℕ) → IsByTaken c (direct_effect r t u q a)
unfolding direct_effect
direct_by c r t u q a = moves_by c t r 3 _ None u q

starts_by : (c : Claims) (r : Registers) (t : Triple) (o : Option TransferOrder) → IsByTaken c (starts r t o)
starts_by c r t None = tt
starts_by c r t (Some o) = tt

query_by : (c : Claims) (r : Registers) (b : ℕ) (t : Triple) → IsByTaken c (query_effect r b t)
unfolding query_effect
query_by c r b t =
    either_by c (eqb b 0) _ _ tt (either_by c (eqb b 1) _ _ tt (either_by c (eqb b 2) _ _ tt
    (either_by c (eqb b 3) _ _ tt (either_by c (eqb b 4) _ _ tt (either_by c (eqb b 5) _ _ tt tt)))))

found_by : (c : Claims) (r : Registers) (rest : List ℕ) (o : Option ℕ) → IsByTaken c (claims_found r rest o)
found_by c r rest None = tt
found_by c r rest (Some d) = tt

takes_by : (c : Claims) (r : Registers) (rest : List ℕ) (kind : Kind) (o : Option ℕ) → IsByTaken c (claims_or_takes c r rest kind o)
takes_by c r rest kind (Some d) = tt
takes_by c r rest kind None =
    either_by c (may_take c kind) (Asking (FreeOf kind) (λ a. with_nest 1 (taken_device c kind a ∷ rest) r)) (Failing Claim)
    (λ a may. ap (λ d. with_nest 1 (d ∷ rest) r) (taken_again c kind a may)) tt

kind_by : (c : Claims) (r : Registers) (rest : List ℕ) (o : Option Kind) → IsByTaken c (claims_kind c r rest o)
kind_by c r rest None = tt
kind_by c r rest (Some kind) = takes_by c r rest kind (free_for (Kinded kind) c)

out_by : (c : Claims) (r : Registers) (number : ℕ) (below : List ℕ) → IsByTaken c (out_effect c r number below)
unfolding out_effect
out_by c r number below =
    either_by c (eqb number 0) _ _ tt
    (either_by c (eqb number 3) _ _ tt
    (either_by c (eqb number 4) _ _ (top_by c below _ (λ n2 rest. found_by c r rest (free_for (Labelled n2) c)))
    (either_by c (eqb number 5) _ _ (top_by c below _ (λ n2 rest. kind_by c r rest (kind_numbered n2)))
    (either_by c (eqb number 6) _ _ (top_by c below _ (λ n2 rest. tt))
    (either_by c (eqb number 8) _ _ (top_by c below _ (λ n2 rest. either_by c (ltb 7 (triple_of n2).c) _ _ tt tt))
    (either_by c (eqb number 9) _ _ tt
    (either_by c (eqb number 64 && c.served) _ _ (top_by c below (λ n2 rest. asks_service r rest n2) (λ n2 rest. tt)) tt)))))))

effect_by : (c : Claims) (r : Registers) (o : Order) → IsByTaken c (effect c r o)
effect_by c r =
    each_effect c r (IsByTaken c) (IsByTaken c) (guarded_by c) (change_by c) (top_by c r.nest (out_effect c r) (λ n below. out_by c r n below))
    (indirect_by c r) (direct_by c r)
    (λ code q. starts_by c r (triple_at r.q q) (transfer_of code (triple_at r.q q).m)) (λ b q. query_by c r b (triple_at r.q q))

or_liv_by : (c : Claims) (r : Registers) (o : Option Order) → IsByTaken c (effect_or_liv c r o)
or_liv_by c r None = tt
or_liv_by c r (Some o) = effect_by c r o

-- so it is with the next order
next_by : (s : State) → IsByTaken s.stock.claims (next_effect s)
next_by s = or_liv_by s.stock.claims s.registers (order_at s.stock.claims.size (word_at s) s.registers.at)

-- the state after an effect
performed : (s : State) (a : ℕ) (e : Effect) → IsFit s.stock.claims e → IsByTaken s.stock.claims e → perform (given s.stock.claims a) e s ≡ perform (λ _. a) e s
performed s a (Failing kind) fit by = refl
performed s a (Ending after) fit by = refl
performed s a (Changing after) fit by = refl
performed s a (Fetching x after) fit by = refl
performed s a (Keeping x w after) fit by = refl
performed s a (Testing d what after) fit by = refl
performed s a (Starting d o first last after) fit by = refl
performed s a (Asking (IsBusy d) after) fit by = refl
performed s a (Asking (IsOut first last) after) fit by = refl
performed s a (Asking Time after) fit by = refl
performed s a (Asking (FreeOf kind) after) fit by =
    ap₂ (λ (r : Registers) (d : ℕ). (let t : State = record {
      registers = record r { ran = s.registers.ran + 1; state = s.registers.state };
      stock =
          taking d (record s.stock { asked = s.stock.asked + 1 });
    } in t))
    (by a fit) (taken_again s.stock.claims kind a fit)
performed s a (Asking (OfService word) after) fit by = refl
performed s a (Claiming d after) fit by = refl
performed s a (Returning pooled d after) fit by = refl
performed s a (Spooling stream first last after) fit by = refl

-- and how it ends
stepped : (s : State) (a : ℕ) (e : Effect) → (done_by (given s.stock.claims a) e s).step ≡ (done_by (λ _. a) e s).step
stepped s a (Failing kind) = refl
stepped s a (Ending after) = refl
stepped s a (Changing after) = refl
stepped s a (Fetching x after) = refl
stepped s a (Keeping x w after) = refl
stepped s a (Testing d what after) = refl
stepped s a (Starting d o first last after) = refl
stepped s a (Asking q after) = refl
stepped s a (Claiming d after) = refl
stepped s a (Returning pooled d after) = refl
stepped s a (Spooling stream first last after) = refl

pub row_given : (s : State) (a : ℕ) → row s (given s.stock.claims a) ≡ row s (λ _. a)
row_given s a = performed s a (next_effect s) (next_fit s.stock.claims (word_at s) s.registers) (next_by s)

pub step_given : (s : State) (a : ℕ) → (next_of s (given s.stock.claims a)).step ≡ (next_of s (λ _. a)).step
step_given s a = stepped s a (next_effect s)
