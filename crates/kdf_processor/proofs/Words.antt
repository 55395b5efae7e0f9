-- The word of which an order asks the service is the one that its nest tells ahead.
use Rattle.std.proofs.Common.{◌≡◌, ℕ, ◌+◌, ◌%◌, ◌^◌, Bool, true, false, cond, eqb, ltb, List, [], ◌∷◌, length, Option, Some, None, refl, sym, ap, ◌∙◌}
use Rattle.std.specs.Prelude.{◌&&◌}
use Rattle.kdf_journal.specs.declared.failure.Failure.{Failure}
use Rattle.kdf_journal.specs.declared.failure.Failure.TheVariants.{Liv, Nouv, Claim, Out}
use Rattle.kdf_journal.specs.declared.kind.Kind.{Kind}
use Rattle.kdf_qstore.specs.declared.triple.Triple.{Triple}
use Rattle.kdf_qstore.specs.Triples.{triple_at, triple_of}
use Rattle.kdf_syllable.specs.declared.order.Order.{Order}
use Rattle.kdf_transfer.specs.AtOnce.{has_area, kind_of}
use Rattle.kdf_transfer.specs.Devices.{is_kind}
use Rattle.kdf_transfer.specs.declared.order.TransferOrder.{TransferOrder}
use Rattle.kdf_transfer.specs.declared.test.Test.TheVariants.{Flag, Start, Mark}
use Rattle.kdf_transfer.specs.declared.wanted.Wanted.TheVariants.{Kinded, Labelled}
use Rattle.kdf_processor.specs.declared.plan.Plan.TheVariants.{ClaimKind, ClaimLabel}
use Rattle.kdf_processor.specs.declared.registers.Registers.{Registers}
use Rattle.kdf_journal.specs.declared.need.Need.{Need}
use Rattle.kdf_processor.specs.Ahead.{act_word, word_ahead, word_asked}
use Rattle.kdf_processor.specs.Claims.{claim, free_for, kind_numbered, may_take, taken_device}
use Rattle.kdf_processor.specs.Effect.{Change, Refused, Going, of_change, Effect, Failing, Ending, Changing, Fetching}
use Rattle.kdf_processor.specs.Effect.{Keeping, Testing, Starting, Asking, IsBusy, IsOut, Time, FreeOf, OfService, Claiming, Returning, Spooling}
use Rattle.kdf_processor.specs.Needs.{effect_at, effect_needs, effect_or_liv, needs_at, order_at}
use Rattle.kdf_processor.specs.Outcome.{done, held_or, outcome, try_effect}
use Rattle.kdf_processor.specs.Plan.{below_two, try_change, try_plan}
use Rattle.kdf_processor.specs.View.{View, first_pending}
use Rattle.kdf_processor.specs.State.{Claims, is_pooled}
use Rattle.kdf_processor.specs.Table.{answered_in_tr, asks_service, change_of, claims_found, claims_kind, claims_or_takes, counts_on, direct_effect, effect}
use Rattle.kdf_processor.specs.Table.{guarded, has_bit, indirect_address, indirect_effect, indirect_half, is_area, moves, on_top, out_effect, part_of}
use Rattle.kdf_processor.specs.Table.{query_effect, sets_tr, spools, starts, transfer_of, with_nest}
use Rattle.kdf_processor.proofs.EachEffect.{each_effect}

-- where an order of this effect asks the service, the program is served, and the nest tells the word
pub record IsTold (c : Claims) (nest : List ℕ) (e : Effect) : Type 0 where
  pub served : (word : ℕ) → word_asked e ≡ Some word → c.served ≡ true
  pub ahead : (word : ℕ) → word_asked e ≡ Some word → word_ahead nest ≡ Some word

-- an effect that isn't such an ask
abbrev pub IsNoAsk : Effect → Type 0
IsNoAsk e = word_asked e ≡ None

none_told : (c : Claims) (nest : List ℕ) (e : Effect) → IsNoAsk e → IsTold c nest e
none_told c nest e none = record { served = λ word is. cc; ahead = λ word is. cc }

either_told : (c : Claims) (nest : List ℕ) (b : Bool) (x y : Effect) → (b ≡ true → IsTold c nest x) → IsTold c nest y → IsTold c nest (cond b x y)
either_told c nest true x y hx hy = hx refl
either_told c nest false x y hx hy = hy

checked_told : (c : Claims) (nest : List ℕ) (b : Bool) (e : Effect) (kind : Failure) → IsTold c nest e → IsTold c nest (cond b e (Failing kind))
checked_told c nest b e kind h = either_told c nest b e (Failing kind) (λ _. h) (none_told c nest (Failing kind) refl)

-- the checks make no effect anything but a failure
guarded_told : (c : Claims) (nest : List ℕ) (e : Effect) → IsTold c nest e → IsTold c nest (guarded c e)
unfolding guarded
guarded_told c nest (Failing kind) h = h
guarded_told c nest (Ending after) h = h
guarded_told c nest (Changing after) h = h
guarded_told c nest (Fetching a after) h = checked_told c nest _ (Fetching a after) Liv h
guarded_told c nest (Keeping a w after) h = checked_told c nest _ (Keeping a w after) Liv h
guarded_told c nest (Testing d Flag after) h = checked_told c nest _ (Testing d Flag after) Claim h
guarded_told c nest (Testing d Start after) h = checked_told c nest _ (Testing d Start after) Claim h
guarded_told c nest (Testing d Mark after) h = checked_told c nest _ (Testing d Mark after) Claim h
guarded_told c nest (Starting d o first last after) h =
    checked_told c nest (is_kind (kind_of o) (claim c d)) _ Claim
    (either_told c nest (has_area o) _ (Starting d o first last after)
    (λ _. checked_told c nest (is_area c.size first last) (Starting d o first last after) Liv h) h)
guarded_told c nest (Asking (IsBusy d) after) h = checked_told c nest _ (Asking (IsBusy d) after) Claim h
guarded_told c nest (Asking (IsOut first last) after) h = checked_told c nest _ (Asking (IsOut first last) after) Liv h
guarded_told c nest (Asking Time after) h = h
guarded_told c nest (Asking (FreeOf kind) after) h = h
guarded_told c nest (Asking (OfService word) after) h = h
guarded_told c nest (Claiming d after) h = h
guarded_told c nest (Returning pooled d after) h = checked_told c nest _ (Returning pooled d after) Claim h
guarded_told c nest (Spooling stream first last after) h = checked_told c nest _ (Spooling stream first last after) Liv h

-- ---- orders that move a word or test a device

either_no_ask : (b : Bool) (x y : Effect) → IsNoAsk x → IsNoAsk y → IsNoAsk (cond b x y)
either_no_ask true x y hx hy = hx
either_no_ask false x y hx hy = hy

top_no_ask : (below : List ℕ) (f : ℕ → List ℕ → Effect) → ((n : ℕ) (rest : List ℕ) → IsNoAsk (f n rest)) → IsNoAsk (on_top (Failing Nouv) below f)
top_no_ask [] f h = refl
top_no_ask (n ∷ rest) f h = h n rest

moves_no_ask : (t : Bool) (r : Registers) (n address : ℕ) (half : Option ℕ) (u : Bool) (q : ℕ) → IsNoAsk (moves t r n address half u q)
moves_no_ask true r n address half u q = top_no_ask r.nest _ (λ n1 below. refl)
moves_no_ask false r n address half u q =
    either_no_ask (ltb (length r.nest) 16) (Fetching address (λ w. with_nest n (part_of half w ∷ r.nest) (counts_on u q r))) (Failing Nouv) refl refl

indirect_no_ask : (r : Registers) (code k q : ℕ) → IsNoAsk (indirect_effect r code k q)
unfolding indirect_effect
indirect_no_ask r code k q =
    moves_no_ask (has_bit 8 code) r 2 (indirect_address code (triple_at r.q k).m (triple_at r.q q).m)
    (indirect_half code (triple_at r.q q).m) (has_bit 4 code) q

direct_no_ask : (r : Registers) (t u : Bool) (q a : ℕ) → IsNoAsk (direct_effect r t u q a)
unfolding direct_effect
direct_no_ask r t u q a = moves_no_ask t r 3 ((a + (triple_at r.q q).m) % 2 ^ 16) None u q

query_no_ask : (r : Registers) (b : ℕ) (t : Triple) → IsNoAsk (query_effect r b t)
unfolding query_effect
query_no_ask r b t =
    either_no_ask (eqb b 0) (Asking (IsBusy t.c) (answered_in_tr r)) _ refl
    (either_no_ask (eqb b 1) (Asking (IsOut t.i t.m) (answered_in_tr r)) _ refl
    (either_no_ask (eqb b 2) (Testing t.c Flag (sets_tr r)) _ refl
    (either_no_ask (eqb b 3) (Testing t.c Start (sets_tr r)) _ refl
    (either_no_ask (eqb b 4) (Testing t.c Mark (sets_tr r)) _ refl
    (either_no_ask (eqb b 5) (Testing t.c Flag (λ is. with_nest 2 r.nest r)) (Failing Liv) refl refl)))))

starts_no_ask : (r : Registers) (t : Triple) (o : Option TransferOrder) → IsNoAsk (starts r t o)
starts_no_ask r t None = refl
starts_no_ask r t (Some o) = refl

change_no_ask : (x : Change) → IsNoAsk (of_change x)
change_no_ask (Refused kind) = refl
change_no_ask (Going after) = refl

-- ---- OUT

found_no_ask : (r : Registers) (rest : List ℕ) (o : Option ℕ) → IsNoAsk (claims_found r rest o)
found_no_ask r rest None = refl
found_no_ask r rest (Some d) = refl

takes_no_ask : (c : Claims) (r : Registers) (rest : List ℕ) (kind : Kind) (o : Option ℕ) → IsNoAsk (claims_or_takes c r rest kind o)
takes_no_ask c r rest kind (Some d) = refl
takes_no_ask c r rest kind None =
    either_no_ask (may_take c kind) (Asking (FreeOf kind) (λ a. with_nest 1 (taken_device c kind a ∷ rest) r)) (Failing Claim) refl refl

kind_no_ask : (c : Claims) (r : Registers) (rest : List ℕ) (o : Option Kind) → IsNoAsk (claims_kind c r rest o)
kind_no_ask c r rest None = refl
kind_no_ask c r rest (Some kind) = takes_no_ask c r rest kind (free_for (Kinded kind) c)

spools_no_ask : (r : Registers) (rest : List ℕ) (t : Triple) → IsNoAsk (spools r rest t)
spools_no_ask r rest t = either_no_ask (ltb 7 t.c) (Failing Out) (Spooling t.c t.i t.m (with_nest 1 rest r)) refl refl

both : (a b : Bool) → (a && b) ≡ true → (a ≡ true) × (b ≡ true)
both true true is = (refl, refl)
both true false is = cc
both false b is = cc

asks_told : (c : Claims) (r : Registers) (number : ℕ) (below : List ℕ) → (eqb number 64 && c.served) ≡ true
    → IsTold c (number ∷ below) (on_top (Failing Nouv) below (λ n2 rest. asks_service r rest n2))
asks_told c r number [] is = none_told c (number ∷ []) (Failing Nouv) refl
asks_told c r number (n2 ∷ rest) is =
    let parts = both (eqb number 64) c.served is in
    record {
      served = λ word asked. parts.1;
      ahead = λ word asked. ap (λ b. cond b (Some n2) None) parts.0 ∙ asked;
    }

out_told : (c : Claims) (r : Registers) (number : ℕ) (below : List ℕ) → IsTold c (number ∷ below) (out_effect c r number below)
unfolding out_effect
out_told c r number below =
    let nest = number ∷ below in
    either_told c nest (eqb number 0) _ _ (λ _. none_told c nest _ refl)
    (either_told c nest (eqb number 3) _ _ (λ _. none_told c nest _ refl)
    (either_told c nest (eqb number 4) _ _ (λ _. none_told c nest _
    (top_no_ask below (λ n2 rest. claims_found r rest (free_for (Labelled n2) c)) (λ n2 rest. found_no_ask r rest (free_for (Labelled n2) c))))
    (either_told c nest (eqb number 5) _ _ (λ _. none_told c nest _
    (top_no_ask below (λ n2 rest. claims_kind c r rest (kind_numbered n2)) (λ n2 rest. kind_no_ask c r rest (kind_numbered n2))))
    (either_told c nest (eqb number 6) _ _ (λ _. none_told c nest _
    (top_no_ask below (λ n2 rest. Returning (is_pooled c n2) n2 (with_nest 1 rest r)) (λ n2 rest. refl)))
    (either_told c nest (eqb number 8) _ _ (λ _. none_told c nest _
    (top_no_ask below (λ n2 rest. spools r rest (triple_of n2)) (λ n2 rest. spools_no_ask r rest (triple_of n2))))
    (either_told c nest (eqb number 9) _ _ (λ _. none_told c nest _ refl)
    (either_told c nest (eqb number 64 && c.served) _ _ (asks_told c r number below) (none_told c nest (Failing Out) refl))))))))

top_told : (c : Claims) (r : Registers) (nest : List ℕ) → IsTold c nest (on_top (Failing Nouv) nest (out_effect c r))
top_told c r [] = none_told c [] (Failing Nouv) refl
top_told c r (number ∷ below) = out_told c r number below

effect_told : (c : Claims) (r : Registers) (o : Order) → IsTold c r.nest (effect c r o)
effect_told c r =
    each_effect c r (IsTold c r.nest) (IsTold c r.nest) (guarded_told c r.nest) (λ x. none (of_change x) (change_no_ask x)) (top_told c r r.nest)
    (λ code k q. none (indirect_effect r code k q) (indirect_no_ask r code k q))
    (λ t u q a. none (direct_effect r t u q a) (direct_no_ask r t u q a))
    (λ code q. none (starts r (triple_at r.q q) (transfer_of code (triple_at r.q q).m))
    (starts_no_ask r (triple_at r.q q) (transfer_of code (triple_at r.q q).m)))
    (λ b q. none (query_effect r b (triple_at r.q q)) (query_no_ask r b (triple_at r.q q)))
  where
    none : (e : Effect) → IsNoAsk e → IsTold c r.nest e
    none = none_told c r.nest

or_liv_told : (c : Claims) (r : Registers) (o : Option Order) → IsTold c r.nest (effect_or_liv c r o)
or_liv_told c r None = none_told c r.nest (Failing Liv) refl
or_liv_told c r (Some o) = effect_told c r o

-- so it is with the next order
pub next_told : (c : Claims) (word : ℕ → ℕ) (r : Registers) → IsTold c r.nest (effect_at c word r)
next_told c word r = or_liv_told c r (order_at c.size word r.at)

-- ---- acts

-- an order that is obeyed asks the service of what its effect asks
pub done_word : (v : View) (r : Registers) (e : Effect) → act_word (done v r e).act ≡ word_asked e
done_word v r (Failing kind) = refl
done_word v r (Ending after) = refl
done_word v r (Changing after) = refl
done_word v r (Fetching a after) = refl
done_word v r (Keeping a w after) = refl
done_word v r (Testing d what after) = refl
done_word v r (Starting d o first last after) = refl
done_word v r (Asking (IsBusy d) after) = refl
done_word v r (Asking (IsOut first last) after) = refl
done_word v r (Asking Time after) = refl
done_word v r (Asking (FreeOf kind) after) = refl
done_word v r (Asking (OfService word) after) = refl
done_word v r (Claiming d after) = refl
done_word v r (Returning pooled d after) = refl
done_word v r (Spooling stream first last after) = refl

-- so where an order asks the service, the program is served, and the nest tells the word
word_told : (v : View) (r : Registers) (word : ℕ) → act_word (outcome v r).act ≡ Some word → (v.claims.served ≡ true) × (word_ahead r.nest ≡ Some word)
word_told v r word = by_need (first_pending v (needs_at v.claims v.word r v.mine))
  where
    by_need : (o : Option Need) → act_word (held_or r o (done v r (effect_at v.claims v.word r))).act ≡ Some word → (v.claims.served ≡ true)
        × (word_ahead r.nest ≡ Some word)
    by_need (Some need) is = cc
    by_need None is =
        let told = next_told v.claims v.word r in
        let asked : word_asked (effect_at v.claims v.word r) ≡ Some word = sym (done_word v r (effect_at v.claims v.word r)) ∙ is in
        (told.served word asked, told.ahead word asked)

-- no other order asks it
pub unserved_word : (v : View) (r : Registers) → v.claims.served ≡ false → act_word (outcome v r).act ≡ None
unserved_word v r unserved = by_word (act_word (outcome v r).act) refl
  where
    by_word : (o : Option ℕ) → act_word (outcome v r).act ≡ o → o ≡ None
    by_word None is = refl
    by_word (Some word) is = cc (sym unserved ∙ (word_told v r word is).0)

pub untold_word : (v : View) (r : Registers) → word_ahead r.nest ≡ None → act_word (outcome v r).act ≡ None
untold_word v r untold = by_word (act_word (outcome v r).act) refl
  where
    by_word : (o : Option ℕ) → act_word (outcome v r).act ≡ o → o ≡ None
    by_word None is = refl
    by_word (Some word) is = cc (sym untold ∙ (word_told v r word is).1)

-- an order asks it neither where it is held up, nor by a change of registers, nor by a claim
unasked : (v : View) (r : Registers) (e : Effect) → IsNoAsk e → act_word (try_effect v r e).act ≡ None
unasked v r e none = by_need (first_pending v (effect_needs v.mine e))
  where
    by_need : (o : Option Need) → act_word (held_or r o (done v r e)).act ≡ None
    by_need (Some need) = refl
    by_need None = done_word v r e ∙ none

pub change_word : (v : View) (r : Registers) (o : Order) → act_word (try_change v r o).act ≡ None
change_word v r o = unasked v r (of_change (change_of r o)) (change_no_ask (change_of r o))

pub label_word : (v : View) (r : Registers) (label : ℕ) → act_word (try_plan v r (ClaimLabel label)).act ≡ None
label_word v r label =
    let free = free_for (Labelled label) v.claims in
    unasked v r (claims_found r (below_two r.nest) free) (found_no_ask r (below_two r.nest) free)

pub kind_word : (v : View) (r : Registers) (kind : Kind) → act_word (try_plan v r (ClaimKind kind)).act ≡ None
kind_word v r kind =
    let free = free_for (Kinded kind) v.claims in
    unasked v r (claims_or_takes v.claims r (below_two r.nest) kind free) (takes_no_ask v.claims r (below_two r.nest) kind free)
