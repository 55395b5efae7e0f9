-- The next order of a program is at one of the 49,152 syllables.
use Rattle.std.proofs.Common.{◌≡◌, ℕ, zero, suc, ◌+◌, ◌*◌, ◌/◌, ◌%◌, ◌<◌, ◌^◌, Bool, true, false, cond, eqb, leb, ltb, not, ◌&&◌, ◌||◌, ◌-◌, List, [], ◌∷◌}
use Rattle.std.proofs.Common.{length, Option, Some, None, refl, arith}
use Rattle.std.specs.Prelude.{IfSome}
use Rattle.std.specs.Int.{is_in_range}
use Rattle.std.proofs.lemmas.Bool.{ltb-true}
use Rattle.kdf_syllable.specs.declared.order.Order.{Order}
use Rattle.kdf_syllable.specs.declared.order.Order.TheVariants.{Plain, Indirect, Single, Copies, Shift, Device, Query, Jump, Exit, Direct, Set}
use Rattle.kdf_qstore.specs.declared.triple.Triple.{Triple}
use Rattle.kdf_qstore.specs.Triples.{triple_at, triple_of}
use Rattle.kdf_syllable.specs.declared.amount.Amount.TheVariants.{Fixed, Count}
use Rattle.kdf_decode.specs.Decoding.{decoded, decoded_two, decoded_jump, decoded_store, decoded_shift, direct, signed_7}
use Rattle.kdf_arith.specs.Arith.{Arith, arith_result}
use Rattle.kdf_arith.specs.declared.order.ArithOrder.TheVariants as arithmetic
use Rattle.kdf_journal.specs.declared.kind.Kind.{Kind}
use Rattle.kdf_journal.specs.declared.kind.Kind.TheVariants.{Mt}
use Rattle.kdf_transfer.specs.AtOnce.{has_area, kind_of}
use Rattle.kdf_transfer.specs.Devices.{is_kind}
use Rattle.kdf_processor.specs.Claims.{claim, is_claimed, may_take}
use Rattle.kdf_transfer.specs.declared.order.TransferOrder.{TransferOrder}
use Rattle.kdf_transfer.specs.declared.test.Test.TheVariants.{Flag, Start, Mark}
use Rattle.kdf_processor.specs.declared.registers.Registers.{Registers}
use Rattle.kdf_processor.specs.State.{Claims, State, word_at}
use Rattle.kdf_processor.specs.Effect.{Question, IsBusy, IsOut, Time, FreeOf, OfService, Change, Refused, Going, Decision, Undecided, Decided, Effect, Failing}
use Rattle.kdf_processor.specs.Effect.{Ending, Changing, Fetching, Keeping, Testing, Starting, Asking, Claiming, Returning, Spooling, of_change}
use Rattle.kdf_processor.specs.Lone.{lone}
use Rattle.kdf_processor.specs.Needs.{count_at, decoded_or_none, effect_or_liv, next_effect, order_at, syllables}
use Rattle.kdf_processor.specs.Row.{perform, row}
use Rattle.kdf_processor.specs.Table.{syllable_after, on_top, arith_changes, link_row, keep_link_row, plain_row, claims_found, claims_or_takes, claims_kind}
use Rattle.kdf_processor.specs.Table.{out_effect}
use Rattle.kdf_processor.specs.Table.{pushes, sets_q, changes_q, short_loop, brought, from_top, changed, single_row, copied, places_of, moves, has_bit}
use Rattle.kdf_processor.specs.Table.{indirect_effect, indirect_address, indirect_half, direct_effect, jumps_so, decision, is_area, exit_row, starts}
use Rattle.kdf_processor.specs.Table.{transfer_of, query_effect, guarded, effect}

-- ---- where an order goes on

-- the order goes on there
abbrev at_after : Registers → Type 0
at_after after = after.at < 49152

abbrev goes_there : Effect → Type 0
goes_there (Failing kind) = Unit {0}
goes_there (Ending after) = at_after after
goes_there (Changing after) = at_after after
goes_there (Fetching a after) = (w : ℕ) → at_after (after w)
goes_there (Keeping a w after) = at_after after
goes_there (Testing d what after) = (b : Bool) → at_after (after b)
goes_there (Starting d o first last after) = at_after after
goes_there (Asking question after) = (a : ℕ) → at_after (after a)
goes_there (Claiming d after) = at_after after
goes_there (Returning pooled d after) = at_after after
goes_there (Spooling stream first last after) = at_after after

record IsPlaced (e : Effect) : Type 0 where
  pub there : goes_there e

abbrev changes_there : Change → Type 0
changes_there (Refused kind) = Unit {0}
changes_there (Going after) = at_after after

record IsSmall (x : Change) : Type 0 where
  pub there : changes_there x

-- what is so either way
if_placed : (b : Bool) {x y : Effect} → IsPlaced x → IsPlaced y → IsPlaced (cond b x y)
if_placed true p q = p
if_placed false p q = q

if_small : (b : Bool) {x y : Change} → IsSmall x → IsSmall y → IsSmall (cond b x y)
if_small true p q = p
if_small false p q = q

top_placed : (nest : List ℕ) (x : Effect) (f : ℕ → List ℕ → Effect) → IsPlaced x → ((n : ℕ) (below : List ℕ) → IsPlaced (f n below))
    → IsPlaced (on_top x nest f)
top_placed [] x f p q = p
top_placed (n ∷ below) x f p q = q n below

top_small : (nest : List ℕ) (x : Change) (f : ℕ → List ℕ → Change) → IsSmall x → ((n : ℕ) (below : List ℕ) → IsSmall (f n below)) → IsSmall (on_top x nest f)
top_small [] x f p q = p
top_small (n ∷ below) x f p q = q n below

on_small : (at n : ℕ) → syllable_after at n < 49152
on_small at n = omega arith

fails : {kind : _} → IsPlaced (Failing kind)
fails = record { there = tt }

refused : {kind : _} → IsSmall (Refused kind)
refused = record { there = tt }

of_change_placed : (x : Change) → IsSmall x → IsPlaced (of_change x)
of_change_placed (Refused kind) p = fails
of_change_placed (Going after) p = record { there = p.there }

-- ---- the rows of the table

link_small : (r : Registers) (links : List ℕ) → IsSmall (link_row r links)
link_small r [] = refused
link_small r (link ∷ links) = if_small (ltb (length r.nest) 16) (record { there = on_small r.at 1 }) refused

keep_link_small : (r : Registers) → IsSmall (keep_link_row r)
keep_link_small r = top_small r.nest _ _ refused (λ n1 below. if_small (ltb (length r.links) 16) (record { there = on_small r.at 1 }) refused)

arith_small : (n : ℕ) (r : Registers) (a : Option Arith) → IsSmall (arith_changes n r a)
arith_small n r None = refused
arith_small n r (Some a) = record { there = on_small r.at n }

plain_small : (r : Registers) (code : ℕ) → IsSmall (plain_row r code)
unfolding plain_row
plain_small r code =
    if_small (eqb code 0x01) (record { there = on_small r.at 1 })
    (if_small (eqb code 0x1D) (link_small r r.links)
    (if_small (eqb code 0x1E) (keep_link_small r)
    (if_small (leb code 0x20) (arith_small 1 r (arith_result (arithmetic.Plain code) r.nest r.flags)) refused)))

pushes_small : (r : Registers) (n w : ℕ) → IsSmall (pushes r n w)
pushes_small r n w = if_small (ltb (length r.nest) 16) (record { there = on_small r.at n }) refused

sets_small : (r : Registers) (q : ℕ) (f : ℕ → Triple) → IsSmall (sets_q r q f)
sets_small r q f = top_small r.nest _ _ refused (λ n1 below. record { there = on_small r.at 2 })

changes_small : (r : Registers) (q : ℕ) (t : Triple) → IsSmall (changes_q r q t)
changes_small r q t = record { there = on_small r.at 2 }

loop_small : (r : Registers) (counter : ℕ) → IsSmall (short_loop r counter)
loop_small r counter = if_small (eqb counter 0) (record { there = on_small r.at 2 }) (record { there = omega arith })

single_small : (r : Registers) (code q : ℕ) (t : Triple) → IsSmall (single_row r code q t)
unfolding single_row
single_small r code q t =
    if_small (ltb code 0x54) (pushes_small r 2 (brought code t))
    (if_small (ltb code 0x5F) (sets_small r q (λ n1. from_top code n1 t))
    (if_small (ltb code 0x63) (changes_small r q (changed code t))
    (if_small (eqb code 0x6F) (loop_small r t.c) refused)))

goes_small : (r : Registers) (target : ℕ) (b : Bool) → target / 8192 < 6 → cond b (6 * (target % 8192) + target / 8192) (syllable_after r.at 3) < 49152
goes_small r target true lt = omega (arith, lt)
goes_small r target false lt = on_small r.at 3

jump_small : (target : ℕ) → target / 8192 < 6 → (d : Decision) → IsSmall (jumps_so target d)
jump_small target lt (Undecided kind) = refused
jump_small target lt (Decided jumps after) = record { there = goes_small after target jumps lt }

exit_small : (r : Registers) (n : ℕ) (links : List ℕ) → IsSmall (exit_row r n links)
unfolding exit_row
exit_small r n [] = refused
exit_small r n (link ∷ links) = if_small (ltb (link / 8192) 6) (record { there = on_small (6 * (link % 8192) + link / 8192) (3 * n) }) refused

found_placed : (r : Registers) (rest : List ℕ) (d : Option ℕ) → IsPlaced (claims_found r rest d)
found_placed r rest None = fails
found_placed r rest (Some d) = record { there = on_small r.at 1 }

takes_placed : (c : Claims) (r : Registers) (rest : List ℕ) (kind : Kind) (d : Option ℕ) → IsPlaced (claims_or_takes c r rest kind d)
takes_placed c r rest kind (Some d) = record { there = on_small r.at 1 }
takes_placed c r rest kind None = if_placed (may_take c kind) (record { there = λ a. on_small r.at 1 }) fails

kind_placed : (c : Claims) (r : Registers) (rest : List ℕ) (kind : Option Kind) → IsPlaced (claims_kind c r rest kind)
kind_placed c r rest None = fails
kind_placed c r rest (Some kind) = takes_placed c r rest kind _

out_placed : (c : Claims) (r : Registers) (number : ℕ) (below : List ℕ) → IsPlaced (out_effect c r number below)
unfolding out_effect
out_placed c r number below =
    if_placed (eqb number 0) (record { there = on_small r.at 1 })
    (if_placed (eqb number 3) (record { there = on_small r.at 1 })
    (if_placed (eqb number 4) (top_placed below _ _ fails (λ n2 rest. found_placed r rest _))
    (if_placed (eqb number 5) (top_placed below _ _ fails (λ n2 rest. kind_placed c r rest _))
    (if_placed (eqb number 6) (top_placed below _ _ fails (λ n2 rest. record { there = on_small r.at 1 }))
    (if_placed (eqb number 8) (top_placed below _ _ fails (λ n2 rest. if_placed (ltb 7 (triple_of n2).c) fails (record { there = on_small r.at 1 })))
    (if_placed (eqb number 9) (record { there = λ t. on_small r.at 1 })
    (if_placed (eqb number 64 && c.served) (top_placed below _ _ fails (λ n2 rest. record { there = λ a. on_small r.at 1 })) fails)))))))

moves_placed : (t : Bool) (r : Registers) (n address : ℕ) (half : Option ℕ) (u : Bool) (q : ℕ) → IsPlaced (moves t r n address half u q)
moves_placed true r n address half true q = top_placed r.nest _ _ fails (λ n1 below. record { there = on_small r.at n })
moves_placed true r n address half false q = top_placed r.nest _ _ fails (λ n1 below. record { there = on_small r.at n })
moves_placed false r n address half true q = if_placed (ltb (length r.nest) 16) (record { there = λ w. on_small r.at n }) fails
moves_placed false r n address half false q = if_placed (ltb (length r.nest) 16) (record { there = λ w. on_small r.at n }) fails

indirect_placed : (r : Registers) (code k q : ℕ) → IsPlaced (indirect_effect r code k q)
unfolding indirect_effect
indirect_placed r code k q =
    moves_placed (has_bit 8 code) r 2 (indirect_address code (triple_at r.q k).m (triple_at r.q q).m)
    (indirect_half code (triple_at r.q q).m) (has_bit 4 code) q

direct_placed : (r : Registers) (t u : Bool) (q a : ℕ) → IsPlaced (direct_effect r t u q a)
unfolding direct_effect
direct_placed r t u q a = moves_placed t r 3 ((a + (triple_at r.q q).m) % 2 ^ 16) None u q

starts_placed : (r : Registers) (t : Triple) (o : Option TransferOrder) → IsPlaced (starts r t o)
starts_placed r t None = fails
starts_placed r t (Some o) = record { there = on_small r.at 2 }

query_placed : (r : Registers) (b : ℕ) (t : Triple) → IsPlaced (query_effect r b t)
unfolding query_effect
query_placed r b t =
    if_placed (eqb b 0) (record { there = λ a. on_small r.at 2 })
    (if_placed (eqb b 1) (record { there = λ a. on_small r.at 2 })
    (if_placed (eqb b 2) (record { there = λ is. on_small r.at 2 })
    (if_placed (eqb b 3) (record { there = λ is. on_small r.at 2 })
    (if_placed (eqb b 4) (record { there = λ is. on_small r.at 2 })
    (if_placed (eqb b 5) (record { there = λ is. on_small r.at 2 }) fails)))))

-- ---- any order

guarded_placed : (c : Claims) (e : Effect) → IsPlaced e → IsPlaced (guarded c e)
unfolding guarded
guarded_placed c (Failing kind) h = h
guarded_placed c (Ending after) h = h
guarded_placed c (Changing after) h = h
guarded_placed c (Fetching a after) h = if_placed (ltb a c.size) h fails
guarded_placed c (Keeping a w after) h = if_placed (ltb a c.size) h fails
guarded_placed c (Testing d Flag after) h = if_placed (is_claimed c d) h fails
guarded_placed c (Testing d Start after) h = if_placed (is_kind Mt (claim c d)) h fails
guarded_placed c (Testing d Mark after) h = if_placed (is_kind Mt (claim c d)) h fails
guarded_placed c (Starting d o first last after) h =
    if_placed (is_kind (kind_of o) (claim c d)) (if_placed (has_area o) (if_placed (is_area c.size first last) h fails) h) fails
guarded_placed c (Asking (IsBusy d) after) h = if_placed (is_claimed c d) h fails
guarded_placed c (Asking (IsOut first last) after) h = if_placed (is_area c.size first last) h fails
guarded_placed c (Asking Time after) h = h
guarded_placed c (Asking (FreeOf kind) after) h = h
guarded_placed c (Asking (OfService word) after) h = h
guarded_placed c (Claiming d after) h = h
guarded_placed c (Returning pooled d after) h = if_placed (is_claimed c d) h fails
guarded_placed c (Spooling stream first last after) h = if_placed (is_area c.size first last) h fails

-- the target of a jump is a syllable that there is
abbrev is_targeted : Order → Type 0
is_targeted (Jump c target) = target / 8192 < 6
is_targeted o = Unit {0}

effect_placed : (c : Claims) (r : Registers) (o : Order) → is_targeted o → IsPlaced (effect c r o)
effect_placed c r (Plain code) lt =
    if_placed (eqb code 0x21) (guarded_placed c _ (top_placed r.nest _ _ fails (λ n below. out_placed c r n below)))
    (of_change_placed (plain_row r code) (plain_small r code))
effect_placed c r (Indirect code k q) lt = guarded_placed c _ (indirect_placed r code k q)
effect_placed c r (Single code q) lt = of_change_placed _ (single_small r code q (triple_at r.q q))
effect_placed c r (Copies code q k) lt = of_change_placed _ (changes_small r k (copied code (triple_at r.q q) (triple_at r.q k)))
effect_placed c r (Shift code by) lt = of_change_placed _ (arith_small 2 r (arith_result (arithmetic.Shift code (places_of r by)) r.nest r.flags))
effect_placed c r (Device code q) lt = guarded_placed c _ (starts_placed r (triple_at r.q q) (transfer_of code (triple_at r.q q).m))
effect_placed c r (Query b q) lt = guarded_placed c _ (query_placed r b (triple_at r.q q))
effect_placed c r (Jump x target) lt = of_change_placed _ (jump_small target lt (decision r x))
effect_placed c r (Exit n) lt = of_change_placed _ (exit_small r n r.links)
effect_placed c r (Direct t u q a) lt = guarded_placed c _ (direct_placed r t u q a)
effect_placed c r (Set constant) lt = of_change_placed _ (pushes_small r 3 _)

-- ---- the order that syllables spell

record AreTargeted (o : Option Order) : Type 0 where
  pub each : IfSome o is_targeted

none_targeted : AreTargeted None
none_targeted = record { each = tt }

spelt : (o : Order) → is_targeted o → AreTargeted (Some o)
spelt o is = record { each = is }

if_targeted : (b : Bool) {x y : Option Order} → AreTargeted x → AreTargeted y → AreTargeted (cond b x y)
if_targeted true p q = p
if_targeted false p q = q

only_targeted : (b : Bool) (a target : ℕ) → (b ≡ true → target / 8192 < 6) → AreTargeted (cond b (Some (Jump a target)) None)
only_targeted true a target lt = record { each = lt refl }
only_targeted false a target lt = none_targeted

shift_targeted : (a b : ℕ) → AreTargeted (decoded_shift a b)
shift_targeted a b =
    if_targeted (eqb (b % 2) 1) (spelt (Shift a (Fixed (signed_7 (b / 2)))) tt)
    (if_targeted (eqb (b % 16) 0) (spelt (Shift a (Count (b / 16))) tt) none_targeted)

two_targeted : (a b : ℕ) → AreTargeted (decoded_two a b)
two_targeted a b =
    if_targeted (is_in_range 0x40 0x4f a) (spelt (Indirect a (b / 16) (b % 16)) tt)
    (if_targeted (is_in_range 0x50 0x62 a || eqb a 0x6f) (if_targeted (eqb (b % 16) 0) (spelt (Single a (b / 16)) tt) none_targeted)
    (if_targeted (is_in_range 0x63 0x69 a) (spelt (Copies a (b / 16) (b % 16)) tt)
    (if_targeted (is_in_range 0x6a 0x6e a) (shift_targeted a b)
    (if_targeted (is_in_range 0x70 0x7d a) (if_targeted (eqb (b % 16) 0) (spelt (Device a (b / 16)) tt) none_targeted)
    (if_targeted (eqb a 0x7e && leb (b % 16) 5) (spelt (Query (b % 16) (b / 16)) tt) none_targeted)))))

jump_targeted : (a b d : ℕ) → AreTargeted (decoded_jump a b d)
jump_targeted a b d =
    if_targeted (is_in_range 0x80 0xb1 a)
    (only_targeted (ltb ((2 ^ 8 * b + d) / 8192) 6) (a - 0x80) (2 ^ 8 * b + d) (λ is. ltb-true ((2 ^ 8 * b + d) / 8192) 6 is))
    (if_targeted (eqb a 0xb2 && eqb b 0) (spelt (Exit d) tt) none_targeted)

store_targeted : (a b d : ℕ) → AreTargeted (decoded_store a b d)
store_targeted a b d =
    if_targeted (is_in_range 0xc0 0xdf a) (spelt (direct (2 ^ 16 * a + 2 ^ 8 * b + d)) tt)
    (if_targeted (eqb a 0xe0) (spelt (Set (2 ^ 8 * b + d)) tt) none_targeted)

decoded_targeted : (xs : List ℕ) → AreTargeted (decoded xs)
unfolding decoded
decoded_targeted [] = none_targeted
decoded_targeted (a ∷ []) = if_targeted (is_in_range 0x01 0x21 a && not (eqb a 0x13)) (spelt (Plain a) tt) none_targeted
decoded_targeted (a ∷ b ∷ []) = two_targeted a b
decoded_targeted (a ∷ b ∷ d ∷ []) = if_targeted (ltb a 0xc0) (jump_targeted a b d) (store_targeted a b d)
decoded_targeted (a ∷ b ∷ d ∷ x ∷ xs) = none_targeted

order_targeted : (xs : Option (List ℕ)) → AreTargeted (decoded_or_none xs)
order_targeted None = none_targeted
order_targeted (Some xs) = decoded_targeted xs

liv_placed : (c : Claims) (r : Registers) (o : Option Order) → AreTargeted o → IsPlaced (effect_or_liv c r o)
liv_placed c r None is = fails
liv_placed c r (Some o) is = effect_placed c r o is.each

next_placed : (s : State) → IsPlaced (next_effect s)
next_placed s = liv_placed s.stock.claims s.registers (order_at s.stock.claims.size (word_at s) s.registers.at)
    (order_targeted (syllables (count_at s.stock.claims.size (word_at s) s.registers.at) s.stock.claims.size (word_at s) s.registers.at))

-- ---- a program run alone

done_there : (answer : Question → ℕ) (e : Effect) (s : State) → s.registers.at < 49152 → goes_there e → (perform answer e s).registers.at < 49152
done_there answer (Failing kind) s lt there = lt
done_there answer (Ending after) s lt there = there
done_there answer (Changing after) s lt there = there
done_there answer (Fetching a after) s lt there = there _
done_there answer (Keeping a w after) s lt there = there
done_there answer (Testing d what after) s lt there = there _
done_there answer (Starting d o first last after) s lt there = there
done_there answer (Asking question after) s lt there = there _
done_there answer (Claiming d after) s lt there = there
done_there answer (Returning pooled d after) s lt there = there
done_there answer (Spooling stream first last after) s lt there = there

row_there : (answer : Question → ℕ) (s : State) → s.registers.at < 49152 → (row s answer).registers.at < 49152
row_there answer s lt = done_there answer (next_effect s) s lt (next_placed s).there

step_there : (b : Bool) (answer : Question → ℕ) (s : State) → s.registers.at < 49152 → (cond b (row s answer) s).registers.at < 49152
step_there true answer s lt = row_there answer s lt
step_there false answer s lt = lt

pub lone_there : (start : State) (answers : List ℕ) (n : ℕ) → start.registers.at < 49152 → (lone start answers n).registers.at < 49152
lone_there start answers zero lt = lt
lone_there start answers (suc n) lt = step_there _ _ (lone start answers n) (lone_there start answers n lt)
