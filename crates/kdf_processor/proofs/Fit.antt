-- What an order claims, asks of the pool, or gives back: it claims a device of the program's own; it takes only where a device of the
-- kind isn't claimed; and a device goes back to the pool exactly where it is of the pool.
use Rattle.std.specs.Prelude.{find}
use Rattle.std.specs.List.{range_with_len}
use Rattle.std.proofs.Common.{◌≡◌, ℕ, ◌+◌, ◌%◌, ◌^◌, ltb, eqb, Bool, true, false, ◌&&◌, cond, not, List, [], ◌∷◌, length, Option, Some, None, is_some, refl}
use Rattle.std.proofs.Common.{sym, ap, ◌∙◌, subst, ⊎_elim}
use Rattle.std.proofs.lemmas.Bool.{and_parts, cases_Bool, false≢true}
use Rattle.kdf_journal.specs.declared.failure.Failure.TheVariants.{Liv, Nouv, Out, Claim}
use Rattle.kdf_journal.specs.declared.kind.Kind.{Kind}
use Rattle.kdf_journal.specs.declared.kind.Kind.TheVariants.{Mt}
use Rattle.kdf_syllable.specs.declared.order.Order.{Order}
use Rattle.kdf_syllable.specs.declared.order.Order.TheVariants as order
use Rattle.kdf_qstore.specs.declared.triple.Triple.{Triple}
use Rattle.kdf_qstore.specs.Triples.{triple_at, triple_of}
use Rattle.kdf_transfer.specs.AtOnce.{kind_of, has_area}
use Rattle.kdf_transfer.specs.declared.order.TransferOrder.{TransferOrder}
use Rattle.kdf_processor.specs.declared.registers.Registers.{Registers}
use Rattle.kdf_transfer.specs.declared.test.Test.TheVariants.{Flag, Start, Mark}
use Rattle.kdf_transfer.specs.declared.wanted.Wanted.TheVariants.{Kinded, Labelled}
use Rattle.kdf_processor.specs.Claims.{claim, free_for, is_claimed, is_free, kind_numbered, may_take, taken_device}
use Rattle.kdf_processor.proofs.Frees.{none_of_kind}
use Rattle.kdf_transfer.specs.Devices.{Fixture, is_kind, is_wanted}
use Rattle.kdf_transfer.specs.declared.wanted.Wanted.{Wanted}
use Rattle.kdf_processor.specs.State.{Claims, device_limit, is_pooled, own_fixture_at}
use Rattle.kdf_processor.specs.Effect.{Change, Refused, Going, of_change, Effect, Failing, Ending, Changing, Fetching, Keeping, Testing, Starting, Asking}
use Rattle.kdf_processor.specs.Effect.{IsBusy, IsOut, Time, OfService, FreeOf, Claiming, Returning, Spooling}
use Rattle.kdf_processor.specs.Needs.{effect_at, effect_or_liv, order_at}
use Rattle.kdf_processor.specs.Table.{answered_in_tr, asks_service, change_of, claims_found, claims_kind, claims_or_takes, device_effect, direct_effect, effect}
use Rattle.kdf_processor.specs.Table.{guarded, has_bit, indirect_address, indirect_effect, indirect_half, is_area, moves, on_top, out_effect, plain_row}
use Rattle.kdf_processor.specs.Table.{query_effect, sets_tr, spools, starts, transfer_of, with_nest}

abbrev pub IsFit : Claims → Effect → Type 0
IsFit c (Asking (FreeOf kind) after) = may_take c kind ≡ true
IsFit c (Claiming d after) = is_some (own_fixture_at c d) ≡ true
IsFit c (Returning pooled d after) = pooled ≡ is_pooled c d
IsFit c _ = Unit {0}

either_fit : (c : Claims) (b : Bool) (x y : Effect) → (b ≡ true → IsFit c x) → IsFit c y → IsFit c (cond b x y)
either_fit c true x y hx hy = hx refl
either_fit c false x y hx hy = hy

pub top_fit : (c : Claims) (nest : List ℕ) (f : ℕ → List ℕ → Effect) → ((n : ℕ) (below : List ℕ) → IsFit c (f n below)) → IsFit c (on_top (Failing Nouv) nest f)
top_fit c [] f h = tt
top_fit c (n ∷ below) f h = h n below

guarded_fit : (c : Claims) (e : Effect) → IsFit c e → IsFit c (guarded c e)
unfolding guarded
guarded_fit c (Failing kind) h = tt
guarded_fit c (Ending after) h = tt
guarded_fit c (Changing after) h = tt
guarded_fit c (Fetching a after) h = either_fit c (ltb a c.size) (Fetching a after) (Failing Liv) (λ _. tt) tt
guarded_fit c (Keeping a w after) h = either_fit c (ltb a c.size) (Keeping a w after) (Failing Liv) (λ _. tt) tt
guarded_fit c (Testing d Flag after) h = either_fit c (is_claimed c d) (Testing d Flag after) (Failing Claim) (λ _. tt) tt
guarded_fit c (Testing d Start after) h = either_fit c (is_kind Mt (claim c d)) (Testing d Start after) (Failing Claim) (λ _. tt) tt
guarded_fit c (Testing d Mark after) h = either_fit c (is_kind Mt (claim c d)) (Testing d Mark after) (Failing Claim) (λ _. tt) tt
guarded_fit c (Starting d o first last after) h =
    either_fit c (is_kind (kind_of o) (claim c d)) _ (Failing Claim)
    (λ _. either_fit c (has_area o) _ (Starting d o first last after)
    (λ _. either_fit c (is_area c.size first last) (Starting d o first last after) (Failing Liv) (λ _. tt) tt) tt)
    tt
guarded_fit c (Asking (IsBusy d) after) h = either_fit c (is_claimed c d) (Asking (IsBusy d) after) (Failing Claim) (λ _. tt) tt
guarded_fit c (Asking (IsOut first last) after) h = either_fit c (is_area c.size first last) (Asking (IsOut first last) after) (Failing Liv) (λ _. tt) tt
guarded_fit c (Asking Time after) h = tt
guarded_fit c (Asking (FreeOf kind) after) h = h
guarded_fit c (Asking (OfService word) after) h = tt
guarded_fit c (Claiming d after) h = h
guarded_fit c (Returning pooled d after) h = either_fit c (is_claimed c d) (Returning pooled d after) (Failing Claim) (λ _. h) tt
guarded_fit c (Spooling stream first last after) h = either_fit c (is_area c.size first last) (Spooling stream first last after) (Failing Liv) (λ _. tt) tt

change_fit : (c : Claims) (x : Change) → IsFit c (of_change x)
change_fit c (Refused kind) = tt
change_fit c (Going after) = tt

moves_fit : (c : Claims) (t : Bool) (r : Registers) (n address : ℕ) (half : Option ℕ) (u : Bool) (q : ℕ) → IsFit c (moves t r n address half u q)
moves_fit c true r n address half u q = top_fit c r.nest _ (λ n1 below. tt)
moves_fit c false r n address half u q = either_fit c (ltb (length r.nest) 16) _ (Failing Nouv) (λ _. tt) tt

pub indirect_fit : (c : Claims) (r : Registers) (code k q : ℕ) → IsFit c (indirect_effect r code k q)
unfolding indirect_effect
indirect_fit c r code k q =
    moves_fit c (has_bit 8 code) r 2 (indirect_address code (triple_at r.q k).m (triple_at r.q q).m)
    (indirect_half code (triple_at r.q q).m) (has_bit 4 code) q

pub direct_fit : (c : Claims) (r : Registers) (t u : Bool) (q a : ℕ) → IsFit c (direct_effect r t u q a)
unfolding direct_effect
direct_fit c r t u q a = moves_fit c t r 3 ((a + (triple_at r.q q).m) % 2 ^ 16) None u q

pub starts_fit : (c : Claims) (r : Registers) (t : Triple) (o : Option TransferOrder) → IsFit c (starts r t o)
starts_fit c r t None = tt
starts_fit c r t (Some o) = tt

pub query_fit : (c : Claims) (r : Registers) (b : ℕ) (t : Triple) → IsFit c (query_effect r b t)
unfolding query_effect
query_fit c r b t =
    let waits = cond (eqb b 5) (Testing t.c Flag (λ is. with_nest 2 r.nest r)) (Failing Liv) in
    let mark = cond (eqb b 4) (Testing t.c Mark (sets_tr r)) waits in
    let start = cond (eqb b 3) (Testing t.c Start (sets_tr r)) mark in
    let flag = cond (eqb b 2) (Testing t.c Flag (sets_tr r)) start in
    let out = cond (eqb b 1) (Asking (IsOut t.i t.m) (answered_in_tr r)) flag in
    either_fit c (eqb b 0) (Asking (IsBusy t.c) (answered_in_tr r)) out (λ _. tt)
    (either_fit c (eqb b 1) (Asking (IsOut t.i t.m) (answered_in_tr r)) flag (λ _. tt)
    (either_fit c (eqb b 2) (Testing t.c Flag (sets_tr r)) start (λ _. tt)
    (either_fit c (eqb b 3) (Testing t.c Start (sets_tr r)) mark (λ _. tt)
    (either_fit c (eqb b 4) (Testing t.c Mark (sets_tr r)) waits (λ _. tt)
    (either_fit c (eqb b 5) (Testing t.c Flag (λ is. with_nest 2 r.nest r)) (Failing Liv) (λ _. tt) tt)))))

-- ---- OUT

pub found : {X : Type 0} (f : X → Bool) (xs : List X) (x : X) → find f xs ≡ Some x → f x ≡ true
found f [] x e = cc
found f (y ∷ xs) x e =
    ⊎_elim
    (λ (is : f y ≡ true). let same : y ≡ x = some_same (sym (ap (λ b. cond b (Some y) (find f xs)) is) ∙ e) in subst (λ z. f z ≡ true) same is)
    (λ (no : f y ≡ false). found f xs x (sym (ap (λ b. cond b (Some y) (find f xs)) no) ∙ e))
    (cases_Bool (f y))
  where
    some_same : Some y ≡ Some x → y ≡ x
    some_same e = cc

-- a device that a claim finds is the program's own
wanted_own : (wanted : Wanted) (o : Option Fixture) → is_wanted wanted o ≡ true → is_some o ≡ true
wanted_own (Kinded k) None is = absurd (false≢true (sym (none_of_kind k) ∙ is))
wanted_own (Kinded k) (Some f) is = refl
wanted_own (Labelled label) None is = cc
wanted_own (Labelled label) (Some f) is = refl

free_own : (c : Claims) (wanted : Wanted) (d : ℕ) → free_for wanted c ≡ Some d → is_some (own_fixture_at c d) ≡ true
unfolding free_for
free_own c wanted d e =
    wanted_own wanted (own_fixture_at c d)
    (and_parts (is_wanted wanted (own_fixture_at c d)) (not (is_claimed c d)) (found (is_free wanted c) (range_with_len 0 device_limit) d e)).0

found_fit : (c : Claims) (r : Registers) (rest : List ℕ) (o : Option ℕ) → ((d : ℕ) → o ≡ Some d → is_some (own_fixture_at c d) ≡ true)
    → IsFit c (claims_found r rest o)
found_fit c r rest None own = tt
found_fit c r rest (Some d) own = own d refl

takes_fit : (c : Claims) (r : Registers) (rest : List ℕ) (kind : Kind) (o : Option ℕ) → ((d : ℕ) → o ≡ Some d → is_some (own_fixture_at c d) ≡ true)
    → IsFit c (claims_or_takes c r rest kind o)
takes_fit c r rest kind (Some d) own = own d refl
takes_fit c r rest kind None own = either_fit c (may_take c kind) (Asking (FreeOf kind) (λ a. with_nest 1 (taken_device c kind a ∷ rest) r)) (Failing Claim)
    (λ is. is) tt

kind_fit : (c : Claims) (r : Registers) (rest : List ℕ) (o : Option Kind) → IsFit c (claims_kind c r rest o)
kind_fit c r rest None = tt
kind_fit c r rest (Some kind) = takes_fit c r rest kind (free_for (Kinded kind) c) (free_own c (Kinded kind))

spools_fit : (c : Claims) (r : Registers) (rest : List ℕ) (t : Triple) → IsFit c (spools r rest t)
spools_fit c r rest t = either_fit c (ltb 7 t.c) (Failing Out) (Spooling t.c t.i t.m (with_nest 1 rest r)) (λ _. tt) tt

pub out_fit : (c : Claims) (r : Registers) (number : ℕ) (below : List ℕ) → IsFit c (out_effect c r number below)
unfolding out_effect
out_fit c r number below =
    either_fit c (eqb number 0) _ _ (λ _. tt)
    (either_fit c (eqb number 3) _ _ (λ _. tt)
    (either_fit c (eqb number 4) _ _ (λ _. top_fit c below _ (λ n2 rest. found_fit c r rest (free_for (Labelled n2) c) (free_own c (Labelled n2))))
    (either_fit c (eqb number 5) _ _ (λ _. top_fit c below _ (λ n2 rest. kind_fit c r rest (kind_numbered n2)))
    (either_fit c (eqb number 6) _ _ (λ _. top_fit c below (λ n2 rest. Returning (is_pooled c n2) n2 (with_nest 1 rest r)) (λ n2 rest. refl))
    (either_fit c (eqb number 8) _ _ (λ _. top_fit c below _ (λ n2 rest. spools_fit c r rest (triple_of n2)))
    (either_fit c (eqb number 9) _ _ (λ _. tt)
    (either_fit c (eqb number 64 && c.served) _ _ (λ _. top_fit c below (λ n2 rest. asks_service r rest n2) (λ n2 rest. tt)) tt)))))))

effect_fit : (c : Claims) (r : Registers) (o : Order) → IsFit c (effect c r o)
effect_fit c r (order.Plain code) =
    either_fit c (eqb code 0x21) (guarded c (on_top (Failing Nouv) r.nest (out_effect c r))) (of_change (plain_row r code))
    (λ _. guarded_fit c (on_top (Failing Nouv) r.nest (out_effect c r)) (top_fit c r.nest (out_effect c r) (λ n below. out_fit c r n below)))
    (change_fit c (plain_row r code))
effect_fit c r (order.Indirect code k q) = guarded_fit c (indirect_effect r code k q) (indirect_fit c r code k q)
effect_fit c r (order.Single code q) = change_fit c (change_of r (order.Single code q))
effect_fit c r (order.Copies code q k) = change_fit c (change_of r (order.Copies code q k))
effect_fit c r (order.Shift code by) = change_fit c (change_of r (order.Shift code by))
effect_fit c r (order.Device code q) = guarded_fit c (device_effect r code (triple_at r.q q))
    (starts_fit c r (triple_at r.q q) (transfer_of code (triple_at r.q q).m))
effect_fit c r (order.Query b q) = guarded_fit c (query_effect r b (triple_at r.q q)) (query_fit c r b (triple_at r.q q))
effect_fit c r (order.Jump x target) = change_fit c (change_of r (order.Jump x target))
effect_fit c r (order.Exit n) = change_fit c (change_of r (order.Exit n))
effect_fit c r (order.Direct t u q a) = guarded_fit c (direct_effect r t u q a) (direct_fit c r t u q a)
effect_fit c r (order.Set constant) = change_fit c (change_of r (order.Set constant))

or_liv_fit : (c : Claims) (r : Registers) (o : Option Order) → IsFit c (effect_or_liv c r o)
or_liv_fit c r None = tt
or_liv_fit c r (Some o) = effect_fit c r o

-- so it is with the next order
pub next_fit : (c : Claims) (word : ℕ → ℕ) (r : Registers) → IsFit c (effect_at c word r)
next_fit c word r = or_liv_fit c r (order_at c.size word r.at)
