-- The numbers of the devices of a job.
use Rattle.std.proofs.Common.{◌≡◌, ◌≢◌, ℕ, zero, suc, ◌<◌, Bool, true, false, cond, eqb, ◌||◌, List, [], ◌∷◌, ◌++◌, length, get_or, map, Option, Some, None}
use Rattle.std.proofs.Common.{is_some, refl, sym, ap, ◌∙◌, ⊎_elim, arith}
use Rattle.std.specs.Prelude.{find, nat_eq}
use Rattle.std.specs.List.{AllByRecursion, IsDistinct, flat_map, list_any}
use Rattle.std.specs.Option.{option_map}
use Rattle.std.proofs.lemmas.Bool.{cases_eq, eq-eqb, ne_eqb}
use Rattle.std.proofs.lemmas.List.{map-append}
use Rattle.std.proofs.lemmas.List.Concat.{flat_map-cons}
use Rattle.kdf_journal.specs.declared.kind.Kind.{Kind}
use Rattle.kdf_job.specs.Draft.{pool_numbers, numbers_of}
use Rattle.kdf_job.specs.Job.{JobDevice, ShownSlot}
use Rattle.kdf_job.specs.Slots.{lent_kind, numbered}

-- ---- a number in a list

abbrev pub has : List ℕ → ℕ → Bool
has ns d = list_any (λ n. eqb n d) ns

or_more : (b x y : Bool) → (x ≡ true → y ≡ true) → (b || x) ≡ true → (b || y) ≡ true
or_more true x y more is = refl
or_more false x y more is = more is

or_right : (b x : Bool) → x ≡ true → (b || x) ≡ true
or_right true x is = refl
or_right false x is = is

-- one of either of two lists is one of both together
pub has_left : (ms ns : List ℕ) (d : ℕ) → has ms d ≡ true → has (ms ++ ns) d ≡ true
has_left [] ns d is = cc
has_left (m ∷ ms) ns d is = or_more (eqb m d) (has ms d) (has (ms ++ ns) d) (has_left ms ns d) is

pub has_right : (ms ns : List ℕ) (d : ℕ) → has ns d ≡ true → has (ms ++ ns) d ≡ true
has_right [] ns d is = is
has_right (m ∷ ms) ns d is = or_right (eqb m d) (has (ms ++ ns) d) (has_right ms ns d is)

neither : (b x : Bool) → (b || x) ≡ false → (b ≡ false) × (x ≡ false)
neither false x not = (refl, not)
neither true x not = cc

or_false : (b x : Bool) → b ≡ false → x ≡ false → (b || x) ≡ false
or_false false x p q = q
or_false true x p q = cc

-- and one of neither list is one of none
pub lacks_left : (ms ns : List ℕ) (d : ℕ) → has (ms ++ ns) d ≡ false → has ms d ≡ false
lacks_left [] ns d not = refl
lacks_left (m ∷ ms) ns d not =
    let parts = neither (eqb m d) (has (ms ++ ns) d) not in
    or_false (eqb m d) (has ms d) parts.0 (lacks_left ms ns d parts.1)

pub lacks_right : (ms ns : List ℕ) (d : ℕ) → has (ms ++ ns) d ≡ false → has ns d ≡ false
lacks_right [] ns d not = not
lacks_right (m ∷ ms) ns d not = lacks_right ms ns d (neither (eqb m d) (has (ms ++ ns) d) not).1

-- ---- lists in which no number stands twice

right_of : (P : ℕ → Type 0) (ms ns : List ℕ) → AllByRecursion P (ms ++ ns) → AllByRecursion P ns
right_of P [] ns all = all
right_of P (m ∷ ms) ns all = right_of P ms ns all.1

not_again : (n d : ℕ) (ns : List ℕ) → n ≡ d → AllByRecursion (λ y. nat_eq n y ≡ false) ns → has ns d ≡ false
not_again n d [] is other = refl
not_again n d (m ∷ ns) is other =
    let ne : m ≢ d = λ e. cc (sym other.0 ∙ eq-eqb n m (is ∙ sym e)) in
    or_false (eqb m d) (has ns d) (ne_eqb m d ne) (not_again n d ns is other.1)

-- a number of the first part is none of the second
pub not_in_both : (ms ns : List ℕ) (d : ℕ) → IsDistinct nat_eq (ms ++ ns) → has ms d ≡ true → has ns d ≡ false
unfolding IsDistinct
not_in_both [] ns d is it = cc
not_in_both (m ∷ ms) ns d is it =
    ⊎_elim
    (λ (same : m ≡ d). not_again m d ns same (right_of (λ y. nat_eq m y ≡ false) ms ns is.0))
    (λ (other : m ≢ d). not_in_both ms ns d is.1 (sym (ap (λ b. b || has ms d) (ne_eqb m d other)) ∙ it))
    (cases_eq m d)

-- and the second part has no number twice either
pub distinct_rest : (ms ns : List ℕ) → IsDistinct nat_eq (ms ++ ns) → IsDistinct nat_eq ns
unfolding IsDistinct
distinct_rest [] ns is = is
distinct_rest (m ∷ ms) ns is = distinct_rest ms ns is.1

-- ---- the devices of slots, and of the pool

abbrev pub ds : List JobDevice → List ℕ
ds devices = map (λ (x : JobDevice). x.d) devices

some_or : {X : Type 0} (b : Bool) (x : X) (o : Option X) → is_some (cond b (Some x) o) ≡ (b || is_some o)
some_or true x o = refl
some_or false x o = refl

some_map : {X Y : Type 0} (f : X → Y) (o : Option X) → is_some (option_map f o) ≡ is_some o
some_map f None = refl
some_map f (Some x) = refl

-- a device has a number where the number is one of theirs
pub found : (devices : List JobDevice) (d : ℕ) → is_some (numbered devices d) ≡ has (ds devices) d
found [] d = refl
found (x ∷ devices) d = some_or (eqb x.d d) x (numbered devices d) ∙ ap (λ b. eqb x.d d || b) (found devices d)

found_lent : (pool : List (ℕ × Kind)) (d : ℕ) → is_some (find (λ (x : ℕ × Kind). eqb x.0 d) pool) ≡ has (pool_numbers pool) d
found_lent [] d = refl
found_lent (x ∷ pool) d = some_or (eqb x.0 d) x (find (λ (y : ℕ × Kind). eqb y.0 d) pool) ∙ ap (λ b. eqb x.0 d || b) (found_lent pool d)

-- so with the pool's
pub lent : (pool : List (ℕ × Kind)) (d : ℕ) → is_some (lent_kind pool d) ≡ has (pool_numbers pool) d
lent pool d = some_map (λ (x : ℕ × Kind). x.1) (find (λ (x : ℕ × Kind). eqb x.0 d) pool) ∙ found_lent pool d

pub numbers_cons : (s : ShownSlot) (slots : List ShownSlot) → numbers_of (s ∷ slots) ≡ ds s.devices ++ numbers_of slots
numbers_cons s slots =
    ap ds (flat_map-cons (λ (t : ShownSlot). t.devices) s slots)
    ∙ map-append (λ (x : JobDevice). x.d) s.devices (flat_map (λ (t : ShownSlot). t.devices) slots)

-- a number of one slot is one of all
pub in_slots : (slots : List ShownSlot) (k : ℕ) (x : ShownSlot) (d : ℕ) → k < length slots → has (ds (get_or slots k x).devices) d ≡ true
    → has (numbers_of slots) d ≡ true
in_slots [] k x d lt is = absurd (omega arith)
in_slots (s ∷ slots) zero x d lt is = ap (λ ns. has ns d) (numbers_cons s slots) ∙ has_left (ds s.devices) (numbers_of slots) d is
in_slots (s ∷ slots) (suc k) x d lt is = ap (λ ns. has ns d) (numbers_cons s slots)
    ∙ has_right (ds s.devices) (numbers_of slots) d (in_slots slots k x d (omega arith) is)
