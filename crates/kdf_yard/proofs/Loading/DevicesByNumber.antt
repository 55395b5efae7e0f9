-- The devices of the slots that are loaded, by number.
use Rattle.std.proofs.Common.{◌≡◌, ◌≢◌, ℕ, zero, suc, ◌<◌, ◌≤◌, Bool, true, false, eqb, ◌||◌, List, [], ◌∷◌, length, get_or, Option, Some, None, is_some, refl}
use Rattle.std.proofs.Common.{sym, ap, ◌∙◌, subst, ⊎_elim, arith}
use Rattle.std.proofs.lemmas.Bool.{cases_eq, cases_lt, ne_eqb}
use Rattle.std.proofs.lemmas.List.{ext_get_or}
use Rattle.kdf_journal.specs.declared.kind.Kind.{Kind}
use Rattle.kdf_transfer.specs.ByNumber.{by_number, device_count}
use Rattle.kdf_transfer.proofs.Numbers.{length-numbers, limit_is, number_at}
use Rattle.std.specs.List.{AllPairs}
use Rattle.kdf_job.specs.Job.{JobDevice}
use Rattle.kdf_job.specs.Slots.{fixture_on, numbered, progress_on}
use Rattle.kdf_theory.specs.Loading.{AreApart, SlotLoad, has, owns}
use Rattle.kdf_yard.specs.Fields.Filled.{first_own, pool_spot, spot_or}
use Rattle.kdf_places.specs.Spots.{Spot}
use Rattle.kdf_theory.proofs.JobsLoaded.{found, missing}

-- the place of a slot's device
pub record IsOwnSpot (o : Option JobDevice) (x : Spot) : Type 0 where
  pub fixture : x.fixture ≡ fixture_on o
  pub progress : x.progress ≡ progress_on o

-- the place of a number of a slot's, with one of them or with something else
pub own_one : (o : Option JobDevice) (other : Spot) → is_some o ≡ true → IsOwnSpot o (spot_or o other)
own_one None other is = cc
own_one (Some x) other is = record { fixture = refl; progress = refl }

none_one : (o : Option JobDevice) (other : Spot) → o ≡ None → spot_or o other ≡ other
none_one o other is = ap (λ z. spot_or z other) is

-- a number is of the one slot that has it
pub picked : (xs : List SlotLoad) (i d : ℕ) (e : SlotLoad) (other : Spot) → AllPairs AreApart xs → i < length xs → has (get_or xs i e) d ≡ true
    → IsOwnSpot (numbered (get_or xs i e).devices d) (first_own xs d other)
picked [] i d e other apart lt is = absurd (omega arith)
picked (x ∷ xs) zero d e other apart lt is = own_one (numbered x.devices d) (first_own xs d other) (found x.devices d ∙ is)
picked (x ∷ xs) (suc i) d e other apart lt is =
    subst (IsOwnSpot (numbered (get_or xs i e).devices d))
    (sym (none_one (numbered x.devices d) (first_own xs d other) (missing x.devices d (not (has x d) refl))))
    (picked xs i d e other (λ j k f less inside. apart (suc j) (suc k) f (omega arith) (omega arith)) (omega arith) is)
  where
    not : (b : Bool) → has x d ≡ b → has x d ≡ false
    not false h = h
    not true h = cc (sym is ∙ apart 0 (suc i) e (omega arith) lt d h)

-- one that no slot has is of no slot
pub unpicked : (xs : List SlotLoad) (d : ℕ) (e : SlotLoad) (other : Spot) → ((i : ℕ) → i < length xs → has (get_or xs i e) d ≡ false)
    → first_own xs d other ≡ other
unpicked [] d e other none = refl
unpicked (x ∷ xs) d e other none =
    none_one (numbered x.devices d) (first_own xs d other) (missing x.devices d (none 0 (omega arith)))
    ∙ unpicked xs d e other (λ i lt. none (suc i) (omega arith))

-- each two slots, in either order
pub apart_both : (xs : List SlotLoad) (i j d : ℕ) (e : SlotLoad) → AllPairs AreApart xs → i < length xs → j < length xs → i ≢ j → has (get_or xs i e) d ≡ true
    → has (get_or xs j e) d ≡ false
apart_both xs i j d e apart li lj ne is =
    ⊎_elim
    (λ (less : i < j). apart i j e less lj d is)
    (λ (more : j ≤ i). back (has (get_or xs j e) d) refl (omega arith))
    (cases_lt i j)
  where
    back : (b : Bool) → has (get_or xs j e) d ≡ b → j < i → has (get_or xs j e) d ≡ false
    back false h less = h
    back true h less = cc (sym is ∙ apart j i e less li d h)

-- what stands at each number
pub numbers_same : {X : Type 0} (f g : ℕ → X) (x : X) → ((d : ℕ) → d < 16 → f d ≡ g d) → by_number f ≡ by_number g
numbers_same f g x same =
    ext_get_or x (by_number f) (by_number g) (length-numbers f ∙ sym (length-numbers g))
    (λ d lt.
    let low : d < device_count = let e = length-numbers f in omega arith in
    number_at f d x low ∙ same d (let e = limit_is in omega arith) ∙ sym (number_at g d x low))

pub small_of : (ns : List ℕ) (d : ℕ) → ((i : ℕ) → i < length ns → get_or ns i 0 < 16) → owns ns d ≡ true → d < 16
small_of [] d below is = cc
small_of (n ∷ ns) d below is =
    ⊎_elim
    (λ (same : n ≡ d). let lt : n < 16 = below 0 (omega arith) in omega arith)
    (λ (other : n ≢ d). small_of ns d (λ i lt. below (suc i) (omega arith)) (rest (eqb n d) is (ne_eqb n d other)))
    (cases_eq n d)
  where
    rest : (b : Bool) → (b || owns ns d) ≡ true → b ≡ false → owns ns d ≡ true
    rest false is not = is
    rest true is not = cc

-- none of the places has a transfer
pub idle_flight : (xs : List SlotLoad) (d : ℕ) (other : Spot) → other.flight ≡ None → (first_own xs d other).flight ≡ None
idle_flight [] d other none = none
idle_flight (x ∷ xs) d other none = of_one (numbered x.devices d) (idle_flight xs d other none)
  where
    of_one : (o : Option JobDevice) → (first_own xs d other).flight ≡ None → (spot_or o (first_own xs d other)).flight ≡ None
    of_one None later = later
    of_one (Some y) later = refl

pub pool_flight : (o : Option Kind) → (pool_spot o).flight ≡ None
pool_flight None = refl
pool_flight (Some k) = refl
