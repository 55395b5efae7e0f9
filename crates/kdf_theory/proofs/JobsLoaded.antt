-- What is loaded of a job that is well formed.
use Rattle.std.proofs.Common.{◌≡◌, ◌≢◌, ◌⊎◌, inl, inr, ℕ, suc, ◌+◌, ◌<◌, ◌≤◌, Bool, true, false, ◌||◌, List, [], ◌∷◌, ◌++◌, length, get_or, map, Option, Some}
use Rattle.std.proofs.Common.{None, is_some, refl, sym, ap, ◌∙◌, subst, ⊎_elim, arith, cond, eqb}
use Rattle.std.specs.Prelude.{sum_by, nat_eq}
use Rattle.std.specs.List.{All, AllPairs, IsDistinct}
use Rattle.std.proofs.lemmas.Bool.{cases_eq, cases_lt, ne_eqb}
use Rattle.std.proofs.lemmas.List.{get_or-map, length-map}
use Rattle.std.proofs.lemmas.List.Elements.{All-cons, All-head, All-map, All-nil, All-tail}
use Rattle.std.proofs.lemmas.List.Kept.{AllPairs-cons}
use Rattle.std.proofs.lemmas.List.Sums.{sum_by-cons}
use Rattle.kdf_job.specs.Draft.{pool_numbers, numbers_of, words_in}
use Rattle.kdf_job.specs.Job.{JobDevice, ShownSlot}
use Rattle.kdf_job.proofs.Numbers.{not_in_both, distinct_rest, has_left, has_right, lacks_left, lacks_right, lent, numbers_cons}
use Rattle.kdf_job.specs.WellFormed.{AreRising, AreSlots, IsLent, IsSlot}
use Rattle.kdf_journal.specs.declared.kind.Kind.{Kind}
use Rattle.kdf_job.specs.Slots.{fixture_on, lent_kind, numbered, progress_on}
use Rattle.kdf_theory.specs.Loading.{AreApart, AreLoads, HaveImages, IsBelow, IsLoad, SlotLoad, has, load_of, loads, numbers_in, owns, loaded_slot}
use Rattle.kdf_transfer.specs.ByNumber.{by_number}
use Rattle.kdf_transfer.specs.Slots.{Slot}
use Rattle.kdf_theory.specs.Slots as theory
use Rattle.kdf_theory.specs.Slots.{HaveOwnDevices}
use Rattle.kdf_transfer.proofs.Numbers.{length-numbers, limit_is, number_at, number_past}

some_or : (b : Bool) (x : JobDevice) (o : Option JobDevice) → is_some (cond b (Some x) o) ≡ (b || is_some o)
some_or true x o = refl
some_or false x o = refl

-- the device of a number is there where the slot has one
pub found : (devices : List JobDevice) (d : ℕ) → is_some (numbered devices d) ≡ owns (numbers_in devices) d
found [] d = refl
found (x ∷ devices) d = some_or (eqb x.d d) x (numbered devices d) ∙ ap (λ b. eqb x.d d || b) (found devices d)

pub missing : (devices : List JobDevice) (d : ℕ) → owns (numbers_in devices) d ≡ false → numbered devices d ≡ None
missing devices d not = none (numbered devices d) (found devices d ∙ not)
  where
    none : (o : Option JobDevice) → is_some o ≡ false → o ≡ None
    none None is = refl
    none (Some x) is = cc

-- an image for each
pub one_each : (jobs : List ShownSlot) (images : List (List ℕ)) → HaveImages jobs images → length jobs ≡ length images
one_each [] [] have = refl
one_each [] (ws ∷ images) have = absurd have
one_each (s ∷ jobs) [] have = absurd have
one_each (s ∷ jobs) (ws ∷ images) have = let e = one_each jobs images have.1 in omega arith

total_is : (jobs : List ShownSlot) (images : List (List ℕ)) → HaveImages jobs images → sum_by (λ (l : SlotLoad). l.size) (loads jobs images) ≡ words_in jobs
total_is [] images have = refl
total_is (s ∷ jobs) [] have = absurd have
total_is (s ∷ jobs) (ws ∷ images) have =
    sum_by-cons (λ (l : SlotLoad). l.size) (load_of s ws) (loads jobs images)
    ∙ ap (λ n. s.size + n) (total_is jobs images have.1)
    ∙ sym (sum_by-cons (λ (t : ShownSlot). t.size) s jobs)

-- numbers that rise are above the first
abbrev slot_numbers : List ShownSlot → List ℕ
slot_numbers jobs = map (λ (s : ShownSlot). s.p) jobs

later : (n : ℕ) (s : ShownSlot) (jobs : List ShownSlot) → n < s.p → AreRising (slot_numbers (s ∷ jobs)) → All (λ (t : ShownSlot). n < t.p) (s ∷ jobs)
later n s [] low rising = All-cons (λ (t : ShownSlot). n < t.p) s [] low (All-nil (λ (t : ShownSlot). n < t.p))
later n s (t ∷ jobs) low rising =
    let step : s.p < t.p = rising.0 in
    All-cons (λ (t : ShownSlot). n < t.p) s (t ∷ jobs) low (later n t jobs (omega arith) rising.1)

rising_tail : (s : ShownSlot) (jobs : List ShownSlot) → AreRising (slot_numbers (s ∷ jobs)) → AreRising (slot_numbers jobs)
rising_tail s [] rising = tt
rising_tail s (t ∷ jobs) rising = rising.1

above : (s : ShownSlot) (jobs : List ShownSlot) → AreRising (slot_numbers (s ∷ jobs)) → All (λ (t : ShownSlot). s.p < t.p) jobs
above s [] rising = All-nil (λ (t : ShownSlot). s.p < t.p)
above s (t ∷ jobs) rising = later s.p t jobs rising.0 rising.1

-- what holds of each slot holds of what is loaded
loaded_all : (P : ℕ → Type 0) (jobs : List ShownSlot) (images : List (List ℕ)) → All (λ (t : ShownSlot). P t.p) jobs
    → All (λ (l : SlotLoad). P l.p) (loads jobs images)
loaded_all P [] images all = All-nil (λ (l : SlotLoad). P l.p)
loaded_all P (s ∷ jobs) [] all = All-nil (λ (l : SlotLoad). P l.p)
loaded_all P (s ∷ jobs) (ws ∷ images) all =
    All-cons (λ (l : SlotLoad). P l.p) (load_of s ws) (loads jobs images) (All-head (λ (t : ShownSlot). P t.p) s jobs all)
    (loaded_all P jobs images (All-tail (λ (t : ShownSlot). P t.p) s jobs all))

no_pairs : (R : SlotLoad → SlotLoad → Type 0) → AllPairs R []
no_pairs R i j d less lt = absurd (omega arith)

rising_is : (jobs : List ShownSlot) (images : List (List ℕ)) → AreRising (slot_numbers jobs) → AllPairs IsBelow (loads jobs images)
rising_is [] images rising = no_pairs IsBelow
rising_is (s ∷ jobs) [] rising = no_pairs IsBelow
rising_is (s ∷ jobs) (ws ∷ images) rising =
    AllPairs-cons IsBelow (load_of s ws) (loads jobs images) (loaded_all (λ n. s.p < n) jobs images (above s jobs rising))
    (rising_is jobs images (rising_tail s jobs rising))

-- a number that no slot has, none of what is loaded has
none_has : (d : ℕ) (jobs : List ShownSlot) (images : List (List ℕ)) → owns (numbers_of jobs) d ≡ false
    → All (λ (l : SlotLoad). has l d ≡ false) (loads jobs images)
none_has d [] images not = All-nil (λ (l : SlotLoad). has l d ≡ false)
none_has d (s ∷ jobs) [] not = All-nil (λ (l : SlotLoad). has l d ≡ false)
none_has d (s ∷ jobs) (ws ∷ images) not =
    let both = sym (ap (λ ns. owns ns d) (numbers_cons s jobs)) ∙ not in
    All-cons (λ (l : SlotLoad). has l d ≡ false) (load_of s ws) (loads jobs images)
    (lacks_left (numbers_in s.devices) (numbers_of jobs) d both)
    (none_has d jobs images (lacks_right (numbers_in s.devices) (numbers_of jobs) d both))

apart_is : (jobs : List ShownSlot) (images : List (List ℕ)) → IsDistinct nat_eq (numbers_of jobs) → AllPairs AreApart (loads jobs images)
apart_is [] images is = no_pairs AreApart
apart_is (s ∷ jobs) [] is = no_pairs AreApart
apart_is (s ∷ jobs) (ws ∷ images) is =
    let both = subst (IsDistinct nat_eq) (numbers_cons s jobs) is in
    AllPairs-cons AreApart (load_of s ws) (loads jobs images)
    (λ i e lt d h. none_has d jobs images (not_in_both (numbers_in s.devices) (numbers_of jobs) d both h) i e lt)
    (apart_is jobs images (distinct_rest (numbers_in s.devices) (numbers_of jobs) both))

-- the devices of a pool have small numbers
pool_small : (pool : List (ℕ × Kind)) (d : ℕ) → All IsLent pool → owns (pool_numbers pool) d ≡ true → d < 16
pool_small [] d small is = cc
pool_small (x ∷ pool) d small is =
    ⊎_elim
    (λ (same : x.0 ≡ d). let lt = (All-head IsLent x pool small).0 in omega arith)
    (λ (other : x.0 ≢ d). pool_small pool d (All-tail IsLent x pool small) (sym (ap (λ b. b || owns (pool_numbers pool) d) (ne_eqb x.0 d other)) ∙ is))
    (cases_eq x.0 d)

abbrev AreOthers : List ℕ → ShownSlot → Type 0
AreOthers whole s = IsDistinct nat_eq (whole ++ pool_numbers s.pool)

-- each slot, where the numbers of these are among all
each_is : (whole : List ℕ) (jobs : List ShownSlot) (images : List (List ℕ)) → HaveImages jobs images → All IsSlot jobs → All (AreOthers whole) jobs
    → ((d : ℕ) → owns (numbers_of jobs) d ≡ true → owns whole d ≡ true) → All IsLoad (loads jobs images)
each_is whole [] images have each own all = All-nil IsLoad
each_is whole (s ∷ jobs) [] have each own all = absurd have
each_is whole (s ∷ jobs) (ws ∷ images) have each own all =
    let this = All-head IsSlot s jobs each in
    let others : AreOthers whole s = All-head (AreOthers whole) s jobs own in
    All-cons IsLoad (load_of s ws) (loads jobs images)
    (record {
      number = this.number;
      groups = this.groups;
      fits = have.0;
      below = this.devices;
      few = λ d h. pool_small s.pool d this.lent (sym (lent s.pool d) ∙ h);
      owned = λ d h. lent s.pool d ∙ not_in_both whole (pool_numbers s.pool) d others
          (all d (ap (λ ns. owns ns d) (numbers_cons s jobs) ∙ has_left (numbers_in s.devices) (numbers_of jobs) d h));
    })
    (each_is whole jobs images have.1 (All-tail IsSlot s jobs each) (All-tail (AreOthers whole) s jobs own)
    (λ d h. all d (ap (λ ns. owns ns d) (numbers_cons s jobs) ∙ has_right (numbers_in s.devices) (numbers_of jobs) d h)))

-- a pool that all slots have
pool_all : (pool : List (ℕ × Kind)) (jobs : List ShownSlot) (images : List (List ℕ)) → All (λ (t : ShownSlot). pool ≡ t.pool) jobs
    → All (λ (l : SlotLoad). pool ≡ l.pool) (loads jobs images)
pool_all pool [] images all = All-nil (λ (l : SlotLoad). pool ≡ l.pool)
pool_all pool (s ∷ jobs) [] all = All-nil (λ (l : SlotLoad). pool ≡ l.pool)
pool_all pool (s ∷ jobs) (ws ∷ images) all =
    All-cons (λ (l : SlotLoad). pool ≡ l.pool) (load_of s ws) (loads jobs images) (All-head (λ (t : ShownSlot). pool ≡ t.pool) s jobs all)
    (pool_all pool jobs images (All-tail (λ (t : ShownSlot). pool ≡ t.pool) s jobs all))

abbrev HaveOnePool : SlotLoad → SlotLoad → Type 0
HaveOnePool a b = a.pool ≡ b.pool

common_is : (jobs : List ShownSlot) (images : List (List ℕ)) → AllPairs (λ (a b : ShownSlot). a.pool ≡ b.pool) jobs → AllPairs HaveOnePool (loads jobs images)
common_is [] images common = no_pairs HaveOnePool
common_is (s ∷ jobs) [] common = no_pairs HaveOnePool
common_is (s ∷ jobs) (ws ∷ images) common =
    AllPairs-cons HaveOnePool (load_of s ws) (loads jobs images)
    (pool_all s.pool jobs images (λ j e lt. common 0 (suc j) e (omega arith) (omega arith)))
    (common_is jobs images (λ j k e less lt. common (suc j) (suc k) e (omega arith) (omega arith)))

pub are_loads : (jobs : List ShownSlot) (images : List (List ℕ)) → AreSlots jobs → HaveImages jobs images → AreLoads (loads jobs images)
are_loads jobs images slots have =
    record {
      each = each_is (numbers_of jobs) jobs images have slots.each slots.owned (λ d h. h);
      rising = rising_is jobs images slots.rising;
      total = let e = total_is jobs images have in let f = slots.fits in omega arith;
      apart = apart_is jobs images slots.apart;
      common = common_is jobs images slots.common;
    }

-- what is loaded are slots
none_at : (l : SlotLoad) (d : ℕ) → has l d ≡ false → get_or (loaded_slot l).fixtures d None ≡ None
none_at l d not =
    ⊎_elim
    (λ (lt : d < 16). number_at (λ d. fixture_on (numbered l.devices d)) d None (let e = limit_is in omega arith) ∙ ap fixture_on (missing l.devices d not))
    (λ (past : 16 ≤ d). number_past (λ d. fixture_on (numbered l.devices d)) d None (let e = limit_is in omega arith))
    (cases_lt d 16)

own_devices : (a b : SlotLoad) → AreApart a b → HaveOwnDevices (loaded_slot a) (loaded_slot b)
own_devices a b apart d = by_has (has a d) refl
  where
    by_has : (t : Bool) → has a d ≡ t → (get_or (loaded_slot a).fixtures d None ≡ None) ⊎ (get_or (loaded_slot b).fixtures d None ≡ None)
    by_has false is = inl (none_at a d is)
    by_has true is = inr (none_at b d (apart d is))

-- the numbers of the pool
pool_few : (l : SlotLoad) (d : ℕ) → is_some (get_or (loaded_slot l).pool d None) ≡ true → d < 16
pool_few l d is =
    ⊎_elim
    (λ (lt : d < 16). lt)
    (λ (past : 16 ≤ d). cc (sym is ∙ ap is_some (number_past (lent_kind l.pool) d None (let e = limit_is in omega arith))))
    (cases_lt d 16)

pool_apart : (l : SlotLoad) → IsLoad l → (d : ℕ) → (get_or (loaded_slot l).fixtures d None ≡ None) ⊎ (get_or (loaded_slot l).pool d None ≡ None)
pool_apart l is d = by_has (has l d) refl
  where
    none : (o : Option Kind) → is_some o ≡ false → o ≡ None
    none None h = refl
    none (Some k) h = cc

    by_has : (b : Bool) → has l d ≡ b → (get_or (loaded_slot l).fixtures d None ≡ None) ⊎ (get_or (loaded_slot l).pool d None ≡ None)
    by_has false not = inl (none_at l d not)
    by_has true h =
        inr (⊎_elim
        (λ (lt : d < 16). number_at (lent_kind l.pool) d None (let e = limit_is in omega arith) ∙ none (lent_kind l.pool d) (is.owned d h))
        (λ (past : 16 ≤ d). number_past (lent_kind l.pool) d None (let e = limit_is in omega arith))
        (cases_lt d 16))

is_slot : (l : SlotLoad) → IsLoad l → theory.IsSlot (loaded_slot l)
is_slot l is =
    record {
      fits = is.fits;
      fixtures = length-numbers (λ d. fixture_on (numbered l.devices d));
      devices = length-numbers (λ d. progress_on (numbered l.devices d));
      few = λ d pooled. pool_few l d pooled;
      apart = λ d. pool_apart l is d;
    }

abbrev pub no_load : SlotLoad
no_load = record { p = 0; size = 0; words = []; devices = []; pool = []; served = false }

pairs_map : (R : Slot → Slot → Type 0) (xs : List SlotLoad) → AllPairs (λ a b. R (loaded_slot a) (loaded_slot b)) xs → AllPairs R (map loaded_slot xs)
pairs_map R xs all i j d less lt =
    let lj : j < length xs = let n = length-map xs loaded_slot in omega arith in
    let li : i < length xs = omega arith in
    subst (λ s. R s (get_or (map loaded_slot xs) j d)) (sym (get_or-map loaded_slot xs i no_load d li))
    (subst (λ s. R (loaded_slot (get_or xs i no_load)) s) (sym (get_or-map loaded_slot xs j no_load d lj)) (all i j no_load less lj))

below_ne : (a b : SlotLoad) → IsBelow a b → a.p ≢ b.p
below_ne a b less e = omega arith

pub are_slots : (xs : List SlotLoad) → AreLoads xs → theory.AreSlots (map loaded_slot xs)
are_slots xs are =
    record {
      each = All-map theory.IsSlot loaded_slot xs (λ i l lt. is_slot (get_or xs i l) (are.each i l lt));
      numbers = pairs_map (λ (a b : Slot). a.p ≢ b.p) xs (λ i j d less lt. below_ne (get_or xs i d) (get_or xs j d) (are.rising i j d less lt));
      devices = pairs_map HaveOwnDevices xs (λ i j d less lt. own_devices (get_or xs i d) (get_or xs j d) (are.apart i j d less lt));
      pool = pairs_map (λ (a b : Slot). a.pool ≡ b.pool) xs (λ i j d less lt. ap (λ ps. by_number (lent_kind ps)) (are.common i j d less lt));
    }
