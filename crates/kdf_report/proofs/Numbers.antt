-- The numbers of a program's devices, one by one.
use Rattle.std.proofs.Common.{◌≡◌, ◌≢◌, ℕ, zero, suc, ◌+◌, ◌<◌, ◌≤◌, ◌||◌, Bool, true, false, cond, eqb, List, [], ◌∷◌, length, map, Option, Some, None}
use Rattle.std.proofs.Common.{is_some, IsSomeAnd, IfSome, ⊎_elim, refl, sym, ◌∙◌, ap, arith}
use Rattle.std.specs.Prelude.{slice_get, unwrap_or}
use Rattle.std.specs.List.{filter, list_any, range_with_len}
use Rattle.std.proofs.lemmas.Bool.{cases_eq, eq-eqb, ne_eqb}
use Rattle.kdf_transfer.specs.Devices.{Fixture}
use Rattle.kdf_transfer.specs.declared.device.Device.{Device}
use Rattle.kdf_processor.specs.Claims.{is_claimed}
use Rattle.kdf_processor.specs.State.{Lending, State, device_limit, lendings, own_fixture_at}
use Rattle.kdf_processor.specs.Stints.{IsStint}
use Rattle.kdf_job.specs.Job.{JobDevice, ShownSlot}
use Rattle.kdf_job.specs.Shows.{shown_device}
use Rattle.kdf_alone.specs.Program as alone
use Rattle.kdf_theory.specs.MachineView as machine
use Rattle.kdf_report.specs.Devices.{device_numbers, has_device}
use Rattle.kdf_report.specs.MadeFrom.{own_numbers}

-- ---- numbers that pass a test

-- a number is among these
abbrev has : ℕ → List ℕ → Bool
has k ns = list_any (λ n. eqb n k) ns

has_more : (k n : ℕ) (ns : List ℕ) (b c : Bool) → eqb n k ≡ b → has k (cond c (n ∷ ns) ns) ≡ (cond c b false || has k ns)
has_more k n ns b true e = ap (λ t. t || has k ns) e
has_more k n ns b false e = refl

-- those that pass are at least the first
passes_below : (p : ℕ → Bool) (a n k : ℕ) → k < a → has k (filter p (range_with_len a n)) ≡ false
passes_below p a zero k below = refl
passes_below p a (suc n) k below =
    has_more k a (filter p (range_with_len (a + 1) n)) false (p a) (ne_eqb a k (omega arith)) ∙ go (p a) (passes_below p (a + 1) n k (omega arith))
  where
    go : (b : Bool) → has k (filter p (range_with_len (a + 1) n)) ≡ false → (cond b false false || has k (filter p (range_with_len (a + 1) n))) ≡ false
    go true later = later
    go false later = later

-- a number is among those that pass where it passes
passes_there : (p : ℕ → Bool) (a n k : ℕ) → a ≤ k → k < a + n → has k (filter p (range_with_len a n)) ≡ p k
passes_there p a zero k low high = absurd (omega arith)
passes_there p a (suc n) k low high =
    ⊎_elim
    (λ (here : a ≡ k).
    has_more k a (filter p (range_with_len (a + 1) n)) true (p a) (eq-eqb a k here)
    ∙ at_first (p a) (has k (filter p (range_with_len (a + 1) n))) (passes_below p (a + 1) n k (omega arith)) ∙ ap p here)
    (λ (other : a ≢ k).
    has_more k a (filter p (range_with_len (a + 1) n)) false (p a) (ne_eqb a k other)
    ∙ behind (p a) (has k (filter p (range_with_len (a + 1) n))) ∙ passes_there p (a + 1) n k (omega arith) (omega arith))
    (cases_eq a k)
  where
    at_first : (b later : Bool) → later ≡ false → (cond b true false || later) ≡ b
    at_first true later none = refl
    at_first false later none = none

    behind : (b later : Bool) → (cond b false false || later) ≡ later
    behind true later = refl
    behind false later = refl

-- ---- devices of a program and of its slot

-- a program has a device of a number where its slot has
pub has_own : (slot : ShownSlot) (s : State) (d : ℕ) → d < device_limit → own_numbers s ≡ device_numbers slot
    → has_device slot d ≡ is_some (own_fixture_at s.stock.claims d)
unfolding own_numbers device_numbers
has_own slot s d small own =
    sym (passes_there (has_device slot) 0 device_limit d (omega arith) (omega arith))
    ∙ ap (has d) (sym own)
    ∙ passes_there (λ n. is_some (own_fixture_at s.stock.claims n)) 0 device_limit d (omega arith) (omega arith)

-- the slot has a device of a number, as its devices are read
pub any_number : (devices : List (ℕ × Device)) (d : ℕ) → list_any (λ (x : ℕ × Device). eqb x.0 d) devices ≡ list_any (λ (x : JobDevice). eqb x.d d)
    (map shown_device devices)
any_number [] d = refl
any_number (x ∷ devices) d = ap (λ b. eqb x.0 d || b) (any_number devices d)

same_device : (s : State) (d : ℕ) (r : Option Device) → machine.IsDeviceAt s d r → alone.IsDeviceAt s d r
same_device s d None is = is
same_device s d (Some x) is = is

none_there : (o : Option Fixture) → is_some o ≡ false → o ≡ None
none_there None e = refl
none_there (Some f) e = cc

-- ---- the program of a slot in a machine

-- where the slot has the device of a number, the program shows it
pub device_there : (o : Option State) (slot : ShownSlot) (other : State) (d : ℕ) (r : Option Device) → is_some o ≡ true
    → own_numbers (unwrap_or o other) ≡ device_numbers slot → d < device_limit
    → has_device slot d ≡ true → IfSome o (λ (s : State). is_some (own_fixture_at s.stock.claims d) ≡ true → machine.IsDeviceAt s d r)
    → alone.IsDeviceAt (unwrap_or o other) d r
device_there None slot other d r there own small has_d is = cc
device_there (Some s) slot other d r there own small has_d is = same_device s d r (is (sym (has_own slot s d small own) ∙ has_d))

-- and it shows whether its own device is claimed
pub claimed_there : (o : Option State) (other : State) (d : ℕ) (r : Bool) → is_some o ≡ true → is_some (own_fixture_at (unwrap_or o other).stock.claims d)
    ≡ true
    → IfSome o (λ (s : State). is_some (own_fixture_at s.stock.claims d) ≡ true → r ≡ is_claimed s.stock.claims d)
    → r ≡ is_claimed (unwrap_or o other).stock.claims d
claimed_there None other d r there own is = cc
claimed_there (Some s) other d r there own is = is own

-- and where it hasn't, there is none
pub no_device : (slot : ShownSlot) (s : State) (d : ℕ) → own_numbers s ≡ device_numbers slot → d < device_limit → has_device slot d ≡ false
    → own_fixture_at s.stock.claims d ≡ None
no_device slot s d own small hasnt = none_there (own_fixture_at s.stock.claims d) (sym (has_own slot s d small own) ∙ hasnt)

-- its stints
pub stints_there : (o : Option State) (other : State) (n : ℕ) → is_some o ≡ true → IsSomeAnd o (λ (s : State). n ≡ length (lendings s.stock))
    → n ≡ length (lendings (unwrap_or o other).stock)
stints_there None other n there is = cc
stints_there (Some s) other n there is = is

pub stint_within : (o : Option State) (other : State) (i : ℕ) → is_some o ≡ true → i < length (lendings (unwrap_or o other).stock)
    → IsSomeAnd o (λ (s : State). i < length (lendings s.stock))
stint_within None other i there lt = absurd cc
stint_within (Some s) other i there lt = lt

pub stint_there : (o : Option State) (other : State) (i d : ℕ) (given : Bool) (device : Device) → is_some o ≡ true
    → IsSomeAnd o (λ (s : State). IfSome (slice_get (lendings s.stock) i) (λ (x : Lending). IsStint x d given device))
    → IfSome (slice_get (lendings (unwrap_or o other).stock) i) (λ (x : Lending). IsStint x d given device)
stint_there None other i d given device there is = absurd cc
stint_there (Some s) other i d given device there is = is
