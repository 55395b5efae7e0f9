-- The stints of a program of the machine: where the device of each is.
use Rattle.std.specs.Prelude.{◌≡◌, ℕ, ◌==◌, ◌&&◌, Bool, true, false, List, Option, Some, None, if◌then◌else◌, find}
use Rattle.std.specs.List.{list_any}
use Rattle.std.specs.Option.{option_map}
use Rattle.kdf_journal.specs.declared.kind.Kind.{Kind}
use Rattle.kdf_transfer.specs.Devices.{Fixture, DeviceProgress, blank_fixture, fixture_of, new_progress, progress_of}
use Rattle.kdf_processor.specs.State.{StintState}
use Rattle.kdf_transfer.specs.declared.device.Device.{Device}
use Rattle.kdf_yard.specs.declared.stint.Stint.{Stint}

-- a device that was lent is in the place of its number; or the program, which is over, has it; or it was given back
pub data Loan : Type 0 where
  Lent : Loan
  Left : (fixture : Fixture) (progress : DeviceProgress) → Loan
  Back : (fixture : Fixture) (progress : DeviceProgress) → Loan

-- a stint: that the device of this number was lent, and where it is
pub record Keeping : Type 0 where
  pub device : ℕ
  pub loan : Loan

-- one that there isn't
abbrev pub no_keeping : Keeping
no_keeping = record { device = 0; loan = Lent }

-- by whether it was given back, and the device where that isn't in its place: one that was given back never is
abbrev pub loan_of : Bool → Option Device → Loan
loan_of given None = Lent
loan_of false (Some device) = Left (fixture_of device) (progress_of device)
loan_of true (Some device) = Back (fixture_of device) (progress_of device)

abbrev pub keeping_of : Stint → Keeping
keeping_of x = record { device = x.d; loan = loan_of x.given x.device }

-- the device is in its place; the program has kept it; it wasn't given back
abbrev pub is_lent : Loan → Bool
is_lent Lent = true
is_lent _ = false

abbrev pub is_left : Loan → Bool
is_left (Left fixture progress) = true
is_left _ = false

abbrev pub is_open : Loan → Bool
is_open (Back fixture progress) = false
is_open _ = true

-- how far a device had come that was given back
abbrev pub progress_back : Loan → Option DeviceProgress
progress_back (Back fixture progress) = Some progress
progress_back _ = None

-- the stint, as the program's state has it
abbrev pub stint_of : Keeping → StintState
stint_of x = record { device = x.device; left = progress_back x.loan }

-- one of the stints has the device of this number in its place
abbrev pub lends : List Keeping → ℕ → Bool
lends stints d = list_any (λ (x : Keeping). x.device == d && is_lent x.loan) stints

-- how far a device has come that a program has kept
abbrev pub kept_by : Loan → DeviceProgress
kept_by (Left fixture progress) = progress
kept_by _ = new_progress

abbrev pub progress_left : Option Keeping → DeviceProgress
progress_left None = new_progress
progress_left (Some x) = kept_by x.loan

abbrev pub left_in : List Keeping → ℕ → DeviceProgress
left_in stints d = progress_left (find (λ (x : Keeping). x.device == d && is_left x.loan) stints)

-- the stint is of this device, which wasn't given back
abbrev pub is_open_of : ℕ → Keeping → Bool
is_open_of d x = x.device == d && is_open x.loan

-- with its device elsewhere
abbrev pub with_loan : ℕ → Loan → Keeping → Keeping
with_loan d loan x = if is_open_of d x then record x { loan = loan } else x

-- what a device of the pool is: in its place as the pool has it, else as it left
abbrev pub fixture_lent : Option Kind → Loan → Option Fixture
fixture_lent kind Lent = option_map blank_fixture kind
fixture_lent kind (Left fixture progress) = Some fixture
fixture_lent kind (Back fixture progress) = Some fixture

-- a device that left its place is a blank one of its kind but for what it moved
abbrev pub IsOfKind : Option Kind → Loan → Type 0
IsOfKind kind loan = option_map blank_fixture kind ≡ fixture_lent kind loan
