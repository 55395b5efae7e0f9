-- What a section is made from: a slot of a job, and the state of its program. And what a report is: a machine that has the program
-- of each slot.
use Rattle.std.specs.Prelude.{◌≡◌, ℕ, ◌<◌, List, All, IsSomeAnd, is_some}
use Rattle.std.specs.List.{filter, range_with_len}
use Rattle.kdf_processor.specs.State.{State, device_limit, own_fixture_at}
use Rattle.kdf_job.specs.Job.{ShownSlot}
use Rattle.kdf_theory.specs.MachineView.{MachineView, state_of}
use Rattle.kdf_report.specs.Devices.{device_numbers}

-- the numbers of the program's own devices, rising
unfoldable pub own_numbers : State → List ℕ
own_numbers s = filter (λ d. is_some (own_fixture_at s.stock.claims d)) (range_with_len 0 device_limit)

-- the program has the slot's size, the words that are to be shown, and exactly its device numbers
pub record IsProgramOf (slot : ShownSlot) (s : State) : Type 0 where
  pub size : s.stock.claims.size ≡ slot.size
  pub shows : All (λ show. show.1 < slot.size) slot.shows
  pub devices : own_numbers s ≡ device_numbers slot

-- the machine has the program of the slot
abbrev pub HasProgram : MachineView → ShownSlot → Type 0
HasProgram m slot = IsSomeAnd (state_of m slot.p) (IsProgramOf slot)
