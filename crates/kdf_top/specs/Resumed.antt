-- A snapshot that was read, with what goes on after it, and the machines of its run. `answers n a` says that a is one of the answers of
-- the installation's service to n.
use Rattle.std.specs.Prelude.{◌≡◌, ℕ, ◌+◌, ◌≤◌, List, drop, length, sum_by, take}
use Rattle.kdf_text.specs.Lines.{lines}
use Rattle.kdf_job.specs.Front.{front_job}
use Rattle.kdf_job.specs.Shows.{shown_job}
use Rattle.kdf_job.specs.declared.job.TheConstants.{TEXT_LIMIT}
use Rattle.kdf_theory.specs.Follows.{entries_in}
use Rattle.kdf_theory.specs.Served.{IsJournalFor}
use Rattle.kdf_theory.specs.MachineView.{MachineView, ShowsSeen}
use Rattle.kdf_top.specs.Loaded.{IsLoaded, slots_of}
use Rattle.kdf_top.specs.Snapshots.{IsSnapshot, line_after_job, parts, resumed_job, sealed_lines}
use Rattle.kdf_top.specs.declared.resuming.Snapshot.{Snapshot}

-- no line of the text is faulty, and this is what was read of it
pub record IsRead (bytes : List ℕ) (s : Snapshot) : Type 0 where
  pub snapshot : IsSnapshot bytes
  pub few : length (parts bytes).entries ≤ TEXT_LIMIT
  pub line : s.line ≡ line_after_job bytes
  pub line_most : s.line ≤ TEXT_LIMIT + 1
  pub seal_line : s.seal_line ≡ s.line + length (parts bytes).entries + 2
  pub sealed : lines s.sealed.items ≡ sealed_lines bytes (parts bytes)
  pub sealed_most : length s.sealed.items ≤ TEXT_LIMIT
  pub first : s.first ≡ length (front_job bytes).events
  pub loaded : IsLoaded (resumed_job bytes) s.job s.images.items

-- the machine has run the job at the front, its journal is that of the snapshot, and it has room for the further events
pub record IsSaved (answers : ℕ → ℕ → Type 0) (bytes : List ℕ) (s : Snapshot) (m : MachineView) : Type 0 where
  pub slots : m.slots ≡ slots_of (shown_job s.job)
  pub journal : IsJournalFor answers m.slots (take s.first (shown_job s.job).events) m.journal
  pub seen : ShowsSeen m
  pub entries : m.journal ≡ (parts bytes).entries
  pub room : sum_by entries_in (drop s.first (shown_job s.job).events) ≤ m.room

-- the machine has run the whole job
pub record HasRun (answers : ℕ → ℕ → Type 0) (s : Snapshot) (m : MachineView) : Type 0 where
  pub slots : m.slots ≡ slots_of (shown_job s.job)
  pub journal : IsJournalFor answers m.slots (shown_job s.job).events m.journal
  pub seen : ShowsSeen m
