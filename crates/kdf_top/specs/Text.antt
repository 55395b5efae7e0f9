-- The lines that say why there is no report, each without the byte that ends it.
use Rattle.std.specs.Prelude.{ℕ, List, ◌++◌, codes, decimal}
use Rattle.kdf_command.specs.declared.command.TheConstants.{USAGE}
use Rattle.kdf_job.specs.declared.fault.JobFault.{JobFault}
use Rattle.kdf_job.specs.Faults.{job_fault_name}
use Rattle.kdf_usercode.specs.declared.fault.DeckFault.{DeckFault}
use Rattle.kdf_usercode.specs.Faults.{deck_fault_name}
use Rattle.kdf_snapshot.specs.declared.fault.SnapshotFault.{SnapshotFault}
use Rattle.kdf_snapshot.specs.Faults.{snapshot_fault_name}

-- the line that tells a fault of the job
abbrev pub job_fault_line : JobFault → ℕ → List ℕ
job_fault_line fault line = codes "JOB " ++ job_fault_name fault ++ codes " " ++ decimal line

-- the line that tells a fault of a deck
abbrev pub deck_fault_line : ℕ → DeckFault → ℕ → List ℕ
deck_fault_line slot fault place =
    codes "DECK " ++ decimal slot ++ codes " " ++ deck_fault_name fault ++ codes " " ++ decimal place

-- the line that tells a fault of a snapshot
abbrev pub snapshot_fault_line : SnapshotFault → ℕ → List ℕ
snapshot_fault_line fault line = codes "SNAPSHOT " ++ snapshot_fault_name fault ++ codes " " ++ decimal line

-- the line that tells how the program is used
abbrev pub usage_line : List ℕ
usage_line = USAGE.now

-- the line that tells that there are more bytes than so many
abbrev pub large_line : ℕ → List ℕ
large_line limit = codes "LARGE " ++ decimal limit
