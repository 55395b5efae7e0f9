-- The faults of a snapshot: their numbers and names.
use Rattle.std.specs.Prelude.{ℕ, List, codes}
use Rattle.kdf_snapshot.specs.declared.fault.SnapshotFault.{SnapshotFault}
use Rattle.kdf_snapshot.specs.declared.fault.SnapshotFault.TheVariants.{NoJournal, BadEntry, NoEnd, JournalDiffers, SealDiffers}

-- the sequence of their numbers is that in which they are looked for
abbrev pub number_of : SnapshotFault → ℕ
number_of NoJournal = 1
number_of BadEntry = 2
number_of NoEnd = 3
number_of JournalDiffers = 4
number_of SealDiffers = 5

-- as it is printed
abbrev pub snapshot_fault_name : SnapshotFault → List ℕ
snapshot_fault_name NoJournal = codes "NoJournal"
snapshot_fault_name BadEntry = codes "BadEntry"
snapshot_fault_name NoEnd = codes "NoEnd"
snapshot_fault_name JournalDiffers = codes "JournalDiffers"
snapshot_fault_name SealDiffers = codes "SealDiffers"
