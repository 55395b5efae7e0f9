-- The numbers with which the program ends.
use Rattle.std.specs.Prelude.{ℕ}
use Rattle.kdf_top.specs.declared.status.Status.{Status}
use Rattle.kdf_top.specs.declared.status.Status.TheVariants as status

-- the status with which the program ends
abbrev pub code_of : Status → ℕ
code_of status.Done = 0
code_of status.Usage = 1
code_of (status.Job fault line) = 2
code_of (status.Deck slot fault place) = 3
code_of status.Large = 4
code_of status.ReadFault = 5
code_of status.WriteFault = 6
code_of status.Memory = 7
code_of (status.Snapshot fault line) = 8
