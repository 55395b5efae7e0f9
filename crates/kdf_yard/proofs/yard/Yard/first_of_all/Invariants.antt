use Rattle.std.proofs.Common.{◌≡◌, ◌-◌, length}
use Rattle.std.specs.Prelude.{find}
use Rattle.std.specs.List.{range_with_len}
use Rattle.kdf_journal.specs.Counts.{slot_numbers}
use Rattle.kdf_yard.specs.Fields.Yards.{first_in, goes_in}
use Rattle.kdf_yard.proofs.yard.Yard.first_of_all.Given as goal

abbrev pub invariant-loop-i : goal.invariant-loop-i
invariant-loop-i l = first_in l.self slot_numbers ≡ find (goes_in l.self) (range_with_len l.i (length l.self.seats - l.i))
