use Rattle.std.proofs.Common.{map, take}
use Rattle.kdf_text.specs.Text.{Adds}
use Rattle.kdf_report.specs.Text.{entry_line}
use Rattle.kdf_report.proofs.entries.write_each.Given as goal

abbrev pub invariant-loop-entry : goal.invariant-loop-entry
invariant-loop-entry l =
    Adds l.initial.out l.out (map entry_line (take l.entry-index l.entries))
