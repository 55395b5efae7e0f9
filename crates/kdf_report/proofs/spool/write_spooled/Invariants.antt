use Rattle.std.proofs.Common.{map, take}
use Rattle.kdf_text.specs.Text.{Adds}
use Rattle.kdf_report.specs.Text.{spool_line}
use Rattle.kdf_report.proofs.spool.write_spooled.Given as goal

abbrev pub invariant-loop-text : goal.invariant-loop-text
invariant-loop-text l =
    Adds l.initial.out l.out (map spool_line (take l.text-index l.spooled))
