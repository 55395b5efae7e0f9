use Rattle.std.proofs.Common.{◌≡◌, ◌+◌, ◌++◌, take}
use Rattle.kdf_text.specs.Ahead.{ahead}
use Rattle.kdf_check.specs.Report.{told_from}
use Rattle.kdf_check.specs.Verdict.{told}
use Rattle.kdf_check.proofs.report.first_difference.Given as goal

abbrev pub invariant-loop-entry : goal.invariant-loop-entry
invariant-loop-entry l = record {
  alike : told_from (ahead l.fn.lines) ≡ told (take l.entry-index l.entries) ++ told_from (ahead l.lines);
  number : l.lines.number ≡ l.fn.lines.number + l.entry-index;
}
