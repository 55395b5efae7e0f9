use Rattle.std.proofs.Common.{◌≤◌, length, take}
use Rattle.std.specs.List.{flat_map}
use Rattle.kdf_processor.specs.State.{lendings}
use Rattle.kdf_text.specs.Text.{Adds}
use Rattle.kdf_report.specs.Devices.{stint_lines}
use Rattle.kdf_report.proofs.stints.write_stints.Given as goal

abbrev pub invariant-loop-i : goal.invariant-loop-i
invariant-loop-i g l = record {
  written : Adds l.initial.out l.out (flat_map stint_lines (take l.i (lendings (g.P.Program.state l.program).stock)));
  most : l.i ≤ length (lendings (g.P.Program.state l.program).stock);
}
