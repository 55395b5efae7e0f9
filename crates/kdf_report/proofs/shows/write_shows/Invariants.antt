use Rattle.std.proofs.Common.{take}
use Rattle.std.specs.List.{flat_map}
use Rattle.kdf_text.specs.Text.{Adds}
use Rattle.kdf_report.specs.Text.{show_lines}
use Rattle.kdf_report.proofs.shows.write_shows.Given as goal

abbrev pub invariant-loop-first : goal.invariant-loop-first
invariant-loop-first g l =
    Adds l.initial.out l.out (flat_map (show_lines (g.P.Program.state l.program)) (take l.first-index l.shows))
