use Rattle.std.proofs.Common.{◌≡◌, ◌-◌, ◌<◌, ◌≤◌, map}
use Rattle.std.specs.List.{range_with_len}
use Rattle.kdf_text.specs.Text.{Adds}
use Rattle.kdf_report.specs.Text.{word_line_at}
use Rattle.kdf_report.proofs.shows.write_show.Given as goal

abbrev pub invariant-loop-address : goal.invariant-loop-address
invariant-loop-address g l = record {
  written : Adds l.initial.out l.out (map (word_line_at (g.P.Program.state l.program)) (range_with_len l.first (l.address - l.first)));
  some : l.first ≤ l.last → l.address ≤ l.last;
  none : l.last < l.first → l.address ≡ l.first;
}
