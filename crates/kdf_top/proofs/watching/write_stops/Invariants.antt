use Rattle.std.proofs.Common.{map, take}
use Rattle.kdf_text.specs.Text.{Adds}
use Rattle.kdf_top.specs.Due.{stop_line}
use Rattle.kdf_top.proofs.watching.write_stops.Given as goal

abbrev pub invariant-loop-n : goal.invariant-loop-n
invariant-loop-n l = Adds l.initial.out l.out (map stop_line (take l.n-index l.stops))
