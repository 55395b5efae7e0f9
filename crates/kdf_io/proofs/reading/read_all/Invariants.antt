use Rattle.std.proofs.Common.{length, ◌-◌, ◌≡◌, ◌≤◌}
use Rattle.kdf_io.specs.Outside.{Advances}
use Rattle.kdf_io.proofs.reading.read_all.Given as goal

abbrev pub invariant-loop-bytes : goal.invariant-loop-bytes
invariant-loop-bytes g l = record {
  within : length l.bytes.items ≤ l.limit;
  took : Advances (g.S.Source.left l.initial.source) l.bytes.items (g.S.Source.left l.source);
  never_falls : g.S.Source.faults l.initial.source ≤ g.S.Source.faults l.source;
  steady_count : g.S.Source.steady l.initial.source → g.S.Source.faults l.source ≡ g.S.Source.faults l.initial.source;
  steady_stays : g.S.Source.steady l.initial.source → g.S.Source.steady l.source;
}

abbrev pub decreases-loop-bytes : goal.decreases-loop-bytes
decreases-loop-bytes g l = l.limit - length l.bytes.items
