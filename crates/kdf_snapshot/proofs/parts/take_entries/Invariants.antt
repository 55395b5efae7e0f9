use Rattle.std.proofs.Common.{◌≡◌, length}
use Rattle.kdf_text.specs.Ahead.{ahead}
use Rattle.kdf_snapshot.specs.Passed.{Passed}
use Rattle.kdf_snapshot.specs.Snapshot.{entries_from}
use Rattle.kdf_snapshot.proofs.Reading.{after}
use Rattle.kdf_snapshot.proofs.parts.take_entries.Given as goal

abbrev pub invariant-loop-number : goal.invariant-loop-number
invariant-loop-number l = record {
  passed : Passed (length l.entries.items) l.initial.at l.at;
  told : entries_from l.initial.at.lines.number (ahead l.initial.at.lines) ≡ after l.entries.items (entries_from l.at.lines.number (ahead l.at.lines));
}

abbrev pub decreases-loop-number : goal.decreases-loop-number
decreases-loop-number l = length l.at.lines.rest.now
