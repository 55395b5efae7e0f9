use Rattle.std.proofs.Common.{◌≡◌, [], length}
use Rattle.kdf_usercode.specs.Reading.{with_ahead}
use Rattle.kdf_usercode.specs.Thinned.{thinned_deck}
use Rattle.kdf_usercode.specs.Unread.{ahead}
use Rattle.kdf_usercode.proofs.reader.read.Given as goal

abbrev pub invariant-loop-kept : goal.invariant-loop-kept
invariant-loop-kept l = with_ahead l.reading l.piece.items (length l.text) [] (ahead l.unread) ≡ thinned_deck l.fn.stars l.text

abbrev pub decreases-loop-kept : goal.decreases-loop-kept
decreases-loop-kept l = length l.unread.rest.now
