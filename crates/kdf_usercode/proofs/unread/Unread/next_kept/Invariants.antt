use Rattle.std.proofs.Common.{◌≡◌, ◌≤◌, length}
use Rattle.kdf_usercode.specs.Unread.{ahead}
use Rattle.kdf_usercode.proofs.unread.Unread.next_kept.Given as goal

abbrev pub invariant-loop-self : goal.invariant-loop-self
invariant-loop-self l = record {
  ahead : ahead l.self ≡ ahead l.fn.self;
  within : length l.self.rest.now ≤ length l.fn.self.rest.now;
}

abbrev pub decreases-loop-self : goal.decreases-loop-self
decreases-loop-self l = length l.self.rest.now
