use Rattle.std.proofs.Common.{◌≡◌, ◌+◌}
use Rattle.kdf_transfer.specs.InFlight.{moved_by}
use Rattle.kdf_transfer.specs.Flying.{IsFlying, motion_of}
use Rattle.kdf_transfer.proofs.flight.Flight.run.Given as goal

abbrev pub invariant-loop-i : goal.invariant-loop-i
invariant-loop-i l =
    record {
      flying : IsFlying l.self;
      motion : motion_of l.self ≡ moved_by l._i (motion_of l.initial.self);
      total : l.self.total ≡ l.initial.self.total;
      moved : l.self.moved ≡ l.initial.self.moved + l._i;
    }
