use Rattle.std.proofs.Common.{◌≡◌, take}
use Rattle.kdf_transfer.specs.Devices.{fixture_of, progress_of}
use Rattle.kdf_transfer.specs.InFlight.{all_words}
use Rattle.kdf_transfer.proofs.flight.fill.Given as goal

abbrev pub invariant-loop-i : goal.invariant-loop-i
invariant-loop-i l = l.ring ≡ take l.i (all_words l.order l.area.first l.area.last l.lease (fixture_of l.device) (progress_of l.device))
