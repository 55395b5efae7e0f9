use Rattle.std.proofs.Common.{◌≡◌, ◌+◌, length, drop}
use Rattle.kdf_transfer.specs.AtOnce.{offered, stopped}
use Rattle.kdf_transfer.specs.Devices.{fixture_of, progress_of}
use Rattle.kdf_transfer.specs.InFlight.{area_words}
use Rattle.kdf_transfer.proofs.flight.count_up.Given as goal

abbrev pub invariant-loop-i : goal.invariant-loop-i
invariant-loop-i l =
    let offer = offered l.order l.area.first l.area.last (area_words l.order l.area.first l.area.last l.lease) (fixture_of l.device) (progress_of l.device) in
    length (stopped l.order offer) ≡ l.i + length (stopped l.order (drop l.i offer))
