use Rattle.std.proofs.Common.{◌≡◌, ◌+◌, ◌-◌, take}
use Rattle.kdf_transfer.specs.AtOnce.{addressed, given, stopped, written}
use Rattle.kdf_transfer.specs.Devices.{fixture_of, progress_of}
use Rattle.kdf_transfer.proofs.one_step.read_into.Given as goal

abbrev pub invariant-loop-i : goal.invariant-loop-i
invariant-loop-i l =
    l.words ≡ written (take l.i (addressed l.order l.area.first l.area.last
    (stopped l.order (take (l.area.last + 1 - l.area.first) (given l.order (fixture_of l.device) (progress_of l.device)))))) l.initial.words
