use Rattle.std.proofs.Common.{◌≡◌, ◌+◌, length, take, drop}
use Rattle.kdf_transfer.specs.AtOnce.{given, stopped}
use Rattle.kdf_transfer.specs.Devices.{fixture_of, progress_of}
use Rattle.kdf_transfer.proofs.one_step.count_input.Given as goal

abbrev pub invariant-loop-i : goal.invariant-loop-i
invariant-loop-i l =
    length (stopped l.order (take l.words (given l.order (fixture_of l.device) (progress_of l.device)))) ≡ l.i + length
    (stopped l.order (drop l.i (take l.words (given l.order (fixture_of l.device) (progress_of l.device)))))
