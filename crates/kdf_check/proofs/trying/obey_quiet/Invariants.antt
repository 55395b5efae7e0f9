use Rattle.std.proofs.Common.{◌+◌, ◌-◌, ◌<◌, ◌≤◌}
use Rattle.kdf_processor.specs.Buffered.{Agrees}
use Rattle.kdf_check.specs.CheckPort.{shown}
use Rattle.kdf_check.proofs.Quiet.{IsAt}
use Rattle.kdf_check.proofs.trying.obey_quiet.Given as goal

abbrev pub invariant-loop-desk : goal.invariant-loop-desk
invariant-loop-desk l =
    record {
      at : IsAt l.fn.desk l.desk l.fn.registers l.registers l.done;
      few : l.done < l.most;
      ran : l.registers.ran + (l.most - l.done) ≤ 4294967295;
      agrees : Agrees (shown l.desk) l.held;
    }

abbrev pub decreases-loop-desk : goal.decreases-loop-desk
decreases-loop-desk l = l.most - l.done
