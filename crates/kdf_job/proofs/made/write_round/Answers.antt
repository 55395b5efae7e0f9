use Rattle.std.proofs.Common.{◌++◌, arith, codes, decimal}
use Rattle.kdf_job.proofs.MadeTexts.{line_of_each, nothing_written, round_done}
use Rattle.kdf_job.proofs.made.write_round.Goals as goal

pub loop-d-init : goal.loop-d-init
loop-d-init c = record { written = nothing_written _; few = omega arith }

pub loop-d-preserved : goal.loop-d-preserved
loop-d-preserved c = record {
  written = line_of_each (λ d. codes "END " ++ decimal d) c.loop-d.d _ _ _ c.loop-d.invariant.written c.in_ok-write_end.ensures;
  few = omega arith;
}

pub returns : goal.returns
returns c = round_done c.loop-d.d _ _ _ (omega arith) c.in_ok-write_line.ensures c.loop-d.invariant.written
