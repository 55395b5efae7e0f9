use Rattle.std.proofs.Common.{ℕ, arith}
use Rattle.kdf_job.specs.Made.{made_round}
use Rattle.kdf_job.proofs.MadeTexts.{lines_of_each, nothing_written, rounds_done}
use Rattle.kdf_job.proofs.made.write_rounds.Goals as goal

pub loop-init : goal.loop-init
loop-init c = record { written = nothing_written _; few = omega arith }

pub loop-preserved : goal.loop-preserved
loop-preserved c = record {
  written = lines_of_each (λ (round : ℕ). made_round) c.loop.counter _ _ _ c.loop.invariant.written c.in_ok-write_round.ensures;
  few = omega arith;
}

pub returns : goal.returns
returns c = rounds_done c.loop.counter _ _ (omega arith) c.loop.invariant.written
