use Rattle.std.proofs.Common.{◌+◌, ◌*◌, sym, arith}
use Rattle.kdf_job.proofs.MadeTexts.{nothing_written, reader_done, reader_more, steps-none, steps_go_on}
use Rattle.kdf_job.proofs.made.write_reader.Goals as goal

pub loop-init : goal.loop-init
loop-init c = record {
  written = nothing_written _;
  next = sym (steps-none c.args.letters.now.x);
  few = omega arith;
}

pub loop-preserved : goal.loop-preserved
loop-preserved c = record {
  written = reader_more c.args.letters.now.x c.loop.counter c.loop.letters.x _ _ _ c.loop.invariant.written c.loop.invariant.next
      c.in_ok-write_reader_line.ensures.line;
  next = steps_go_on c.args.letters.now.x (16 * c.loop.counter) 16 (16 * (c.loop.counter + 1)) _ _ c.loop.invariant.next c.in_ok-write_reader_line.ensures.next
      (omega arith);
  few = omega arith;
}

pub returns-clause-lines : goal.returns-clause-lines
returns-clause-lines c = reader_done c.args.letters.now.x c.loop.counter _ _ (omega arith) c.loop.invariant.written
