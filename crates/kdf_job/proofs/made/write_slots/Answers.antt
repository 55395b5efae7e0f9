use Rattle.std.proofs.Common.{◌+◌, ◌*◌, sym, arith}
use Rattle.kdf_job.proofs.MadeTexts.{nothing_written, slots_done, slots_more, steps-none, steps_go_on}
use Rattle.kdf_job.proofs.made.write_slots.Goals as goal

pub loop-p-init : goal.loop-p-init
loop-p-init c = record {
  written = nothing_written _;
  next = sym (steps-none c.args.letters.now.x);
  few = omega arith;
}

pub loop-p-preserved : goal.loop-p-preserved
loop-p-preserved c = record {
  written = slots_more c.args.letters.now.x c.loop-p.p c.loop-p.letters.x _ _ _ c.loop-p.invariant.written c.loop-p.invariant.next
      c.in_ok-write_slot.ensures.lines;
  next = steps_go_on c.args.letters.now.x (3200 * c.loop-p.p) 3200 (3200 * (c.loop-p.p + 1)) _ _ c.loop-p.invariant.next c.in_ok-write_slot.ensures.next
      (omega arith);
  few = omega arith;
}

pub returns : goal.returns
returns c = slots_done c.args.letters.now.x c.loop-p.p _ _ (omega arith) c.loop-p.invariant.written
