use Rattle.std.proofs.Common.{sym, arith}
use Rattle.kdf_arith.proofs.DigitLemmas.{to_binary_none, to_binary_more, number_below, number_fits}
use Rattle.kdf_arith.proofs.digits.to_binary.Goals as goal

pub loop-i-init : goal.loop-i-init
loop-i-init c = (sym (to_binary_none c.args.radices c.args.word), omega arith)

pub overflow_mul-number : goal.overflow_mul-number
overflow_mul-number c =
    omega (arith, number_fits c.loop-i.i c.loop-i.number c.from.result 0 (omega arith) c.loop-i.invariant.1 (omega arith) (omega arith))

pub overflow_add-number : goal.overflow_add-number
overflow_add-number c =
    omega (arith, number_fits c.loop-i.i c.loop-i.number c.from.result c.from-in-loop-i.result (omega arith) c.loop-i.invariant.1 (omega arith) (omega arith))

pub loop-i-preserved : goal.loop-i-preserved
loop-i-preserved c =
    (rw to_binary_more (cc), number_below c.loop-i.i c.loop-i.number c.from.result c.from-in-loop-i.result c.loop-i.invariant.1 (omega arith) (omega arith))
