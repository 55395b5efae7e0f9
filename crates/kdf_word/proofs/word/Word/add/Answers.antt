use Rattle.std.proofs.Common.{sym}
use Rattle.kdf_word.proofs.Sums.{sum_of_words, sum_overflows}
use Rattle.kdf_word.proofs.word.Word.add.Goals as goal

pub returns-clause-sum : goal.returns-clause-sum
returns-clause-sum c =
    rw (sym c.self.view_is, sym c.other.view_is)
    (sum_of_words _ _ _ _ _ _ c.self.invariant c.other.invariant c.cast_signed.ensures c.cast_signed-2.ensures c.overflowing_add-sum.ensures.value
    c.cast_unsigned-bits.ensures)

pub returns-clause-overflow : goal.returns-clause-overflow
returns-clause-overflow c =
    rw (sym c.self.view_is, sym c.other.view_is)
    (sum_overflows _ _ _ _ _ c.self.invariant c.other.invariant c.cast_signed.ensures c.cast_signed-2.ensures c.overflowing_add-sum.ensures.overflow)
