use Rattle.std.proofs.Common.{sym}
use Rattle.kdf_word.proofs.Sums.{difference_of_words, difference_overflows}
use Rattle.kdf_word.proofs.word.Word.sub.Goals as goal

pub returns-clause-difference : goal.returns-clause-difference
returns-clause-difference c =
    rw (sym c.self.view_is, sym c.other.view_is)
    (difference_of_words _ _ _ _ _ _ c.self.invariant c.other.invariant c.cast_signed.ensures c.cast_signed-2.ensures
    c.overflowing_sub-difference.ensures.value c.cast_unsigned-bits.ensures)

pub returns-clause-overflow : goal.returns-clause-overflow
returns-clause-overflow c =
    rw (sym c.self.view_is, sym c.other.view_is)
    (difference_overflows _ _ _ _ _ c.self.invariant c.other.invariant c.cast_signed.ensures c.cast_signed-2.ensures
    c.overflowing_sub-difference.ensures.overflow)
