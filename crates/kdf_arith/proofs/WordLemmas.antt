-- A double value that is put as a word.
use Rattle.std.proofs.Common.{◌≡◌, ℤ, not, ◌||◌, arith, rules}
use Rattle.std.proofs.lemmas.Grind.{common_steps}
use Rattle.kdf_word.specs.Words.{word_of, fits}
use Rattle.kdf_word.specs.Doubles.{double_fits, put}

pub word_put : (v : ℤ) → word_of (put v) ≡ word_of v
word_put v = first_of (search rules, grind (arith, common_steps))

pub fits_put : (v : ℤ) → (not (double_fits v) || not (fits (put v))) ≡ not (fits v)
fits_put v = first_of (search rules, grind (arith, common_steps))
