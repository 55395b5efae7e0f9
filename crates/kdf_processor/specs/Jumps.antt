-- What decides a jump.
use Rattle.std.specs.Prelude.{ℕ, Bool, true, false, not, ◌&&◌, ◌||◌}
use Rattle.kdf_processor.specs.declared.conditions.Sign.{Sign}
use Rattle.kdf_processor.specs.declared.conditions.Sign.TheVariants.{Zero, NotZero, Positive, Negative, NotNegative, NotPositive}
use Rattle.kdf_processor.specs.Table.{is_zero, is_negative}

-- a word has this sign
abbrev pub has_sign : Sign → ℕ → Bool
has_sign Zero w = is_zero w
has_sign NotZero w = not (is_zero w)
has_sign Positive w = not (is_zero w) && not (is_negative w)
has_sign Negative w = is_negative w
has_sign NotNegative w = not (is_negative w)
has_sign NotPositive w = is_zero w || is_negative w

-- a test comes out as it is wanted
abbrev pub is_so : Bool → Bool → Bool
is_so true test = test
is_so false test = not test
