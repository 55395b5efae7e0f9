-- Tests of a value by its sign.
use Rattle.std.specs.Prelude.{ℤ, pos, negsuc, Bool, false, nat_lt}

-- 0 or -1, which is what is left of a value where its sign alone is
abbrev pub is_sign : ℤ → Bool
is_sign (pos n) = nat_lt n 1
is_sign (negsuc n) = nat_lt n 1

abbrev pub is_zero : ℤ → Bool
is_zero (pos n) = nat_lt n 1
is_zero (negsuc n) = false
