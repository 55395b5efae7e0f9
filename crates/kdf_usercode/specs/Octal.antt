-- Octal digits: what stands after a `B`.
use Rattle.std.specs.Prelude.{ℕ, ◌+◌, ◌-◌, ◌*◌, Bool, true, ◌&&◌, nat_le, List, [], ◌∷◌}
use Rattle.kdf_usercode.specs.Bytes.{digit_0, digit_7}

abbrev pub is_octal : ℕ → Bool
is_octal c = nat_le digit_0 c && nat_le c digit_7

abbrev pub all_octal : List ℕ → Bool
all_octal [] = true
all_octal (c ∷ cs) = is_octal c && all_octal cs

-- the value of octal digits after digits of the value n
abbrev pub octal_from : ℕ → List ℕ → ℕ
octal_from n [] = n
octal_from n (c ∷ cs) = octal_from (8 * n + (c - digit_0)) cs

abbrev pub octal : List ℕ → ℕ
octal cs = octal_from 0 cs
