-- How six syllables are packed into a word.
use Rattle.std.specs.Prelude.{ℕ, ◌+◌, ◌-◌, ◌*◌, ◌/◌, ◌%◌, ◌^◌, List, fold}

-- the number that has these bytes as its digits to base 256, the first byte highest
abbrev pub packed : List ℕ → ℕ
packed bytes = fold (λ number byte. 256 * number + byte) 0 bytes

-- the digit of a word to base 256 that is syllable i: syllable 0 is the highest
abbrev pub syllable : ℕ → ℕ → ℕ
syllable word i = word / 256 ^ (5 - i) % 256
