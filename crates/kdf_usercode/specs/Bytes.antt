-- The bytes of a deck that have a name.
use Rattle.std.specs.Prelude.{ℕ}

abbrev pub line_end : ℕ
line_end = 10

abbrev pub space : ℕ
space = 32

-- `(`, which begins a comment
abbrev pub opening : ℕ
opening = 40

-- `)`, which ends it
abbrev pub closing : ℕ
closing = 41

abbrev pub star : ℕ
star = 42

abbrev pub digit_0 : ℕ
digit_0 = 48

abbrev pub digit_7 : ℕ
digit_7 = 55

abbrev pub digit_9 : ℕ
digit_9 = 57

-- `;`, which ends a statement
abbrev pub semicolon : ℕ
semicolon = 59

abbrev pub letter_a : ℕ
letter_a = 65

-- `B`, after which octal digits stand
abbrev pub letter_b : ℕ
letter_b = 66

-- `P`, after which the characters of a constant stand
abbrev pub letter_p : ℕ
letter_p = 80

abbrev pub letter_z : ℕ
letter_z = 90
