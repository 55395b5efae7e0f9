-- Characters of a constant: what stands after a `P`.
use Rattle.std.specs.Prelude.{ℕ, ◌+◌, ◌*◌, ◌^◌, Bool, not, ◌&&◌, ◌==◌, List, length, get_or, Option, Some, None, is_some}
use Rattle.std.specs.List.{list_all}
use Rattle.kdf_code.specs.Code.{code_of}
use Rattle.kdf_usercode.specs.Bytes.{space, opening, closing, semicolon}

-- a character has a code and isn't a space, a `;` or a bracket
abbrev pub is_character : ℕ → Bool
is_character c =
    is_some (code_of c)
    && (not (c == space) && (not (c == semicolon) && (not (c == opening) && not (c == closing))))

-- these are characters, at least one
abbrev pub are_characters : List ℕ → Bool
are_characters cs = list_all is_character cs && not (length cs == 0)

abbrev pub or_zero : Option ℕ → ℕ
or_zero None = 0
or_zero (Some code) = code

-- the code of character i, or that of a space after the last
abbrev pub code_at : List ℕ → ℕ → ℕ
code_at cs i = or_zero (code_of (get_or cs i space))

-- half a word: the four characters from i on
abbrev pub half : List ℕ → ℕ → ℕ
half cs i =
    64 * (64 * (64 * code_at cs i + code_at cs (i + 1)) + code_at cs (i + 2)) + code_at cs (i + 3)

-- the word of at most eight characters, filled with code 00
unfoldable pub characters_word : List ℕ → ℕ
characters_word cs = half cs 0 * 2 ^ 24 + half cs 4
