-- A word of characters as a number under the radices that stand in the characters of another word, and a number
-- as such characters.
use Rattle.std.specs.Prelude.{ℕ, zero, suc, ◌+◌, ◌-◌, ◌*◌, ◌/◌, ◌%◌, ◌==◌, if◌then◌else◌}
use Rattle.kdf_word.specs.Characters.{character_of, with_character}

-- the number of the first so many characters: each is added to the number before it times its own
-- radix
unfoldable pub to_binary : ℕ → ℕ → ℕ → ℕ
to_binary zero radices w = 0
to_binary (suc i) radices w = to_binary i radices w * character_of i radices + character_of i w

-- the characters that are spelled so far, the last first, and what is left of the number
pub record Spelled : Type 0 where
  pub word : ℕ
  pub rest : ℕ

-- one character more, as place i: the remainder by its radix. A radix 0 spells a 0 and leaves the
-- number
abbrev pub spelled : ℕ → ℕ → Spelled → Spelled
spelled i radix s =
    if radix == 0 then s
    else record { word = with_character i (s.rest % radix) s.word; rest = s.rest / radix }

-- a number as characters, so many from the last
unfoldable pub from_binary : ℕ → ℕ → ℕ → Spelled
from_binary zero radices n = record { word = 0; rest = n }
from_binary (suc k) radices n =
    spelled (7 - k) (character_of (7 - k) radices) (from_binary k radices n)
