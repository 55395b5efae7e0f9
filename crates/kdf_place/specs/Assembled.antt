-- What the text of a deck comes to.
use Rattle.std.specs.Prelude.{ℕ, List, [], length, Result, Ok, Err}
use Rattle.kdf_usercode.specs.declared.statement.Statement.{Statement}
use Rattle.kdf_usercode.specs.Faults.{FoundFault}
use Rattle.kdf_usercode.specs.Grammar.{deck}
use Rattle.kdf_place.specs.Placement.{Picture, placed}

-- the image of what was read, or the fault with which it wasn't
abbrev pub placed_if_read : Result (List Statement) FoundFault → ℕ → ℕ → Result Picture FoundFault
placed_if_read (Ok statements) len size = placed statements len size
placed_if_read (Err early) len size = Err early

-- the image of a deck of this text for a store of so many words, or its first fault: those of reading come before those of placing
unfoldable pub assembled : ℕ → List ℕ → Result Picture FoundFault
assembled size text = placed_if_read (deck text) (length text) size

abbrev pub words_or_none : Result Picture FoundFault → List ℕ
words_or_none (Ok picture) = picture.words
words_or_none (Err fault) = []

-- the words of the image
abbrev pub image_words : ℕ → List ℕ → List ℕ
image_words size text = words_or_none (assembled size text)
