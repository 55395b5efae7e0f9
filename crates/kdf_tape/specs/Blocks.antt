-- What a block keeps of its words.
use Rattle.std.specs.Prelude.{ℕ, Bool, List}
use Rattle.kdf_tape.specs.declared.tape_block.Kept.{Kept}
use Rattle.kdf_tape.specs.declared.tape_block.Kept.TheVariants.{Word, Words}

-- the characters of a block
abbrev pub codes_in : Kept → List ℕ
codes_in (Word mark codes) = codes
codes_in (Words mark codes) = codes.items

-- the mark of a block
abbrev pub mark_in : Kept → Bool
mark_in (Word mark codes) = mark
mark_in (Words mark codes) = mark
