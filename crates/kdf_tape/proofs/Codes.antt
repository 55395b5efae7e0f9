-- The codes of a block, and its words.
use Rattle.std.proofs.Common.{◌≡◌, ℕ, ◌+◌, ◌*◌, ◌/◌, ◌<◌, ◌≤◌, List, length, drop, get_or, arith, sym}
use Rattle.kdf_word.specs.Characters.{codes_of_all, first_word, words_of}
use Rattle.kdf_word.proofs.Packing.{codes_of_all-words_of, get_or-words_of, length-words_of}
use Rattle.kdf_tape.specs.Tape.{IsWhole}

pub block_len : (codes : List ℕ) → IsWhole codes → length codes / 8 ≡ length (words_of codes)
block_len codes h = let l = length-words_of codes in let w = h.whole in omega (arith, l, w)

-- a word of the block has its eight codes in it
pub block_inside : (codes : List ℕ) (i : ℕ) → IsWhole codes → i < length (words_of codes) → 8 * i + 8 ≤ length codes
block_inside codes i h lt = let l = length-words_of codes in let w = h.whole in omega (arith, l, w, lt)

pub block_word : (codes : List ℕ) (i : ℕ) → 8 * i + 8 ≤ length codes → get_or (words_of codes) i 0 ≡ first_word (drop (8 * i) codes)
block_word codes i le = get_or-words_of codes i 0 (omega arith)

pub block_codes : (codes : List ℕ) → IsWhole codes → codes ≡ codes_of_all (words_of codes)
block_codes codes h = sym (codes_of_all-words_of codes h.small h.whole)
