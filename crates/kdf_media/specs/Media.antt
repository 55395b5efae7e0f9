-- Readers, card readers, punches and printers: which characters an order reads or prints, and what it leaves.
use Rattle.std.specs.Prelude.{ℕ, ◌+◌, ◌-◌, ◌*◌, ◌^◌, ◌<◌, ◌≤◌, ◌==◌, ◌&&◌, not, nat_lt, nat_le, min, Bool, if◌then◌else◌, List, [], ◌∷◌, ◌++◌, length, take}
use Rattle.std.specs.Prelude.{drop, map, replicate, slice_index_or}
use Rattle.std.specs.List.{All, list_any, slice_split, join_with_byte}
use Rattle.std.specs.Io.BufRead.{take_through}
use Rattle.kdf_word.specs.Characters.{codes_of, words_of}

-- End Message, code 75 octal, is among these characters
abbrev pub has_end : List ℕ → Bool
has_end codes = list_any (λ code. code == 61) codes

-- the characters up to and with the first End Message, or all
abbrev pub through_end : List ℕ → List ℕ
through_end codes = take_through 61 codes

-- the words up to and with the first that has an End Message, or all
abbrev pub through_end_word : List ℕ → List ℕ
through_end_word [] = []
through_end_word (word ∷ words) = if has_end (codes_of word) then word ∷ [] else word ∷ through_end_word words

-- what a line printer prints: of each run of characters between those of code 02 the first 160, and these
unfoldable pub printed : List ℕ → List ℕ
printed codes = join_with_byte 2 (map (take 160) (slice_split (λ code. code == 2) codes))

-- a medium of fewer than 2^32 items, each as it has to be, and a place in it
pub record IsMedium {X : Type 0} (P : X → Type 0) (items : List X) (place : ℕ) : Type 0 where
  pub small : All P items
  pub few : length items < 2 ^ 32
  pub inside : place ≤ length items

-- a paper tape reader: the characters of its medium, how many of them are read, and its flag
pub record ReaderState : Type 0 where
  pub codes : List ℕ
  pub place : ℕ
  pub flag : Bool

-- the characters that are read of those that fit an area: PRQ reads all, PREQ those up to the first End Message
abbrev pub read_codes : Bool → List ℕ → List ℕ
read_codes to_end fitting = if to_end then through_end fitting else fitting

-- the medium ended before an area of n words was full, and, where PREQ looked for it, before an End Message
abbrev pub falls_short : Bool → ℕ → List ℕ → Bool
falls_short to_end n fitting = nat_lt (length fitting) (8 * n) && not (to_end && has_end fitting)

-- a reader after PRQ, or PREQ which reads to an End Message, over an area of n words
unfoldable pub after_read : Bool → ℕ → ReaderState → ReaderState
after_read to_end n r =
    let fitting = take (8 * n) (drop r.place r.codes) in
    record r { place = r.place + length (read_codes to_end fitting); flag = falls_short to_end n fitting }

-- characters of a card, with spaces after them
abbrev pub card_of : List ℕ → List ℕ
card_of codes = codes ++ replicate (80 - length codes) 0

-- a card reader: the characters of its cards, 80 a card, how many cards are read, and its flag
pub record CardsState : Type 0 where
  pub cards : List (List ℕ)
  pub place : ℕ
  pub flag : Bool

-- the words of the card at a place, at most 10, and none where there is no card
abbrev pub card_words : ℕ → List (List ℕ) → List ℕ
card_words place cards = take 10 (words_of (slice_index_or cards place []))

-- a card reader after CRQ: one card on, or at the end of its cards, with the flag
unfoldable pub after_card : CardsState → CardsState
after_card c = record c { place = min (c.place + 1) (length c.cards); flag = nat_le (length c.cards) c.place }

-- a punch or a printer: the characters of its finished blocks, and for how many blocks more it has memory
pub record BlocksState : Type 0 where
  pub blocks : List (List ℕ)
  pub room : ℕ
