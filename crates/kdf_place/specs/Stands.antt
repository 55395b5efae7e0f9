-- What stands where in an image: the places of the statements, and the syllables of the words.
use Rattle.std.specs.Prelude.{◌≡◌, ℕ, ◌+◌, ◌*◌, ◌/◌, ◌%◌, ◌<◌, ◌≤◌, Bool, true, false, ◌||◌, List, [], ◌∷◌, ◌++◌, length, get_or, Some, Ok}
use Rattle.kdf_syllable.specs.declared.order.Order.{Order}
use Rattle.kdf_syllable.specs.declared.order.Order.TheVariants.{Jump}
use Rattle.kdf_syllable.specs.Packing.{syllable}
use Rattle.kdf_syllable.specs.Spelling.{spelling}
use Rattle.kdf_usercode.specs.declared.statement.Named.{Named}
use Rattle.kdf_usercode.specs.declared.statement.Named.TheVariants.{E}
use Rattle.kdf_usercode.specs.declared.statement.Statement.{Statement}
use Rattle.kdf_usercode.specs.declared.statement.Value.{Value}
use Rattle.kdf_usercode.specs.declared.statement.What.{What}
use Rattle.kdf_usercode.specs.declared.statement.What.TheVariants.{Star, Reference, Constant}
use Rattle.kdf_place.specs.Layout.{is_order, is_opening, round_up, walked, front}
use Rattle.kdf_place.specs.Names.{part_opened, names, store_address, reference, first_order}
use Rattle.kdf_place.specs.Late.{wrong}
use Rattle.kdf_place.specs.Placement.{order_of, jump_target, value, Picture}

-- ---- the syllables of an image

-- syllable k of these words, counted from the begin of word 0
abbrev pub syllable_at : List ℕ → ℕ → ℕ
syllable_at words k = syllable (get_or words (k / 6) 0) (k % 6)

-- from syllable `at` on these bytes stand in the words
abbrev pub Stand : List ℕ → ℕ → List ℕ → Type 0
Stand words at bytes =
    (at + length bytes ≤ 6 * length words)
    × ((k : ℕ) → k < length bytes → syllable_at words (at + k) ≡ get_or bytes k 0)

-- from syllable `at` on up to the next begin of a word there is nothing but DUMMY
abbrev pub IsFilled : List ℕ → ℕ → Type 0
IsFilled words at =
    (round_up at ≤ 6 * length words) × ((k : ℕ) → at ≤ k → k < round_up at → syllable_at words k ≡ 1)

-- ---- the next order of a part

-- here the search for the next order of a part ends: at an order, or at the begin of another part
abbrev pub ends_search : What → Bool
ends_search what = is_order what || is_opening what

-- it ends at none of these
abbrev pub AllPassed : List Statement → Type 0
AllPassed [] = Unit {0}
AllPassed (s ∷ ss) = (ends_search s.what ≡ false) × AllPassed ss

-- it ends at the first of these, or there are none
abbrev pub EndsAt : List Statement → Type 0
EndsAt [] = Unit {0}
EndsAt (s ∷ ss) = ends_search s.what ≡ true

-- ---- the law

-- a store that is named by its address alone
abbrev pub is_address : Named → Bool
is_address (E n) = true
is_address place = false

-- what begins on a new word
abbrev pub begins_word : What → Bool
begins_word Star = true
begins_word what = is_opening what

-- A deck without faults and its image. Each statement stands where the sizes of those before it
-- have come to.
pub record IsLaidOut (ss : List Statement) (image : Picture) : Type 0 where
  -- at the place of each order its spelling stands, with the numbers that its names mean
  pub orders : (before behind : List Statement) (s : Statement) (order : Order)
      → ss ≡ before ++ s ∷ behind
      → order_of (names ss) (walked front before).section s.what ≡ Some order
      → Stand image.words (walked front before).at (spelling order)
  -- each name of a statement means something
  pub named : (before behind : List Statement) (s : Statement) → ss ≡ before ++ s ∷ behind
      → wrong (names ss) (walked front before) s.what ≡ []
  -- the word that stands begun before a `*` and before a part is filled
  pub filled : (before behind : List Statement) (s : Statement) → ss ≡ before ++ s ∷ behind
      → begins_word s.what ≡ true → IsFilled image.words (walked front before).at
  -- the last word of the deck is filled too
  pub filled_last : IsFilled image.words (walked front ss).at
  -- a reference means the place of the next order of its part, or, where none follows, the place
  -- after its last statement
  pub references : (before between behind : List Statement) (s : Statement) (r : ℕ)
      → ss ≡ before ++ s ∷ (between ++ behind) → s.what ≡ Reference r
      → AllPassed between → EndsAt behind
      → reference (names ss) (Some (walked front before).section) r
      ≡ Ok (walked front (before ++ s ∷ between)).at
  -- a part's number means the place of its first order
  pub firsts : (before between behind : List Statement) (s : Statement) (p : ℕ)
      → ss ≡ before ++ s ∷ (between ++ behind) → part_opened s.what ≡ Some p
      → AllPassed between → EndsAt behind
      → first_order (names ss) p ≡ Ok (walked front (before ++ s ∷ between)).at
  -- a constant is in its V-store
  pub constants : (before behind : List Statement) (s : Statement) (n : ℕ) (constant : Value)
      → ss ≡ before ++ s ∷ behind → s.what ≡ Constant n constant
      → get_or image.words ((walked front before).section.base + n) 0
      ≡ value (names ss) (walked front before).section constant
  -- a store that is named in a part, but for a bare address, is one of the image
  pub stores : (before behind : List Statement) (place : Named) (address : ℕ)
      → ss ≡ before ++ behind → is_address place ≡ false
      → store_address (names ss) (walked front before).section place ≡ Ok address
      → address < length image.words
  -- word 0 begins with a jump to the start
  pub start : Stand image.words 0 (spelling (Jump 0x20 (jump_target image.start)))
