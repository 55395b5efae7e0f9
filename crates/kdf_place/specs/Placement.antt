-- The image of a deck, and what `assemble` answers.
use Rattle.std.specs.Prelude.{◌≡◌, ℕ, ◌+◌, ◌-◌, ◌*◌, ◌/◌, ◌%◌, ◌^◌, nat_lt, true, false, List, [], ◌∷◌, ◌++◌, length, map, set, replicate, sum, Option, Some}
use Rattle.std.specs.Prelude.{None, Result, Ok, Err, if◌then◌else◌}
use Rattle.kdf_syllable.specs.declared.order.Order.{Order}
use Rattle.kdf_syllable.specs.declared.order.Order.TheVariants as orders
use Rattle.kdf_syllable.specs.Packing.{packed}
use Rattle.kdf_syllable.specs.Spelling.{spelling}
use Rattle.kdf_usercode.specs.declared.fault.DeckFault.{DeckFault}
use Rattle.kdf_usercode.specs.declared.fault.DeckFault.TheVariants.{TooLarge}
use Rattle.kdf_usercode.specs.declared.fault.DeckError.{DeckError}
use Rattle.kdf_usercode.specs.declared.fault.DeckError.TheVariants as errors
use Rattle.kdf_usercode.specs.declared.statement.Item.{Item}
use Rattle.kdf_usercode.specs.declared.statement.Item.TheVariants.{Bits, Address}
use Rattle.kdf_usercode.specs.declared.statement.Statement.{Statement}
use Rattle.kdf_usercode.specs.declared.statement.Value.{Value}
use Rattle.kdf_usercode.specs.declared.statement.Value.TheVariants.{Number, Triple}
use Rattle.kdf_usercode.specs.declared.statement.What.{What}
use Rattle.kdf_usercode.specs.declared.statement.What.TheVariants.{Program, Part, Constant, Star, Plain, Fetch, Keep, Go, Short, SetAddress}
use Rattle.kdf_usercode.specs.Faults.{FoundFault, found, least}
use Rattle.kdf_place.specs.declared.here.Here.{Here}
use Rattle.kdf_place.specs.declared.here.Section.{Section}
use Rattle.kdf_place.specs.declared.image.Image.{Image}
use Rattle.kdf_place.specs.declared.image.Label.{Label}
use Rattle.kdf_place.specs.declared.names.Entry.{Entry}
use Rattle.kdf_place.specs.declared.names.Mark.{Mark}
use Rattle.kdf_place.specs.Layout.{stores, round_up, after, front}
use Rattle.kdf_place.specs.Names.{labels, Names, names, store_address, first_order, syllable_of}
use Rattle.kdf_place.specs.Late.{late_faults}

-- a number that was found; in a deck without a fault each one is
abbrev pub number : Result ℕ DeckFault → ℕ
number (Ok n) = n
number (Err fault) = 0

-- the syllable number of a place: 6 times the word, and the syllable; after word 8191 it is 0
abbrev pub syllable_number : ℕ → ℕ
syllable_number at = if nat_lt (at / 6) 8192 then at else 0

-- a syllable number as a jump has it: 8192 times the syllable, and the word
abbrev pub jump_target : ℕ → ℕ
jump_target at = 8192 * (at % 6) + at / 6

-- ---- orders

-- the order of a statement, with the numbers that its names mean
abbrev pub order_of : Names → Section → What → Option Order
order_of names section (Plain order) = Some order
order_of names section (Fetch place q u) =
    Some (orders.Direct false u q (number (store_address names section place) % 2 ^ 15))
order_of names section (Keep place q u) =
    Some (orders.Direct true u q (number (store_address names section place) % 2 ^ 15))
order_of names section (SetAddress place) =
    Some (orders.Set (number (store_address names section place) % 2 ^ 16))
order_of names section (Go c target) =
    Some (orders.Jump c (jump_target (syllable_number (number (syllable_of names section target)))))
order_of names section (Short r q) = Some (orders.Single 0x6f q)
order_of names section what = None

abbrev pub spelt : Option Order → List ℕ
spelt None = []
spelt (Some order) = spelling order

-- DUMMY up to the next begin of a word
abbrev pub filling : ℕ → List ℕ
filling at = replicate (round_up at - at) 1

-- the syllables of a statement that stands here; V-stores are zero at first
abbrev pub syllables_of : Names → Here → What → List ℕ
syllables_of names here Star = filling here.at
syllables_of names here (Program v) = filling here.at ++ replicate (6 * stores v) 0
syllables_of names here (Part p v) = filling here.at ++ replicate (6 * stores v) 0
syllables_of names here what = spelt (order_of names here.section what)

-- the syllables of the statements, up to a full word
abbrev pub syllables : Names → Here → List Statement → List ℕ
syllables names here [] = filling here.at
syllables names here (s ∷ ss) = syllables_of names here s.what ++ syllables names (after here s) ss

-- six syllables to a word
abbrev pub words_of : List ℕ → List ℕ
words_of (a ∷ b ∷ c ∷ d ∷ e ∷ f ∷ rest) = packed (a ∷ b ∷ c ∷ d ∷ e ∷ f ∷ []) ∷ words_of rest
words_of rest = []

-- ---- constants

abbrev pub item : Names → Section → Item → ℕ
item names section (Bits bits) = bits
item names section (Address place) = number (store_address names section place) % 2 ^ 16

-- a Q-store has C in its first 16 bits, I in the next and M in the last
abbrev pub value : Names → Section → Value → ℕ
value names section (Number word) = word
value names section (Triple c i m) =
    item names section c * 2 ^ 32 + item names section i * 2 ^ 16 + item names section m

abbrev pub with_constant : Names → Section → What → List ℕ → List ℕ
with_constant names section (Constant n constant) words =
    set words (section.base + n) (value names section constant)
with_constant names section what words = words

-- the words with the constants in their V-stores
abbrev pub with_constants : Names → Here → List Statement → List ℕ → List ℕ
with_constants names here [] words = words
with_constants names here (s ∷ ss) words =
    with_constants names (after here s) ss (with_constant names here.section s.what words)

-- ---- the image

-- the syllable number of the first order of the main part
abbrev pub start_of : Names → ℕ
start_of names = syllable_number (number (first_order names 0))

-- a jump to the first order, and three DUMMY
abbrev pub first_word : Names → List ℕ
first_word names = spelling (orders.Jump 0x20 (jump_target (start_of names))) ++ 1 ∷ 1 ∷ 1 ∷ []

-- the words of a deck: word 0, the parts, and the stores of the groups, zero
abbrev pub words : Names → List Statement → List ℕ
words names ss =
    let spelt_words = words_of (first_word names ++ syllables names front ss) in
    with_constants names front ss (spelt_words ++ replicate (sum names.groups) 0)

abbrev pub label_of : Entry Mark → Label
label_of e = record { part = e.means.part; number = e.number; at = syllable_number e.means.at }

pub record Picture : Type 0 where
  pub words : List ℕ
  pub start : ℕ
  pub labels : List Label

abbrev pub picture_of : List Statement → Picture
picture_of ss = record {
  words = words (names ss) ss;
  start = start_of (names ss);
  labels = map label_of (labels front ss);
}

-- ---- the answer

abbrev pub sized : Picture → ℕ → ℕ → Result Picture FoundFault
sized picture len size =
    if nat_lt size (length picture.words) then Err (found TooLarge len) else Ok picture

abbrev pub verdict : Option FoundFault → Result Picture FoundFault → Result Picture FoundFault
verdict None rest = rest
verdict (Some f) rest = Err f

-- the image of a deck of so many bytes for a store of so many words, or the first fault
unfoldable pub placed : List Statement → ℕ → ℕ → Result Picture FoundFault
placed ss len size = verdict (least (late_faults ss)) (sized (picture_of ss) len size)

-- what an image shows
abbrev pub shown_image : Image → Picture
shown_image image = record {
  words = image.words.items;
  start = image.start;
  labels = image.labels.items;
}

-- what a function returned is this, unless memory ran out
abbrev pub Gives : Result Image DeckError → Result Picture FoundFault → Type 0
Gives (Ok image) due = due ≡ Ok (shown_image image)
Gives (Err errors.Memory) due = Unit {0}
Gives (Err (errors.Fault fault place)) due = due ≡ Err (found fault place)
