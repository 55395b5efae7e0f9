-- Where each statement stands: the sum of all sizes before it, in syllables of the image.
use Rattle.std.specs.Prelude.{ℕ, ◌+◌, ◌*◌, ◌/◌, Bool, true, false, ◌||◌, nat_lt, List, [], ◌∷◌, length, Option, Some, None, if◌then◌else◌}
use Rattle.kdf_syllable.specs.Spelling.{spelling}
use Rattle.kdf_usercode.specs.declared.statement.Statement.{Statement}
use Rattle.kdf_usercode.specs.declared.statement.What.{What}
use Rattle.kdf_usercode.specs.declared.statement.What.TheVariants.{Program, Part, Star, Plain, Short, Fetch, Keep, Go, SetAddress}
use Rattle.kdf_place.specs.declared.here.Here.{Here}
use Rattle.kdf_place.specs.declared.here.Section.{Section}

-- the syllables of an order; what is no order has none
abbrev pub size_of : What → ℕ
size_of (Plain order) = length (spelling order)
size_of (Fetch place q u) = 3
size_of (Keep place q u) = 3
size_of (SetAddress place) = 3
size_of (Go c target) = 3
size_of (Short r q) = 2
size_of what = 0

abbrev pub is_order : What → Bool
is_order what = nat_lt 0 (size_of what)

abbrev pub is_opening : What → Bool
is_opening (Program v) = true
is_opening (Part p v) = true
is_opening what = false

-- how many V-stores a part has whose last is this one
abbrev pub stores : Option ℕ → ℕ
stores None = 0
stores (Some n) = n + 1

-- the words that so many syllables fill or begin
abbrev pub words_for : ℕ → ℕ
words_for syllables = (syllables + 5) / 6

-- the next begin of a word
abbrev pub round_up : ℕ → ℕ
round_up at = 6 * words_for at

-- the syllable after a statement at `at`: a part begins on a new word, with its V-stores
abbrev pub advance : ℕ → What → ℕ
advance at Star = round_up at
advance at (Program v) = round_up at + 6 * stores v
advance at (Part p v) = round_up at + 6 * stores v
advance at what = at + size_of what

abbrev pub opened : ℕ → ℕ → ℕ → Option ℕ → Section
opened at place p v = record { opened = place; part = p; base = words_for at; stores = stores v }

-- the part after a statement at this place of the deck
abbrev pub section_after : Here → ℕ → What → Section
section_after here place (Program v) = opened here.at place 0 v
section_after here place (Part p v) = opened here.at place p v
section_after here place what = here.section

abbrev pub after : Here → Statement → Here
after here s = record { section = section_after here s.place s.what; at = advance here.at s.what }

-- where the walk over these statements has come to
abbrev pub walked : Here → List Statement → Here
walked here [] = here
walked here (s ∷ ss) = walked (after here s) ss

-- before the first part: word 0 is the jump to the first order
abbrev pub front : Here
front = record { section = record { opened = 0; part = 0; base = 0; stores = 0 }; at = 6 }

-- the syllable after all statements
abbrev pub end_of : Here → List Statement → ℕ
end_of here ss = (walked here ss).at

-- the next order of the part from `at` on, or where one would stand after its last statement
abbrev pub next_order : ℕ → List Statement → ℕ
next_order at [] = at
next_order at (s ∷ ss) =
    if is_order s.what || is_opening s.what then at else next_order (advance at s.what) ss
