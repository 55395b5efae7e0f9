-- Cards of which only the characters are kept, one after another.
use Rattle.std.specs.Prelude.{ℕ, ◌+◌, ◌≤◌, ◌≡◌, List, [], ◌∷◌, slice_range}
use Rattle.kdf_media.specs.Media.{card_of}

-- where cards of at most 80 characters end, the first of which begins at a place, in so many characters
abbrev pub AreEnds : ℕ → List ℕ → ℕ → Type 0
AreEnds from [] many = from ≡ many
AreEnds from (end ∷ ends) many = (from ≤ end) × (end ≤ from + 80) × AreEnds end ends many

-- the cards that end there, each with spaces after its characters
abbrev pub cards_to : ℕ → List ℕ → List ℕ → List (List ℕ)
cards_to from [] codes = []
cards_to from (end ∷ ends) codes = card_of (slice_range codes from end) ∷ cards_to end ends codes
