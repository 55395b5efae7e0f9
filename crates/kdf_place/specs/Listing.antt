-- The listing of a deck: its first order, its words, and its references.
use Rattle.std.specs.Prelude.{ℕ, ◌/◌, ◌%◌, List, [], ◌∷◌, ◌++◌, map, codes, decimal}
use Rattle.std.specs.List.{enumerate_from}
use Rattle.kdf_text.specs.Text.{text, word_line, end_line}
use Rattle.kdf_place.specs.declared.image.Label.{Label}
use Rattle.kdf_place.specs.Placement.{Picture}

-- the word and the syllable of a syllable number
abbrev pub place : ℕ → List ℕ
place at = decimal (at / 6) ++ codes " " ++ decimal (at % 6)

abbrev pub head_line : ℕ → List ℕ
head_line slot = codes "KDF9 LISTING " ++ decimal slot

-- the place of the first order
abbrev pub start_line : ℕ → List ℕ
start_line start = codes "START " ++ place start

-- each word after its address
abbrev pub word_lines : List ℕ → List (List ℕ)
word_lines words = map (λ x. word_line x.0 x.1) (enumerate_from 0 words)

-- the part, the number and the place of a reference
abbrev pub reference_line : Label → List ℕ
reference_line l = codes "REF " ++ decimal l.part ++ codes " " ++ decimal l.number ++ codes " " ++ place l.at

-- the listing of the image of a slot
unfoldable pub listing_lines : ℕ → Picture → List (List ℕ)
listing_lines slot picture =
    (head_line slot ∷ start_line picture.start ∷ word_lines picture.words)
    ++ map reference_line picture.labels
    ++ end_line ∷ []

abbrev pub listing_text : ℕ → Picture → List ℕ
listing_text slot picture = text (listing_lines slot picture)

-- the listing of a slot that the job doesn't have
abbrev pub absent_listing : ℕ → List ℕ
absent_listing slot = text (head_line slot ∷ end_line ∷ [])
