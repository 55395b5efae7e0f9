-- Media on which the definitions are worked.
use Rattle.std.specs.Prelude.{ℕ, Bool, List, ◌∷◌, ◌++◌, replicate}
use Rattle.kdf_media.specs.Media.{ReaderState, CardsState}

-- n characters A
abbrev pub letters : ℕ → List ℕ
letters n = replicate n 33

-- n characters A, an End Message, and m characters B
abbrev pub message : ℕ → ℕ → List ℕ
message n m = letters n ++ 61 ∷ replicate m 34

-- a reader of these characters, at a place
abbrev pub reader : List ℕ → ℕ → Bool → ReaderState
reader codes place flag = record { codes = codes; place = place; flag = flag }

-- a card reader of n cards
abbrev pub deck : ℕ → ℕ → Bool → CardsState
deck n place flag = record { cards = replicate n (letters 80); place = place; flag = flag }
