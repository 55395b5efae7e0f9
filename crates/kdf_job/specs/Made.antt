-- The job that is made from a number: four slots with the same deck, and letters on the reader of each.
use Rattle.std.specs.Prelude.{ℕ, ◌+◌, ◌*◌, ◌/◌, ◌%◌, List, [], ◌∷◌, ◌++◌, map, codes, decimal}
use Rattle.std.specs.Fn.{iterate}
use Rattle.std.specs.List.{flat_map, range_with_len}
use Rattle.kdf_text.specs.Text.{text}

-- the number that follows x
abbrev pub step : ℕ → ℕ
step x = (25173 * x + 13849) % 65536

-- the number that follows n after so many steps
unfoldable pub after_steps : ℕ → ℕ → ℕ
after_steps n k = iterate step k n

-- the letter of a number, A being 0
abbrev pub letter_of : ℕ → ℕ
letter_of x = 65 + x / 256 % 26

-- letter k of all letters of the text, counted from 0
abbrev pub letter : ℕ → ℕ → ℕ
letter n k = letter_of (after_steps n (k + 1))

-- the 16 letters from letter k on
unfoldable pub letters_from : ℕ → ℕ → List ℕ
letters_from n k = map (λ i. letter n (k + i)) (range_with_len 0 16)

-- line j of the reader of slot p
abbrev pub reader_line : ℕ → ℕ → ℕ → List ℕ
reader_line n p j = codes "+" ++ letters_from n (16 * (200 * p + j))

unfoldable pub reader_lines : ℕ → ℕ → List (List ℕ)
reader_lines n p = map (reader_line n p) (range_with_len 0 200)

-- the deck of each slot
abbrev pub made_deck : List (List ℕ)
made_deck =
    codes "Y0; PROGRAM V0; V0=Q0/64/65;"
    ∷ codes "SET 2; SET 5; OUT; V0; =Q1; =C1; SET 1; SET 5; OUT; V0; =Q2; =C2;"
    ∷ codes "1; PRQ1; PARQ1; J2TR; E64; E65; NEV; Y0; NEV; =Y0; PWQ2; J1;"
    ∷ codes "2; ZERO; OUT; FINISH;"
    ∷ []

-- slot p with these lines of its reader
unfoldable pub slot_with : ℕ → List (List ℕ) → List (List ℕ)
slot_with p reader =
    (codes "SLOT " ++ decimal p) ∷ codes "STORE 96" ∷ codes "DECK" ∷ made_deck
    ++ codes "ENDDECK" ∷ (codes "DEVICE " ++ decimal (2 * p) ++ codes " TR") ∷ reader
    ++ (codes "DEVICE " ++ decimal (2 * p + 1) ++ codes " TP") ∷ codes "SHOW 12 12" ∷ []

abbrev pub made_slot : ℕ → ℕ → List (List ℕ)
made_slot n p = slot_with p (reader_lines n p)

unfoldable pub made_slots : ℕ → List (List ℕ)
made_slots n = flat_map (made_slot n) (range_with_len 0 4)

-- some orders, and the end of each transfer
unfoldable pub made_round : List (List ℕ)
made_round = codes "ORDERS 80" ∷ map (λ d. codes "END " ++ decimal d) (range_with_len 0 8)

unfoldable pub made_rounds : List (List ℕ)
made_rounds = flat_map (λ (round : ℕ). made_round) (range_with_len 0 410)

unfoldable pub made_lines : ℕ → List (List ℕ)
made_lines n =
    codes "KDF9 JOB 1" ∷ made_slots n ++ codes "SCHEDULE" ∷ made_rounds ++ codes "ENDJOB" ∷ []

abbrev pub made_text : ℕ → List ℕ
made_text n = text (made_lines n)
