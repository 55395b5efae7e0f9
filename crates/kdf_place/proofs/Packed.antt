-- Six syllables more are packed.
use Rattle.std.proofs.Common.{◌≡◌, ℕ, List, [], ◌∷◌, ◌++◌, length, get_or, append_assoc, refl, sym, ap, ◌∙◌, arith}
use Rattle.kdf_syllable.specs.Packing.{packed}
use Rattle.kdf_place.specs.Placement.{words_of}

-- the word of the first six syllables
abbrev pub front_word : List ℕ → ℕ
front_word bytes = packed (get_or bytes 0 0 ∷ get_or bytes 1 0 ∷ get_or bytes 2 0 ∷ get_or bytes 3 0 ∷ get_or bytes 4 0 ∷ get_or bytes 5 0 ∷ [])

words_of-chunk : (chunk rest : List ℕ) → length chunk ≡ 6 → words_of (chunk ++ rest) ≡ front_word chunk ∷ words_of rest
words_of-chunk [] rest six = absurd (omega arith)
words_of-chunk (a ∷ []) rest six = absurd (omega arith)
words_of-chunk (a ∷ b ∷ []) rest six = absurd (omega arith)
words_of-chunk (a ∷ b ∷ c ∷ []) rest six = absurd (omega arith)
words_of-chunk (a ∷ b ∷ c ∷ d ∷ []) rest six = absurd (omega arith)
words_of-chunk (a ∷ b ∷ c ∷ d ∷ e ∷ []) rest six = absurd (omega arith)
words_of-chunk (a ∷ b ∷ c ∷ d ∷ e ∷ f ∷ []) rest six = refl
words_of-chunk (a ∷ b ∷ c ∷ d ∷ e ∷ f ∷ g ∷ chunk) rest six = absurd (omega arith)

pub word-more : (words words' chunk rest bytes due : List ℕ) (w : ℕ) → words' ≡ words ++ w ∷ [] → w ≡ front_word chunk → length chunk ≡ 6
    → bytes ≡ chunk ++ rest → words ++ words_of bytes ≡ due → words' ++ words_of rest ≡ due
word-more words words' chunk rest bytes due w pushed word six joined so_far =
    let turn : words_of bytes ≡ w ∷ words_of rest = ap words_of joined ∙ words_of-chunk chunk rest six ∙ ap (λ v. v ∷ words_of rest) (sym word) in
    ap (λ (ws : List ℕ). ws ++ words_of rest) pushed ∙ append_assoc words (w ∷ []) (words_of rest) ∙ ap (λ (ws : List ℕ). words ++ ws) (sym turn) ∙ so_far
