-- The text of a listing, part by part.
use Rattle.std.proofs.Common.{◌≡◌, ℕ, zero, suc, ◌+◌, ◌<◌, List, [], ◌∷◌, ◌++◌, length, get_or, take, map, refl, ap, subst, arith}
use Rattle.std.specs.List.{enumerate_from}
use Rattle.kdf_text.specs.Text.{text, word_line, end_line}
use Rattle.kdf_text.proofs.Texts.{text_more}
use Rattle.kdf_place.specs.declared.image.Label.{Label}
use Rattle.kdf_place.specs.Listing.{head_line, start_line, word_lines, reference_line, listing_lines}
use Rattle.kdf_place.specs.Placement.{Picture}

-- the lines of words of which the first stands at address n
abbrev lines_from : ℕ → List ℕ → List (List ℕ)
lines_from n words = map (λ x. word_line x.0 x.1) (enumerate_from n words)

lines-more : (n i w d : ℕ) (words : List ℕ) → i < length words → w ≡ get_or words i d
    → lines_from n (take (suc i) words) ≡ lines_from n (take i words) ++ word_line (n + i) w ∷ []
lines-more n i w d [] lt e = absurd (omega arith)
lines-more n zero w d (x ∷ words) lt e = let z : n + 0 ≡ n = omega arith in rw (z, e) refl
lines-more n (suc i) w d (x ∷ words) lt e =
    let next : n + suc i ≡ n + 1 + i = omega arith in
    rw next (ap (λ (ls : List (List ℕ)). word_line n x ∷ ls) (lines-more (n + 1) i w d words (omega arith) e))

pub words-more : (words : List ℕ) (i w d : ℕ) (old mid new : List ℕ) → i < length words → w ≡ get_or words i d
    → mid ≡ old ++ text (word_lines (take i words)) → new ≡ mid ++ text (word_line i w ∷ []) → new ≡ old ++ text (word_lines (take (i + 1) words))
words-more words i w d old mid new lt e first then =
    let s : i + 1 ≡ suc i = omega arith in
    let at : 0 + i ≡ i = omega arith in
    rw (s, lines-more 0 i w d words lt e, at) (text_more old mid new _ _ first then)

pub whole-listing : (slot : ℕ) (image : Picture) (old : List ℕ) (words : List ℕ) (labels : List Label) (head start body references all : List ℕ)
    → words ≡ image.words → labels ≡ image.labels
    → head ≡ old ++ text (head_line slot ∷ []) → start ≡ head ++ text (start_line image.start ∷ []) → body ≡ start ++ text (word_lines words)
    → references ≡ body ++ text (map reference_line labels) → all ≡ references ++ text (end_line ∷ []) → all ≡ old ++ text (listing_lines slot image)
unfolding listing_lines
whole-listing slot image old words labels head start body references all is_words is_labels first second third fourth last =
    let lines = subst (λ ws. body ≡ start ++ text (word_lines ws)) is_words third in
    let places = subst (λ (ls : List Label). references ≡ body ++ text (map reference_line ls)) is_labels fourth in
    text_more old _ _ _ _ (text_more old _ _ _ _ (text_more old _ _ _ _ (text_more old _ _ _ _ first second) lines) places) last
