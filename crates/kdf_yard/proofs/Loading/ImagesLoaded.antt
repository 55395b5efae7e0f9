-- The words of the images in the store, once they are loaded.
use Rattle.std.proofs.Common.{◌≡◌, ◌≢◌, ◌⊎◌, inr, ℕ, zero, suc, ◌+◌, ◌-◌, ◌<◌, ◌≤◌, List, [], ◌∷◌, length, get_or, refl, sym, ◌∙◌, ⊎_elim, arith}
use Rattle.std.proofs.lemmas.Bool.{cases_lt}
use Rattle.std.proofs.lemmas.List.{get_or_past, get_or_append_left, get_or-append_right, get_or-replicate, length-replicate}
use Rattle.kdf_lockout.specs.Groups.{Cells}
use Rattle.kdf_relocate.specs.declared.window.Window.{Window}
use Rattle.kdf_processor.specs.State.{filled}
use Rattle.kdf_theory.specs.Loading.{SlotLoad}
use Rattle.kdf_yard.specs.Fields.Filled.{with_images, with_words}
use Rattle.kdf_yard.specs.Fields.Parts.{window_at}
use Rattle.kdf_yard.proofs.Loading.StoreFilled.{IsStore, word_there, words_other, words_store, words_there, zeros}
use Rattle.kdf_theory.proofs.JobsLoaded.{no_load}
use Rattle.kdf_limits.specs.declared.store.TheConstants.{STORE_WORDS}

-- a place that none of a slot's words has
abbrev pub IsOutside : List Window → ℕ → SlotLoad → Type 0
IsOutside windows x l = (x < (window_at windows l.p).base) ⊎ ((window_at windows l.p).base + length l.words ≤ x)

-- a slot's words are in the store
abbrev pub IsWithin : List Window → SlotLoad → Type 0
IsWithin windows l = (window_at windows l.p).base + length l.words ≤ STORE_WORDS

pub images_store : (windows : List Window) (cells : Cells) (xs : List SlotLoad) → IsStore cells
    → ((i : ℕ) → i < length xs → IsWithin windows (get_or xs i no_load)) → IsStore (with_images windows cells xs)
images_store windows cells [] store inside = store
images_store windows cells (l ∷ xs) store inside =
    images_store windows (with_words cells (window_at windows l.p).base l.words) xs
    (words_store cells (window_at windows l.p).base l.words store (inside 0 (omega arith))) (λ i lt. inside (suc i) (omega arith))

pub images_other : (windows : List Window) (cells : Cells) (xs : List SlotLoad) (x : ℕ) → IsStore cells
    → ((i : ℕ) → i < length xs → IsWithin windows (get_or xs i no_load)) → ((i : ℕ) → i < length xs → IsOutside windows x (get_or xs i no_load))
    → word_there (with_images windows cells xs) x ≡ word_there cells x
images_other windows cells [] x store inside out = refl
images_other windows cells (l ∷ xs) x store inside out =
    images_other windows (with_words cells (window_at windows l.p).base l.words) xs x
    (words_store cells (window_at windows l.p).base l.words store (inside 0 (omega arith))) (λ i lt. inside (suc i) (omega arith))
    (λ i lt. out (suc i) (omega arith))
    ∙ words_other cells (window_at windows l.p).base l.words x store (inside 0 (omega arith)) (out 0 (omega arith))

pub images_there : (windows : List Window) (cells : Cells) (xs : List SlotLoad) (i a : ℕ) → i < length xs → IsStore cells
    → word_there cells ((window_at windows (get_or xs i no_load).p).base + a) ≡ 0 → ((j : ℕ) → j < length xs → IsWithin windows (get_or xs j no_load))
    → ((j : ℕ) → j < length xs → j ≢ i → IsOutside windows ((window_at windows (get_or xs i no_load).p).base + a) (get_or xs j no_load))
    → word_there (with_images windows cells xs) ((window_at windows (get_or xs i no_load).p).base + a) ≡ get_or (get_or xs i no_load).words a 0
images_there windows cells [] i a lt store nought inside out = absurd (omega arith)
images_there windows cells (l ∷ xs) zero a lt store nought inside out =
    images_other windows (with_words cells (window_at windows l.p).base l.words) xs ((window_at windows l.p).base + a)
    (words_store cells (window_at windows l.p).base l.words store (inside 0 (omega arith))) (λ j less. inside (suc j) (omega arith))
    (λ j less. out (suc j) (omega arith) (λ e. absurd (omega arith)))
    ∙ ⊎_elim
    (λ (low : a < length l.words). words_there cells (window_at windows l.p).base l.words a store (inside 0 (omega arith)) low)
    (λ (past : length l.words ≤ a).
    words_other cells (window_at windows l.p).base l.words ((window_at windows l.p).base + a) store (inside 0 (omega arith)) (inr (omega arith))
    ∙ nought ∙ sym (get_or_past l.words a 0 past))
    (cases_lt a (length l.words))
images_there windows cells (l ∷ xs) (suc i) a lt store nought inside out =
    images_there windows (with_words cells (window_at windows l.p).base l.words) xs i a (omega arith)
    (words_store cells (window_at windows l.p).base l.words store (inside 0 (omega arith)))
    (words_other cells (window_at windows l.p).base l.words ((window_at windows (get_or xs i no_load).p).base + a) store (inside 0 (omega arith))
    (out 0 (omega arith) (λ e. absurd (omega arith))) ∙ nought)
    (λ j less. inside (suc j) (omega arith))
    (λ j less ne. out (suc j) (omega arith) (λ e. ne (omega arith)))

-- zeros after the words
pub zeros_at : (n i : ℕ) → get_or (zeros n) i 0 ≡ 0
zeros_at n i =
    ⊎_elim
    (λ (lt : i < n). get_or-replicate n i 0 0 lt)
    (λ (past : n ≤ i). get_or_past (zeros n) i 0 (let e : length (zeros n) ≡ n = length-replicate n 0 in omega arith))
    (cases_lt i n)

pub filled_at : (size : ℕ) (words : List ℕ) (a : ℕ) → get_or (filled size words) a 0 ≡ get_or words a 0
filled_at size words a =
    ⊎_elim
    (λ (low : a < length words). get_or_append_left words (zeros (size - length words)) 0 a low)
    (λ (past : length words ≤ a).
    get_or-append_right words (zeros (size - length words)) (length words) a 0 refl past
    ∙ zeros_at (size - length words) (a - length words) ∙ sym (get_or_past words a 0 past))
    (cases_lt a (length words))
