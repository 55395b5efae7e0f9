-- A store whose groups are all here, and the words that are written into it.
use Rattle.std.proofs.Common.{◌≡◌, ◌≢◌, ◌⊎◌, inl, inr, ℕ, zero, suc, ◌+◌, ◌/◌, ◌%◌, ◌<◌, ◌≤◌, false, cond, eqb, List, [], ◌∷◌, length, get_or, set, replicate}
use Rattle.std.proofs.Common.{Option, Some, None, is_none, Result, Ok, Err, IfOk, refl, sym, ap, ◌∙◌, subst, ⊎_elim, arith}
use Rattle.std.proofs.lemmas.Bool.{cases_eq, eq-eqb, ne_eqb}
use Rattle.std.proofs.lemmas.List.{get_or-replicate, length-replicate, get_or-set_same, get_or-set_other, length-set}
use Rattle.kdf_lockout.specs.Groups.{Cells, Lent, group_at, is_out, with_word, words_in}
use Rattle.kdf_places.specs.Words.{word_at_place, word_where}
use Rattle.kdf_yard.specs.Fields.Filled.{kept_word, with_words, zero_cells}
use Rattle.kdf_places.proofs.WordsHereAndOut.{word_of-put_word}
use Rattle.kdf_limits.specs.declared.store.TheConstants.{STORE_GROUPS, STORE_WORDS}

-- a group is here, with its words
pub record IsHere (cells : Cells) (g : ℕ) : Type 0 where
  pub words : List ℕ
  pub here : group_at cells g ≡ Some words
  pub full : length words ≡ 32

-- a store of all its groups, all of them here
pub record IsStore (cells : Cells) : Type 0 where
  pub many : length cells ≡ STORE_GROUPS
  pub each : (g : ℕ) → g < STORE_GROUPS → IsHere cells g

abbrev pub none_lent : ℕ → Option Lent
none_lent d = None

-- the word at a place of it
abbrev pub word_there : Cells → ℕ → ℕ
word_there cells x = word_at_place cells none_lent x

-- so many words, and so many groups, of zeros
abbrev pub zeros : ℕ → List ℕ
zeros n = replicate n 0

abbrev groups : ℕ → Cells
groups n = replicate n (Some (zeros 32))

zero_at : (n : ℕ) (g : ℕ) → g < n → group_at (groups n) g ≡ Some (zeros 32)
zero_at n g lt = get_or-replicate n g (Some (zeros 32)) None lt

zero_cell : (g : ℕ) → g < STORE_GROUPS → group_at zero_cells g ≡ Some (zeros 32)
unfolding zero_cells
zero_cell g lt = zero_at STORE_GROUPS g lt

zero_many : (n : ℕ) → length (groups n) ≡ n
zero_many n = length-replicate n (Some (zeros 32))

pub zero_count : length zero_cells ≡ STORE_GROUPS
unfolding zero_cells
zero_count = zero_many STORE_GROUPS

zero_is : (n : ℕ) → n ≡ STORE_GROUPS → groups n ≡ zero_cells
unfolding zero_cells
zero_is n is = ap groups is

pub ok_zero : {E : Type 0} (n : ℕ) (result : Result Cells E) → n ≡ STORE_GROUPS → IfOk result (λ cells. cells ≡ groups n)
    → IfOk result (λ cells. cells ≡ zero_cells)
ok_zero n (Ok cells) is made = made ∙ zero_is n is
ok_zero n (Err e) is made = tt

zero_full : length (zeros 32) ≡ 32
zero_full = refl

pub zero_store : IsStore zero_cells
zero_store = record {
  many = zero_count;
  each = λ g lt. record { words = zeros 32; here = zero_cell g lt; full = zero_full };
}

zero_word : (n i : ℕ) → i < n → get_or (zeros n) i 0 ≡ 0
zero_word n i lt = get_or-replicate n i 0 0 lt

pub zero_there : (x : ℕ) → x < STORE_WORDS → word_there zero_cells x ≡ 0
zero_there x lt = ap (word_where none_lent x) (zero_cell (x / 32) (omega arith)) ∙ zero_word 32 (x % 32) (omega arith)

module _ (cells : Cells) (place w : ℕ) (store : IsStore cells) (inside : place < STORE_WORDS) where
  at : IsHere cells (place / 32)
  at = store.each (place / 32) (omega arith)

  not_out : is_out cells (place / 32) ≡ false
  not_out = ap is_none at.here

  abbrev put : Cells
  put = set cells (place / 32) (Some (set at.words (place % 32) w))

  put_is : kept_word cells place w ≡ put
  put_is =
      ap (λ b. cond b cells (with_word cells place w)) not_out
      ∙ ap (λ o. set cells (place / 32) (Some (set (words_in o) (place % 32) w))) at.here

  put_same : (g : ℕ) → g ≡ place / 32 → IsHere put g
  put_same g same =
      record {
        words = set at.words (place % 32) w;
        here = ap (group_at put) same ∙ get_or-set_same cells (place / 32) (Some (set at.words (place % 32) w)) None (let n = store.many in omega arith);
        full = length-set at.words (place % 32) w ∙ at.full;
      }

  put_other : (g : ℕ) → g < STORE_GROUPS → g ≢ place / 32 → IsHere put g
  put_other g lt other =
      record {
        words = (store.each g lt).words;
        here = get_or-set_other cells (place / 32) g (Some (set at.words (place % 32) w)) None other ∙ (store.each g lt).here;
        full = (store.each g lt).full;
      }

  put_store : IsStore put
  put_store = record {
    many = length-set cells (place / 32) (Some (set at.words (place % 32) w)) ∙ store.many;
    each = λ g lt. ⊎_elim (put_same g) (put_other g lt) (cases_eq g (place / 32));
  }

  pub kept_store : IsStore (kept_word cells place w)
  kept_store = subst IsStore (sym put_is) put_store

  pub kept_there : (x : ℕ) → word_there (kept_word cells place w) x ≡ cond (eqb x place) w (word_there cells x)
  kept_there x =
      ap (λ k. word_there k x) put_is
      ∙ word_of-put_word cells none_lent at.words place w x at.here (let n = store.many in omega arith) (let n = at.full in omega arith)

-- the words lie from their place on, and the others are as they were
pub words_store : (cells : Cells) (place : ℕ) (words : List ℕ) → IsStore cells → place + length words ≤ STORE_WORDS → IsStore (with_words cells place words)
words_store cells place [] store inside = store
words_store cells place (w ∷ words) store inside = words_store (kept_word cells place w) (place + 1) words (kept_store cells place w store (omega arith))
    (omega arith)

pub words_other : (cells : Cells) (place : ℕ) (words : List ℕ) (x : ℕ) → IsStore cells → place + length words ≤ STORE_WORDS
    → (x < place) ⊎ (place + length words ≤ x) → word_there (with_words cells place words) x ≡ word_there cells x
words_other cells place [] x store inside out = refl
words_other cells place (w ∷ words) x store inside out =
    words_other (kept_word cells place w) (place + 1) words x (kept_store cells place w store (omega arith)) (omega arith) (beyond out)
    ∙ kept_there cells place w store (omega arith) x
    ∙ ap (λ b. cond b w (word_there cells x)) (ne_eqb x place (apart out))
  where
    beyond : (x < place) ⊎ (place + length (w ∷ words) ≤ x) → (x < place + 1) ⊎ (place + 1 + length words ≤ x)
    beyond (inl low) = inl (omega arith)
    beyond (inr high) = inr (omega arith)

    apart : (x < place) ⊎ (place + length (w ∷ words) ≤ x) → x ≢ place
    apart (inl low) = λ e. absurd (omega arith)
    apart (inr high) = λ e. absurd (omega arith)

pub words_there : (cells : Cells) (place : ℕ) (words : List ℕ) (a : ℕ) → IsStore cells → place + length words ≤ STORE_WORDS → a < length words
    → word_there (with_words cells place words) (place + a) ≡ get_or words a 0
words_there cells place [] a store inside lt = absurd (omega arith)
words_there cells place (w ∷ words) zero store inside lt =
    words_other (kept_word cells place w) (place + 1) words (place + 0) (kept_store cells place w store (omega arith)) (omega arith) (inl (omega arith))
    ∙ kept_there cells place w store (omega arith) (place + 0)
    ∙ ap (λ b. cond b w (word_there cells (place + 0))) (eq-eqb (place + 0) place (omega arith))
words_there cells place (w ∷ words) (suc a) store inside lt =
    ap (word_there (with_words (kept_word cells place w) (place + 1) words)) (let e : place + suc a ≡ place + 1 + a = omega arith in e)
    ∙ words_there (kept_word cells place w) (place + 1) words a (kept_store cells place w store (omega arith)) (omega arith) (omega arith)
