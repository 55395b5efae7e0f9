-- A word that is written leaves the others as they can be read.
use Rattle.std.proofs.Common.{◌≡◌, ◌≢◌, ℕ, ◌+◌, ◌/◌, ◌%◌, ◌<◌, ◌≤◌, true, false, List, length, get_or, set, Option, Some, None, is_none, refl, sym, ap, ◌∙◌}
use Rattle.std.proofs.Common.{subst, ⊎_elim, arith}
use Rattle.std.proofs.lemmas.Bool.{cases_eq, cases_lt}
use Rattle.std.proofs.lemmas.List.{get_or_past, get_or-set_same, get_or-set_other}
use Rattle.std.proofs.lemmas.List.FromFn.{get_or-map-range_with_len}
use Rattle.kdf_lockout.specs.Groups.{Cells, Lent, group_at, is_out, with_word, words_in}
use Rattle.kdf_places.specs.Words.{own_words, word_at_place, word_where}

some_of : (o : Option (List ℕ)) → is_none o ≡ false → o ≡ Some (words_in o)
some_of None is = cc
some_of (Some ws) is = refl

-- a group that isn't out is one of the store
inside_of : (cells : Cells) (g : ℕ) → is_out cells g ≡ false → g < length cells
inside_of cells g here =
    ⊎_elim (λ (lt : g < length cells). lt)
    (λ (le : length cells ≤ g).
    let past : is_none (get_or cells g None) ≡ true = ap is_none (get_or_past cells g None le) in
    let both : true ≡ false = sym past ∙ here in
    absurd cc)
    (cases_lt g (length cells))

-- a group that isn't out still isn't, and its other words are as they were
pub group_beside : (cells : Cells) (place w g : ℕ) → is_out cells g ≡ false → is_out (with_word cells place w) g ≡ false
group_beside cells place w g here =
    let put : List ℕ = set (words_in (group_at cells (place / 32))) (place % 32) w in
    ⊎_elim
    (λ (same : g ≡ place / 32).
    let Q : ℕ → Type 0 = λ n. n < length cells in
    ap (is_out (with_word cells place w)) same
    ∙ ap is_none (get_or-set_same cells (place / 32) (Some put) None (subst Q same (inside_of cells g here))))
    (λ (other : g ≢ place / 32). ap is_none (get_or-set_other cells (place / 32) g (Some put) None other) ∙ here)
    (cases_eq g (place / 32))

pub word_beside : (cells : Cells) (leases : ℕ → Option Lent) (place w x : ℕ) → x ≢ place → is_out cells (x / 32) ≡ false
    → word_at_place (with_word cells place w) leases x ≡ word_at_place cells leases x
word_beside cells leases place w x ne here =
    let words : List ℕ = words_in (group_at cells (place / 32)) in
    let put : List ℕ = set words (place % 32) w in
    ⊎_elim
    (λ (same : x / 32 ≡ place / 32).
    let Q : ℕ → Type 0 = λ n. n < length cells in
    let P : ℕ → Type 0 = λ n. is_out cells n ≡ false in
    let there : group_at (with_word cells place w) (x / 32) ≡ Some put =
    ap (group_at (with_word cells place w)) same ∙ get_or-set_same cells (place / 32) (Some put) None (subst Q same (inside_of cells (x / 32) here)) in
    let apart : x % 32 ≢ place % 32 = λ e. ne (omega arith) in
    ap (word_where leases x) there
    ∙ get_or-set_other words (place % 32) (x % 32) w 0 apart
    ∙ sym (ap (word_where leases x) (ap (group_at cells) same ∙ some_of (group_at cells (place / 32)) (subst P same here))))
    (λ (other : x / 32 ≢ place / 32). ap (word_where leases x) (get_or-set_other cells (place / 32) (x / 32) (Some put) None other))
    (cases_eq (x / 32) (place / 32))

-- so it is with the words of a window, which begins with a group
pub own_beside : (base size a w b : ℕ) (cells : Cells) (leases : ℕ → Option Lent) → base % 32 ≡ 0 → b < size → b ≢ a
    → is_out cells (base / 32 + b / 32) ≡ false → get_or (own_words base size (with_word cells (base + a) w) leases) b 0
    ≡ get_or (own_words base size cells leases) b 0
own_beside base size a w b cells leases aligned lt ne here =
    let group : (base + b) / 32 ≡ base / 32 + b / 32 = omega arith in
    let apart : base + b ≢ base + a = λ e. ne (omega arith) in
    get_or-map-range_with_len (λ x. word_at_place (with_word cells (base + a) w) leases (base + x)) 0 size b b 0 lt (omega arith)
    ∙ word_beside cells leases (base + a) w (base + b) apart (ap (is_out cells) group ∙ here)
    ∙ sym (get_or-map-range_with_len (λ x. word_at_place cells leases (base + x)) 0 size b b 0 lt (omega arith))
