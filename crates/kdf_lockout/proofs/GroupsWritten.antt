-- Words are written into a group of a lease, one after the other.
use Rattle.std.proofs.Common.{◌≡◌, ℕ, suc, ◌+◌, ◌-◌, ◌*◌, ◌^◌, ◌/◌, ◌%◌, ◌<◌, ◌≤◌, List, [], ◌∷◌, ◌++◌, length, get_or, set, take, drop, map, Option, Some}
use Rattle.std.proofs.Common.{refl, sym, ap, ap₂, ◌∙◌, arith, length-set, length-take}
use Rattle.std.specs.List.{refill}
use Rattle.std.proofs.lemmas.List.{get_or-map, get_or-set_same, get_or-take, length-map, map-set, set-get_or, set-set, take_more}
use Rattle.kdf_word.specs.Characters.{first_word, words_of}
use Rattle.kdf_word.proofs.Packing.{get_or-words_of, length-words_of}
use Rattle.kdf_lockout.specs.Groups.{Cells, Lent, words_in, with_lent_word, with_lent_words, with_words}
use Rattle.kdf_lockout.proofs.Ranges.{refill_is}

-- one word more
with_one : (ws group : List ℕ) (i w : ℕ) → with_words group i (ws ++ w ∷ []) ≡ set (with_words group i ws) (i + length ws) w
with_one [] group i w = ap (λ n. set group n w) (let e : i ≡ i + 0 = omega arith in e)
with_one (v ∷ ws) group i w =
    with_one ws (set group i v) (i + 1) w
    ∙ ap (λ n. set (with_words (set group i v) (i + 1) ws) n w) (let e : i + 1 + length ws ≡ i + suc (length ws) = omega arith in e)

pub with_more : (codes group : List ℕ) (i k w : ℕ) → k < length (words_of codes) → w ≡ first_word (drop (8 * k) codes)
    → set (with_words group i (take k (words_of codes))) (i + k) w ≡ with_words group i (take (k + 1) (words_of codes))
with_more codes group i k w lt is =
    let ws = words_of codes in
    let within : k < (length codes + 7) / 8 = omega (arith, length-words_of codes) in
    let word : get_or ws k 0 ≡ w = get_or-words_of codes k 0 within ∙ sym is in
    let count : k ≡ length (take k ws) = omega (arith, length-take k ws) in
    ap (λ n. set (with_words group i (take k ws)) (i + n) w) count
    ∙ sym (with_one (take k ws) group i w)
    ∙ ap (λ x. with_words group i (take k ws ++ x ∷ [])) (sym word)
    ∙ ap (with_words group i) (sym (take_more ws k 0 lt))

-- a word is that of its eight characters
pub first_eight : (codes : List ℕ) → first_word (take 8 codes) ≡ first_word codes
unfolding first_word
first_eight codes =
    λ j. at 0 (omega arith) j * 2 ^ 42 + at 1 (omega arith) j * 2 ^ 36 + at 2 (omega arith) j * 2 ^ 30 + at 3 (omega arith) j * 2 ^ 24
    + at 4 (omega arith) j * 2 ^ 18 + at 5 (omega arith) j * 2 ^ 12 + at 6 (omega arith) j * 2 ^ 6 + at 7 (omega arith) j
  where
    at : (i : ℕ) → i < 8 → get_or (take 8 codes) i 0 ≡ get_or codes i 0
    at i lt = get_or-take 8 codes i 0 lt

-- the lease has the group with the words
lent_group : (l : Lent) (g i : ℕ) (ws : List ℕ) → g - l.first < length l.groups → i + length ws ≤ 32
    → with_lent_words l (32 * g + i) ws ≡ (let k : Lent =
    record { first = l.first; groups = set l.groups (g - l.first) (with_words (get_or l.groups (g - l.first) []) i ws) } in k)
lent_group l g i [] lt fits = ap (λ gs. let k : Lent = record { first = l.first; groups = gs } in k) (sym (set-get_or l.groups (g - l.first) []))
lent_group l g i (w ∷ ws) lt fits =
    let at = g - l.first in
    let group = get_or l.groups at [] in
    let gs = set l.groups at (set group i w) in
    let one : Lent = record { first = l.first; groups = gs } in
    let quot : (32 * g + i) / 32 ≡ g = omega arith in
    let rem : (32 * g + i) % 32 ≡ i = omega arith in
    let next : 32 * g + i + 1 ≡ 32 * g + (i + 1) = omega arith in
    let there : at < length gs = omega (arith, length-set l.groups at (set group i w)) in
    ap₂ (λ a b. let k : Lent = record { first = l.first; groups = set l.groups (a - l.first) (set (get_or l.groups (a - l.first) []) b w) } in with_lent_words
    k (32 * g + i + 1) ws) quot rem
    ∙ ap (λ n. with_lent_words one n ws) next
    ∙ lent_group one g (i + 1) ws there (omega arith)
    ∙ ap (λ x. let k : Lent = record { first = l.first; groups = set gs at (with_words x (i + 1) ws) } in k) (get_or-set_same l.groups at (set group i w) [] lt)
    ∙ ap (λ xs. let k : Lent = record { first = l.first; groups = xs } in k) (set-set l.groups at (set group i w) (with_words (set group i w) (i + 1) ws))

pub lease_written_all : (first : ℕ) (items now : Cells) (place : ℕ) (ws : List ℕ) (old new : List ℕ) (d : Option (List ℕ)) → now ≡ items
    → get_or now (place / 32 - first) d ≡ Some old → place / 32 - first < length items → place % 32 + length ws ≤ 32 → new ≡ with_words old (place % 32) ws
    → (let l : Lent = record { first = first; groups = map words_in (refill (length items) items (set now (place / 32 - first) (Some new))) } in l)
    ≡ with_lent_words (record { first = first; groups = map words_in items }) place ws
lease_written_all first items now place ws old new d same there lt fits changed =
    let g : ℕ = place / 32 in
    let i : ℕ = g - first in
    let l : Lent = record { first = first; groups = map words_in items } in
    let all : refill (length items) items (set now i (Some new)) ≡ set items i (Some new) =
    refill_is items (set now i (Some new)) (length-set now i (Some new) ∙ ap length same) ∙ ap (λ xs. set xs i (Some new)) same in
    let group : get_or (map words_in items) i [] ≡ old = get_or-map words_in items i d [] lt ∙ ap words_in (ap (λ xs. get_or xs i d) (sym same) ∙ there) in
    let within : i < length (map words_in items) = omega (arith, length-map items words_in) in
    let parts : 32 * g + place % 32 ≡ place = omega arith in
    ap (λ gs. let k : Lent = record { first = first; groups = gs } in k)
    (ap (map words_in) all ∙ map-set words_in items i (Some new)
    ∙ ap (set (map words_in items) i) (changed ∙ ap (λ x. with_words x (place % 32) ws) (sym group)))
    ∙ sym (lent_group l g (place % 32) ws within fits)
    ∙ ap (λ n. with_lent_words l n ws) parts

pub lent_words_count : (l : Lent) (place : ℕ) (ws : List ℕ) → length (with_lent_words l place ws).groups ≡ length l.groups
lent_words_count l place [] = refl
lent_words_count l place (w ∷ ws) = lent_words_count (with_lent_word l place w) (place + 1) ws ∙ length-set l.groups _ _

pub lent_words_first : (l : Lent) (place : ℕ) (ws : List ℕ) → (with_lent_words l place ws).first ≡ l.first
lent_words_first l place [] = refl
lent_words_first l place (w ∷ ws) = lent_words_first (with_lent_word l place w) (place + 1) ws
