-- A part of a list is taken out or put in.
use Rattle.std.proofs.Common.{◌≡◌, ℕ, zero, suc, ◌+◌, ◌-◌, ◌/◌, ◌%◌, ◌<◌, ◌≤◌, Bool, true, false, List, [], ◌∷◌, ◌++◌, length, get_or, set, take, drop, map}
use Rattle.std.proofs.Common.{replicate, Option, Some, None, is_none, is_some, not, cond, refl, sym, ap, ap₂, ◌∙◌, ⊎_elim, arith, append_assoc, length-drop}
use Rattle.std.proofs.Common.{length-take, add-zero, length-set}
use Rattle.std.specs.Prelude.{find}
use Rattle.std.specs.List.{range_with_len, refill}
use Rattle.std.proofs.lemmas.Bool.{cases_Bool}
use Rattle.std.proofs.lemmas.List.{set-append_right, set_at, drop_more, length-take-le, map-set, get_or-map, take_at, get_or_default, take_more}
use Rattle.std.proofs.lemmas.List.{get_or-append_right, get_or-take, get_or-drop, replicate_more, length-replicate, length-map}
use Rattle.kdf_lockout.specs.Groups.{Cells, Lent, is_out, words_in, AreAllHere, with_lent_word, with_groups, lent_groups, without_groups}

-- one more element of the part
pub spliced_more : {X : Type 0} (xs ys : List X) (from k : ℕ) (y d : X) → length ys ≡ k → from + k < length xs
    → set (take from xs ++ (ys ++ drop (from + k) xs)) (from + k) y ≡ take from xs ++ ((ys ++ y ∷ []) ++ drop (from + (k + 1)) xs)
spliced_more xs ys from k y d counted lt =
    let front : length (take from xs) ≡ from = length-take-le from xs (omega arith) in
    let low : from ≤ from + k = omega arith in
    let i : from + k - from ≡ k = omega arith in
    let j : from + k + 1 ≡ from + (k + 1) = omega arith in
    set-append_right (take from xs) (ys ++ drop (from + k) xs) from (from + k) y front low
    ∙ ap (λ n. take from xs ++ set (ys ++ drop (from + k) xs) n y) i
    ∙ ap (λ zs. take from xs ++ set (ys ++ zs) k y) (drop_more xs (from + k) d lt)
    ∙ ap (λ zs. take from xs ++ zs) (set_at ys (get_or xs (from + k) d) (drop (from + k + 1) xs) y k counted)
    ∙ ap (λ n. take from xs ++ (ys ++ y ∷ drop n xs)) j
    ∙ ap (λ zs. take from xs ++ zs) (sym (append_assoc ys (y ∷ []) (drop (from + (k + 1)) xs)))

-- an element past the part
pub spliced_past : {X : Type 0} (xs ys : List X) (from k : ℕ) (d : X) → length ys ≡ k → from + k < length xs
    → get_or (take from xs ++ (ys ++ drop (from + k) xs)) (from + k) d ≡ get_or xs (from + k) d
spliced_past xs ys from k d counted lt =
    let front : length (take from xs) ≡ from = length-take-le from xs (omega arith) in
    let low : from ≤ from + k = omega arith in
    let i : from + k - from ≡ k = omega arith in
    let z : k - k ≡ 0 = omega arith in
    get_or-append_right (take from xs) (ys ++ drop (from + k) xs) from (from + k) d front low
    ∙ ap (λ n. get_or (ys ++ drop (from + k) xs) n d) i
    ∙ get_or-append_right ys (drop (from + k) xs) k k d counted (omega arith)
    ∙ ap (λ n. get_or (drop (from + k) xs) n d) z
    ∙ get_or-drop (from + k) xs 0 d
    ∙ ap (λ n. get_or xs n d) (add-zero (from + k))

find_cons : {X : Type 0} (p : ℕ → Bool) (a : ℕ) (x o : Option X) → p a ≡ false → cond (p a) x o ≡ o
find_cons p a x o e = ap (λ b. cond b x o) e

-- one that isn't is passed
pub find_step : (p : ℕ → Bool) (first k n : ℕ) → k < n → p (first + k) ≡ false
    → find p (range_with_len (first + k) (n - k)) ≡ find p (range_with_len (first + (k + 1)) (n - (k + 1)))
find_step p first k n lt not =
    let e : n - k ≡ suc (n - (k + 1)) = omega arith in
    let g : first + k + 1 ≡ first + (k + 1) = omega arith in
    ap (λ m. find p (range_with_len (first + k) m)) e
    ∙ find_cons p (first + k) (Some (first + k)) _ not
    ∙ ap (λ q. find p (range_with_len q (n - (k + 1)))) g

-- where none is found, none is
pub none_in_range : (p : ℕ → Bool) (first n i : ℕ) → find p (range_with_len first n) ≡ None → i < n → p (first + i) ≡ false
none_in_range p first zero i none lt = absurd (omega arith)
none_in_range p first (suc n) zero none lt =
    let e : first + 0 ≡ first = omega arith in
    ⊎_elim
    (λ (is : p first ≡ true). cc (sym (ap (λ b. cond b (Some first) (find p (range_with_len (first + 1) n))) is) ∙ none))
    (λ (not : p first ≡ false). ap p e ∙ not)
    (cases_Bool (p first))
none_in_range p first (suc n) (suc i) none lt =
    let e : first + suc i ≡ first + 1 + i = omega arith in
    ⊎_elim
    (λ (is : p first ≡ true). cc (sym (ap (λ b. cond b (Some first) (find p (range_with_len (first + 1) n))) is) ∙ none))
    (λ (not : p first ≡ false). ap p e ∙ none_in_range p (first + 1) n i (sym (ap (λ b. cond b (Some first) (find p (range_with_len (first + 1) n))) not)
    ∙ none) (omega arith))
    (cases_Bool (p first))

-- groups none of which is out
pub here_in_range : (store : Cells) (first n : ℕ) → first + n ≤ length store → find (is_out store) (range_with_len first n) ≡ None
    → AreAllHere (take n (drop first store))
here_in_range store first n fits none i lt =
    let counted : length (take n (drop first store)) ≤ n = omega (arith, length-take n (drop first store)) in
    let within : i < n = omega arith in
    ap is_none (get_or-take n (drop first store) i None within ∙ get_or-drop first store i None)
    ∙ none_in_range (is_out store) first n i none within

-- these cells are their words
pub all_here : (cells : Cells) → AreAllHere cells → map Some (map words_in cells) ≡ cells
all_here [] here = refl
all_here (None ∷ cells) here = let missing : true ≡ false = here 0 (omega arith) in cc
all_here (Some ws ∷ cells) here = ap (λ cs. Some ws ∷ cs) (all_here cells (λ i lt. here (suc i) (omega arith)))

pub refill_is : {X : Type 0} (xs ws : List X) → length ws ≡ length xs → refill (length xs) xs ws ≡ ws
refill_is xs ws same = take_at ws (drop (length ws) xs) (length xs) same

-- a word is written into a lease
pub lease_written : (first : ℕ) (items now : Cells) (place w : ℕ) (old new : List ℕ) (d : Option (List ℕ)) → now ≡ items
    → get_or now (place / 32 - first) d ≡ Some old → place / 32 - first < length items → new ≡ set old (place % 32) w
    → (let l : Lent = record { first = first; groups = map words_in (refill (length items) items (set now (place / 32 - first) (Some new))) } in l)
    ≡ with_lent_word (record { first = first; groups = map words_in items }) place w
lease_written first items now place w old new d same there lt changed =
    let i : ℕ = place / 32 - first in
    let all : refill (length items) items (set now i (Some new)) ≡ set items i (Some new) =
    refill_is items (set now i (Some new)) (length-set now i (Some new) ∙ ap length same) ∙ ap (λ xs. set xs i (Some new)) same in
    let word : get_or (map words_in items) i [] ≡ old = get_or-map words_in items i d [] lt ∙ ap words_in (ap (λ xs. get_or xs i d) (sym same) ∙ there) in
    ap (λ gs. let l : Lent = record { first = first; groups = gs } in l)
    (ap (map words_in) all ∙ map-set words_in items i (Some new) ∙ ap (set (map words_in items) i) (changed ∙ ap (λ ws. set ws (place % 32) w) (sym word)))

none_of : (o : Option (List ℕ)) → is_some o ≡ true → is_none o ≡ false
none_of None is = cc
none_of (Some x) is = refl

-- an element that was read and isn't missing
pub not_missing : (store : Cells) (g : ℕ) (read : Option (List ℕ)) (b : Bool) → g < length store → read ≡ get_or store g read → is_some read ≡ not b
    → b ≡ false → is_out store g ≡ false
not_missing store g read b lt is some none =
    let e : get_or store g None ≡ read = get_or_default store g None read lt ∙ sym is in
    let f : is_some read ≡ true = some ∙ ap not none in
    ap is_none e ∙ none_of read f

-- one group more is taken out
pub taken_more : (store now : Cells) (first k : ℕ) (d read left : Option (List ℕ)) → first + k < length store
    → now ≡ take first store ++ (replicate k None ++ drop (first + k) store) → read ≡ get_or now (first + k) d → left ≡ None
    → (take k (drop first store) ++ read ∷ [] ≡ take (k + 1) (drop first store))
    × (set now (first + k) left ≡ take first store ++ (replicate (k + 1) None ++ drop (first + (k + 1)) store))
taken_more store now first k d read left lt is value none =
    let counted : length (replicate k (let o : Option (List ℕ) = None in o)) ≡ k = length-replicate k None in
    let within : k < length (drop first store) = omega (arith, length-drop first store) in
    let same : read ≡ get_or (drop first store) k d = value ∙ ap (λ xs. get_or xs (first + k) d) is
    ∙ spliced_past store (replicate k None) first k d counted lt ∙ sym (get_or-drop first store k d) in (
      ap (λ x. take k (drop first store) ++ x ∷ []) same ∙ sym (take_more (drop first store) k d within),
      ap₂ (λ xs x. set xs (first + k) x) is none ∙ spliced_more store (replicate k None) first k None d counted lt
          ∙ ap (λ xs. take first store ++ (xs ++ drop (first + (k + 1)) store)) (replicate_more k None),
    )

-- the groups of a lease are put back
pub put_back : (store now : Cells) (l : Lent) (first : ℕ) (back : Cells) → first ≡ l.first → map words_in back ≡ l.groups → AreAllHere back → now ≡ store
    → take first now ++ (back ++ drop (first + length back) now) ≡ with_groups store l
unfolding with_groups
put_back store now l first back f g here same =
    let all : back ≡ map Some l.groups = sym (all_here back here) ∙ ap (map Some) g in
    let counted : length back ≡ length l.groups = sym (length-map back words_in) ∙ ap length g in
    ap₂ (λ xs k. take k xs ++ (back ++ drop (k + length back) xs)) same f
    ∙ ap₂ (λ bs n. take l.first store ++ (bs ++ drop (l.first + n) store)) all counted

pub lent_is : (store now : Cells) (first count : ℕ) (taken : Cells) → now ≡ store → taken ≡ take count (drop first now)
    → (let l : Lent = record { first = first; groups = map words_in taken } in l) ≡ lent_groups store first count
unfolding lent_groups
lent_is store now first count taken same is =
    ap (λ t. let l : Lent = record { first = first; groups = map words_in t } in l) (is ∙ ap (λ s. take count (drop first s)) same)

pub without_is : (store now : Cells) (first count : ℕ) → now ≡ store → take first now ++ (replicate count None ++ drop (first + count) now)
    ≡ without_groups store first count
unfolding without_groups
without_is store now first count same = ap (λ s. take first s ++ (replicate count None ++ drop (first + count) s)) same
