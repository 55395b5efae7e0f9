-- What is read in a store after groups were taken out.
use Rattle.std.proofs.Common.{◌≡◌, ℕ, ◌+◌, ◌-◌, ◌<◌, ◌≤◌, List, ◌++◌, length, take, drop, map, replicate, Option, None, Some, ap, ◌∙◌, arith, refl}
use Rattle.std.proofs.Common.{length-append, length-take, length-drop}
use Rattle.std.proofs.lemmas.List.{length-map, length-replicate, get_or-replicate, length-take-le, get_or-append_right, get_or_append_left}
use Rattle.kdf_lockout.specs.Groups.{Cells, Lent, group_at, words_in, lent_groups, with_groups, without_groups, IsOut}

-- groups that were taken out are out
without_in : (store : Cells) (first n g : ℕ) → first + n ≤ length store → first ≤ g → g < first + n → group_at (without_groups store first n) g ≡ None
unfolding without_groups
without_in store first n g fits low high =
    let none : Option (List ℕ) = None in
    let front : length (take first store) ≡ first = length-take-le first store (omega arith) in
    let count : length (replicate n none) ≡ n = length-replicate n none in
    let i : g - first < n = omega arith in
    get_or-append_right (take first store) (replicate n none ++ drop (first + n) store) first g none front low
    ∙ get_or_append_left (replicate n none) (drop (first + n) store) none (g - first) (omega arith)
    ∙ get_or-replicate n (g - first) none none i

pub without_count : (store : Cells) (first n : ℕ) → first + n ≤ length store → length (without_groups store first n) ≡ length store
unfolding without_groups
without_count store first n fits =
    omega (
      arith,
      length-append (take first store) (replicate n None ++ drop (first + n) store),
      length-append (replicate n None) (drop (first + n) store),
      length-take first store,
      length-drop (first + n) store,
      length-replicate n (let o : Option (List ℕ) = None in o),
    )

-- the lease has as many groups as were taken
pub lent_count : (store : Cells) (first n : ℕ) → first + n ≤ length store → length (lent_groups store first n).groups ≡ n
unfolding lent_groups
lent_count store first n fits = omega (arith, length-map (take n (drop first store)) words_in, length-take n (drop first store), length-drop first store)

pub lent_first : (store : Cells) (first n : ℕ) → (lent_groups store first n).first ≡ first
unfolding lent_groups
lent_first store first n = refl

-- and they are out
pub lent_out : (store new : Cells) (l : Lent) (first n : ℕ) → first + n ≤ length store → l ≡ lent_groups store first n → new ≡ without_groups store first n
    → IsOut new l
lent_out store new l first n fits lease groups =
    let at : l.first ≡ first = ap (λ (k : Lent). k.first) lease ∙ lent_first store first n in
    let many : length l.groups ≡ n = ap (λ (k : Lent). length k.groups) lease ∙ lent_count store first n fits in
    let same : length new ≡ length store = ap length groups ∙ without_count store first n fits in
    record {
      inside = omega arith;
      out = λ g low high. ap (λ s. group_at s g) groups ∙ without_in store first n g fits (omega arith) (omega arith);
    }

-- a store has as many groups after some came back
pub with_count : (store : Cells) (l : Lent) → l.first + length l.groups ≤ length store → length (with_groups store l) ≡ length store
unfolding with_groups
with_count store l fits =
    omega (
      arith,
      length-append (take l.first store) (map Some l.groups ++ drop (l.first + length l.groups) store),
      length-append (map Some l.groups)
          (drop (l.first + length l.groups) store),
      length-take l.first store,
      length-drop (l.first + length l.groups) store,
      length-map l.groups Some,
    )
