-- Each group is here, or in exactly one lease.
use Rattle.std.proofs.Common.{◌≡◌, ◌≢◌, ℕ, ◌+◌, ◌-◌, ◌/◌, ◌<◌, ◌≤◌, ◌⊎◌, false, List, length, set, Option, Some, None, is_none, cond, refl, sym, ap, ◌∙◌}
use Rattle.std.proofs.Common.{⊎_elim, arith, inl, inr, true, [], ◌++◌, get_or, map, take, drop, replicate, length-take, length-drop}
use Rattle.std.proofs.Math.Path.{fun_ext}
use Rattle.std.proofs.lemmas.Bool.{cases_eq, eq-eqb, ne_eqb, false_from_ne_true, and_parts, and_from, le-leb, lt-ltb, leb-true, ltb-true}
use Rattle.std.proofs.lemmas.List.{get_or-set_same, get_or-set_other, length-replicate, get_or-replicate, length-map, get_or-map, get_or-take, get_or-drop}
use Rattle.kdf_lockout.specs.Groups.{group_at, is_out, touched, Cells, Lent, without_groups, lent_groups, words_in, AreWhole, AreFull}
use Rattle.kdf_lockout.proofs.Ranges.{none_in_range}
use Rattle.kdf_places.specs.Words.{has_group, with_lease}
use Rattle.kdf_places.specs.Spots.{Spot, no_spot, spot_at, lease_held, leases_of}
use Rattle.kdf_places.specs.Shared.{Shared, IsSound}
use Rattle.kdf_places.specs.Transfers.{IsFreeArea}
use Rattle.kdf_places.proofs.WordsHereAndOut.{splice_in, splice_out}

-- the leases after one spot is another
pub leases-set : (spots : List Spot) (d : ℕ) (x : Spot) → d < length spots → leases_of (set spots d x) ≡ with_lease d (lease_held x.flight) (leases_of spots)
leases-set spots d x lt =
    fun_ext
    (λ e. ⊎_elim
    (λ (same : e ≡ d).
    ap (λ k. lease_held (spot_at (set spots d x) k).flight) same
    ∙ ap (λ (y : Spot). lease_held y.flight) (get_or-set_same spots d x no_spot lt)
    ∙ sym (ap (λ b. cond b (lease_held x.flight) (leases_of spots e)) (eq-eqb e d same)))
    (λ (ne : e ≢ d).
    ap (λ (y : Spot). lease_held y.flight) (get_or-set_other spots d e x no_spot ne)
    ∙ sym (ap (λ b. cond b (lease_held x.flight) (leases_of spots e)) (ne_eqb e d ne)))
    (cases_eq e d))

-- a group that is out is in no lease of those that begin
pub here_apart : (s : Shared) (d g : ℕ) (ws : List ℕ) → IsSound s → group_at s.cells g ≡ Some ws → has_group (leases_of s.spots d) g ≡ false
here_apart s d g ws sound is =
    false_from_ne_true _ (λ has. cc (sym (sound.out d g has) ∙ is))

-- the groups of a free area are here
pub free_here : (s : Shared) (first last g : ℕ) → IsFreeArea s.cells first last → first / 32 ≤ g → g < first / 32 + touched first last
    → (ws : List ℕ) × (group_at s.cells g ≡ Some ws)
free_here s first last g free low high =
    let i : g - first / 32 < touched first last = omega arith in
    let e : first / 32 + (g - first / 32) ≡ g = omega arith in
    some_there (group_at s.cells g) (ap (is_out s.cells) (sym e) ∙ none_in_range (is_out s.cells) (first / 32) (touched first last) (g - first / 32) free.free
    i)
  where
    some_there : (o : Option (List ℕ)) → is_none o ≡ false → (ws : List ℕ) × (o ≡ Some ws)
    some_there None h = cc
    some_there (Some ws) h = (ws, refl)

-- a group after some were taken out
pub without_in : (cells : Cells) (f n g : ℕ) → f + n ≤ length cells → f ≤ g → g < f + n → group_at (without_groups cells f n) g ≡ None
unfolding without_groups
without_in cells f n g fits low high =
    let none : Option (List ℕ) = None in
    let count : length (replicate n none) ≡ n = length-replicate n none in
    let fits' : f + length (replicate n none) ≤ length cells = omega arith in
    let high' : g < f + length (replicate n none) = omega arith in
    let i : g - f < n = omega arith in
    ap (λ k. get_or (take f cells ++ (replicate n none ++ drop (f + k) cells)) g none) (sym count)
    ∙ splice_in cells (replicate n none) f g none fits' low high'
    ∙ get_or-replicate n (g - f) none none i

pub without_out : (cells : Cells) (f n g : ℕ) → f + n ≤ length cells → (g < f) ⊎ (f + n ≤ g) → group_at (without_groups cells f n) g ≡ group_at cells g
unfolding without_groups
without_out cells f n g fits out =
    let none : Option (List ℕ) = None in
    let count : length (replicate n none) ≡ n = length-replicate n none in
    let fits' : f + length (replicate n none) ≤ length cells = omega arith in
    let out' : (g < f) ⊎ (f + length (replicate n none) ≤ g) = ⊎_elim (λ (h : g < f). inl h) (λ (h : f + n ≤ g). inr (omega arith)) out in
    ap (λ k. get_or (take f cells ++ (replicate n none ++ drop (f + k) cells)) g none) (sym count)
    ∙ splice_out cells (replicate n none) f g none fits' out'

-- a lease has the groups from its first on
pub has_in : (l : Lent) (g : ℕ) → l.first ≤ g → g < l.first + length l.groups → has_group (Some l) g ≡ true
has_in l g low high = and_from _ _ (le-leb l.first g low) (lt-ltb g (l.first + length l.groups) high)

pub in_has : (l : Lent) (g : ℕ) → has_group (Some l) g ≡ true → (l.first ≤ g) × (g < l.first + length l.groups)
in_has l g is = (leb-true l.first g (and_parts _ _ is).0, ltb-true g (l.first + length l.groups) (and_parts _ _ is).1)

pub lent_full : (cells : Cells) (f n : ℕ) → f + n ≤ length cells → AreWhole cells
    → ((g : ℕ) → f ≤ g → g < f + n → (ws : List ℕ) × (group_at cells g ≡ Some ws)) → AreFull (lent_groups cells f n)
unfolding lent_groups
lent_full cells f n fits whole here i lt =
    let count : length (map words_in (take n (drop f cells))) ≤ n = omega (arith, length-map (take n (drop f cells)) words_in, length-take n (drop f cells)) in
    let within : i < n = omega arith in
    let inside : i < length (take n (drop f cells)) = omega (arith, length-map (take n (drop f cells)) words_in) in
    let is = here (f + i) (omega arith) (omega arith) in
    ap length (get_or-map words_in (take n (drop f cells)) i None [] inside
    ∙ ap words_in (get_or-take n (drop f cells) i None within ∙ get_or-drop f cells i None ∙ is.1))
    ∙ whole (f + i) is.0 is.1

pub lent_range : (cells : Cells) (f n : ℕ) → f + n ≤ length cells → ((lent_groups cells f n).first ≡ f) × (length (lent_groups cells f n).groups ≡ n)
unfolding lent_groups
lent_range cells f n fits = (refl, omega (arith, length-map (take n (drop f cells)) words_in, length-take n (drop f cells), length-drop f cells))
