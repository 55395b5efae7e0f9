-- Windows of four sizes.
use Rattle.std.proofs.Common.{◌≡◌, ℕ, ◌+◌, ◌%◌, ◌≤◌, true, false, eqb, List, [], ◌∷◌, length, get_or, arith, refl, sym, ap, ◌∙◌}
use Rattle.std.specs.Prelude.{sum, ◌&&◌, nat_le}
use Rattle.std.specs.List.{All, list_all}
use Rattle.std.proofs.lemmas.Bool.{and_parts, leb-true}
use Rattle.std.proofs.lemmas.List.Elements.{All-cons}
use Rattle.kdf_limits.specs.declared.store.TheConstants.{DIRECTOR_WORDS, PROGRAMS_WORDS}
use Rattle.kdf_relocate.specs.declared.window.Window.{Window}
use Rattle.kdf_relocate.specs.Windows.{window, windows_from, have_windows, IsInStore}

-- a list of four is its four elements
four : (xs : List ℕ) → length xs ≡ 4 → xs ≡ get_or xs 0 0 ∷ get_or xs 1 0 ∷ get_or xs 2 0 ∷ get_or xs 3 0 ∷ []
four [] n = absurd (omega arith)
four (a ∷ []) n = absurd (omega arith)
four (a ∷ b ∷ []) n = absurd (omega arith)
four (a ∷ b ∷ c ∷ []) n = absurd (omega arith)
four (a ∷ b ∷ c ∷ d ∷ []) n = refl
four (a ∷ b ∷ c ∷ d ∷ e ∷ xs) n = absurd (omega arith)

-- four windows, each after the one before it
pub windows_four : (xs : List ℕ) (w x y : Window) → length xs ≡ 4 → w ≡ window (DIRECTOR_WORDS + get_or xs 0 0) (get_or xs 1 0)
    → x ≡ window (w.base + w.size) (get_or xs 2 0) → y ≡ window (x.base + x.size) (get_or xs 3 0)
    → window DIRECTOR_WORDS (get_or xs 0 0) ∷ w ∷ x ∷ y ∷ [] ≡ windows_from DIRECTOR_WORDS xs
windows_four xs w x y n ew ex ey =
    let a = get_or xs 0 0 in
    let b = get_or xs 1 0 in
    let c = get_or xs 2 0 in
    let d = get_or xs 3 0 in
    let third : x ≡ window (DIRECTOR_WORDS + a + b) c = ex ∙ ap (λ (k : Window). window (k.base + k.size) c) ew in
    let fourth : y ≡ window (DIRECTOR_WORDS + a + b + c) d = ey ∙ ap (λ (k : Window). window (k.base + k.size) d) third in
    ap (λ k. window DIRECTOR_WORDS a ∷ k ∷ x ∷ y ∷ []) ew
    ∙ ap (λ k. window DIRECTOR_WORDS a ∷ window (DIRECTOR_WORDS + a) b ∷ k ∷ y ∷ []) third
    ∙ ap (λ k. window DIRECTOR_WORDS a ∷ window (DIRECTOR_WORDS + a) b ∷ window (DIRECTOR_WORDS + a + b) c ∷ k ∷ []) fourth
    ∙ sym (ap (windows_from DIRECTOR_WORDS) (four xs n))

-- which lie in the store, where they fit together
pub inside_four : (xs : List ℕ) (w x y : Window) → length xs ≡ 4 → sum xs ≤ PROGRAMS_WORDS → w ≡ window (DIRECTOR_WORDS + get_or xs 0 0) (get_or xs 1 0)
    → x ≡ window (w.base + w.size) (get_or xs 2 0) → y ≡ window (x.base + x.size) (get_or xs 3 0)
    → All IsInStore (window DIRECTOR_WORDS (get_or xs 0 0) ∷ w ∷ x ∷ y ∷ [])
inside_four xs w x y n fits ew ex ey =
    let all : sum xs ≡ 0 + get_or xs 0 0 + get_or xs 1 0 + get_or xs 2 0 + get_or xs 3 0 = ap sum (four xs n) in
    let wb : w.base ≡ DIRECTOR_WORDS + get_or xs 0 0 = ap (λ (k : Window). k.base) ew in
    let ws : w.size ≡ get_or xs 1 0 = ap (λ (k : Window). k.size) ew in
    let xb : x.base ≡ w.base + w.size = ap (λ (k : Window). k.base) ex in
    let xs' : x.size ≡ get_or xs 2 0 = ap (λ (k : Window). k.size) ex in
    let yb : y.base ≡ x.base + x.size = ap (λ (k : Window). k.base) ey in
    let ys : y.size ≡ get_or xs 3 0 = ap (λ (k : Window). k.size) ey in
    All-cons IsInStore (window DIRECTOR_WORDS (get_or xs 0 0)) (w ∷ x ∷ y ∷ []) (record { from = omega arith; to = omega arith })
    (All-cons IsInStore w (x ∷ y ∷ []) (record { from = omega arith; to = omega arith })
    (All-cons IsInStore x (y ∷ []) (record { from = omega arith; to = omega arith })
    (All-cons IsInStore y [] (record { from = omega arith; to = omega arith }) (λ i d lt. absurd (omega arith)))))

-- sizes that have windows fit together
pub room_of : (xs : List ℕ) → have_windows xs ≡ true → sum xs ≤ PROGRAMS_WORDS
room_of xs h = leb-true (sum xs) PROGRAMS_WORDS (and_parts (list_all (λ size. eqb (size % 32) 0) xs) (nat_le (sum xs) PROGRAMS_WORDS) h).1

pub room_then : (xs : List ℕ) (n : ℕ) → list_all (λ size. eqb (size % 32) 0) xs ≡ true → n ≡ sum xs → nat_le n PROGRAMS_WORDS ≡ have_windows xs
room_then xs n whole is = ap (λ k. nat_le k PROGRAMS_WORDS) is ∙ sym (ap (λ b. b && nat_le (sum xs) PROGRAMS_WORDS) whole)

pub room_else : (xs : List ℕ) → list_all (λ size. eqb (size % 32) 0) xs ≡ false → false ≡ have_windows xs
room_else xs not = sym (ap (λ b. b && nat_le (sum xs) PROGRAMS_WORDS) not)
