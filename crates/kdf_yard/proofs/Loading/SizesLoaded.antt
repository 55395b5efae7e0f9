-- The sizes of the slots that are loaded, and their windows.
use Rattle.std.proofs.Common.{◌≡◌, ◌≢◌, ℕ, zero, suc, ◌+◌, ◌%◌, ◌<◌, ◌≤◌, Bool, true, false, cond, eqb, List, [], ◌∷◌, length, get_or, refl, ap, ap₂, ◌∙◌}
use Rattle.std.proofs.Common.{subst, ⊎_elim, arith}
use Rattle.std.specs.Prelude.{sum, sum_by, ◌&&◌}
use Rattle.std.specs.List.{All, AllPairs}
use Rattle.std.proofs.lemmas.Bool.{cases_eq, eq-eqb, le-leb, ne_eqb}
use Rattle.std.proofs.lemmas.List.Elements.{All-cons, All-head, All-nil, All-tail}
use Rattle.std.proofs.lemmas.List.Sums.{list_all-from_AllPass, sum_by-cons}
use Rattle.kdf_relocate.specs.declared.window.Window.{Window}
use Rattle.kdf_relocate.specs.Windows.{have_windows, windows_from}
use Rattle.kdf_theory.specs.Loading.{IsBelow, SlotLoad}
use Rattle.kdf_yard.specs.Fields.Filled.{size_at, sizes_of}
use Rattle.kdf_yard.specs.Fields.Parts.{window_at}
use Rattle.kdf_limits.specs.declared.store.TheConstants.{DIRECTOR_WORDS, PROGRAMS_WORDS}

-- a size in one of four places at most
on : (q k size : ℕ) → q ≡ k → cond (eqb q k) size 0 ≡ size
on q k size is = ap (λ b. cond b size 0) (eq-eqb q k is)

off : (q k size : ℕ) → q ≢ k → cond (eqb q k) size 0 ≡ 0
off q k size not = ap (λ b. cond b size 0) (ne_eqb q k not)

once : (q size : ℕ) → cond (eqb q 0) size 0 + cond (eqb q 1) size 0 + cond (eqb q 2) size 0 + cond (eqb q 3) size 0 ≤ size
once q size =
    ⊎_elim
    (λ (is : q ≡ 0).
    let a = on q 0 size is in
    let b = off q 1 size (λ e. absurd (omega arith)) in
    let c = off q 2 size (λ e. absurd (omega arith)) in
    let d = off q 3 size (λ e. absurd (omega arith)) in
    omega arith)
    (λ (n0 : q ≢ 0).
    ⊎_elim
    (λ (is : q ≡ 1).
    let a = off q 0 size n0 in
    let b = on q 1 size is in
    let c = off q 2 size (λ e. absurd (omega arith)) in
    let d = off q 3 size (λ e. absurd (omega arith)) in
    omega arith)
    (λ (n1 : q ≢ 1).
    ⊎_elim
    (λ (is : q ≡ 2).
    let a = off q 0 size n0 in
    let b = off q 1 size n1 in
    let c = on q 2 size is in
    let d = off q 3 size (λ e. absurd (omega arith)) in
    omega arith)
    (λ (n2 : q ≢ 2).
    let a = off q 0 size n0 in
    let b = off q 1 size n1 in
    let c = off q 2 size n2 in
    either (eqb q 3) size a b c)
    (cases_eq q 2))
    (cases_eq q 1))
    (cases_eq q 0)
  where
    either : (b : Bool) (size : ℕ) → cond (eqb q 0) size 0 ≡ 0 → cond (eqb q 1) size 0 ≡ 0 → cond (eqb q 2) size 0 ≡ 0
        → cond (eqb q 0) size 0 + cond (eqb q 1) size 0 + cond (eqb q 2) size 0 + cond b size 0 ≤ size
    either true size a b c = let e : cond (eqb q 0) size 0 + cond (eqb q 1) size 0 + cond (eqb q 2) size 0 + size ≤ size = omega arith in e
    either false size a b c = let e : cond (eqb q 0) size 0 + cond (eqb q 1) size 0 + cond (eqb q 2) size 0 + 0 ≤ size = omega arith in e

joined : (b : Bool) (size rest : ℕ) → cond b size rest ≤ cond b size 0 + rest
joined true size rest = let e : size ≤ size + rest = omega arith in e
joined false size rest = let e : rest ≤ 0 + rest = omega arith in e

pub total_is : (xs : List SlotLoad) → size_at xs 0 + size_at xs 1 + size_at xs 2 + size_at xs 3 ≤ sum_by (λ (l : SlotLoad). l.size) xs
total_is [] = omega arith
total_is (x ∷ xs) =
    let rest = total_is xs in
    let all = sum_by-cons (λ (l : SlotLoad). l.size) x xs in
    let this = once x.p x.size in
    let a = joined (eqb x.p 0) x.size (size_at xs 0) in
    let b = joined (eqb x.p 1) x.size (size_at xs 1) in
    let c = joined (eqb x.p 2) x.size (size_at xs 2) in
    let d = joined (eqb x.p 3) x.size (size_at xs 3) in
    let e : cond (eqb x.p 0) x.size (size_at xs 0) + cond (eqb x.p 1) x.size (size_at xs 1) + cond (eqb x.p 2) x.size (size_at xs 2) + cond (eqb x.p 3) x.size
    (size_at xs 3) ≤ sum_by (λ (l : SlotLoad). l.size) (x ∷ xs) = omega arith in
    e

-- whole groups
whole_or : (b : Bool) (m n : ℕ) → m % 32 ≡ 0 → n % 32 ≡ 0 → cond b m n % 32 ≡ 0
whole_or true m n is rest = is
whole_or false m n is rest = rest

pub whole_at : (xs : List SlotLoad) (p : ℕ) → All (λ (l : SlotLoad). l.size % 32 ≡ 0) xs → size_at xs p % 32 ≡ 0
whole_at [] p whole = refl
whole_at (x ∷ xs) p whole = whole_or (eqb x.p p) x.size (size_at xs p) (All-head (λ (l : SlotLoad). l.size % 32 ≡ 0) x xs whole)
    (whole_at xs p (All-tail (λ (l : SlotLoad). l.size % 32 ≡ 0) x xs whole))

abbrev IsWhole : ℕ → Type 0
IsWhole size = eqb (size % 32) 0 ≡ true

-- sizes that are whole groups and fit have windows
pub sizes_fit : (xs : List SlotLoad) → All (λ (l : SlotLoad). l.size % 32 ≡ 0) xs → sum_by (λ (l : SlotLoad). l.size) xs ≤ PROGRAMS_WORDS
    → have_windows (sizes_of xs) ≡ true
sizes_fit xs whole fits = fit (size_at xs 0) (size_at xs 1) (size_at xs 2) (size_at xs 3) (whole_at xs 0 whole) (whole_at xs 1 whole) (whole_at xs 2 whole)
    (whole_at xs 3 whole) (let e = total_is xs in omega arith)
  where
    fit : (a b c d : ℕ) → a % 32 ≡ 0 → b % 32 ≡ 0 → c % 32 ≡ 0 → d % 32 ≡ 0 → a + b + c + d ≤ PROGRAMS_WORDS → have_windows (a ∷ b ∷ c ∷ d ∷ []) ≡ true
    fit a b c d wa wb wc wd le =
        let all : sum (a ∷ b ∷ c ∷ d ∷ []) ≡ 0 + a + b + c + d = refl in
        ap₂ (λ x y. x && y)
        (list_all-from_AllPass (λ size. eqb (size % 32) 0) (a ∷ b ∷ c ∷ d ∷ [])
        (All-cons IsWhole a (b ∷ c ∷ d ∷ []) (eq-eqb (a % 32) 0 wa)
        (All-cons IsWhole b (c ∷ d ∷ []) (eq-eqb (b % 32) 0 wb)
        (All-cons IsWhole c (d ∷ []) (eq-eqb (c % 32) 0 wc)
        (All-cons IsWhole d [] (eq-eqb (d % 32) 0 wd) (All-nil IsWhole))))))
        (le-leb (sum (a ∷ b ∷ c ∷ d ∷ [])) PROGRAMS_WORDS (omega arith))

-- the slot that has a number has its size
pub size_is : (xs : List SlotLoad) (i : ℕ) (d : SlotLoad) → AllPairs IsBelow xs → i < length xs → size_at xs (get_or xs i d).p ≡ (get_or xs i d).size
size_is [] i d rising lt = absurd (omega arith)
size_is (x ∷ xs) zero d rising lt = ap (λ b. cond b x.size (size_at xs x.p)) (eq-eqb x.p x.p refl)
size_is (x ∷ xs) (suc i) d rising lt =
    let below : x.p < (get_or xs i d).p = rising 0 (suc i) d (omega arith) lt in
    let ne : x.p ≢ (get_or xs i d).p = λ e. absurd (omega arith) in
    ap (λ b. cond b x.size (size_at xs (get_or xs i d).p)) (ne_eqb x.p (get_or xs i d).p ne)
    ∙ size_is xs i d (λ j k e less inside. rising (suc j) (suc k) e (omega arith) (omega arith)) (omega arith)

-- a window begins at a group, and has the slot's size
pub record IsWindow (w : Window) (size : ℕ) : Type 0 where
  pub at_group : w.base % 32 ≡ 0
  pub size_is : w.size ≡ size

window_is : (p a b c d : ℕ) → p < 4 → a % 32 ≡ 0 → b % 32 ≡ 0 → c % 32 ≡ 0 → IsWindow (window_at (windows_from DIRECTOR_WORDS (a ∷ b ∷ c ∷ d ∷ [])) p)
    (get_or (a ∷ b ∷ c ∷ d ∷ []) p 0)
window_is zero a b c d lt wa wb wc = record { at_group = refl; size_is = refl }
window_is (suc zero) a b c d lt wa wb wc = record { at_group = (let e : (DIRECTOR_WORDS + a) % 32 ≡ 0 = omega arith in e); size_is = refl }
window_is (suc (suc zero)) a b c d lt wa wb wc = record { at_group = (let e : (DIRECTOR_WORDS + a + b) % 32 ≡ 0 = omega arith in e); size_is = refl }
window_is (suc (suc (suc zero))) a b c d lt wa wb wc = record { at_group = (let e : (DIRECTOR_WORDS + a + b + c) % 32 ≡ 0 = omega arith in e); size_is = refl }
window_is (suc (suc (suc (suc p)))) a b c d lt wa wb wc = absurd (omega arith)

four_at : (f : ℕ → ℕ) (p : ℕ) → p < 4 → get_or (f 0 ∷ f 1 ∷ f 2 ∷ f 3 ∷ []) p 0 ≡ f p
four_at f zero lt = refl
four_at f (suc zero) lt = refl
four_at f (suc (suc zero)) lt = refl
four_at f (suc (suc (suc zero))) lt = refl
four_at f (suc (suc (suc (suc p)))) lt = absurd (omega arith)

pub window_of : (xs : List SlotLoad) (p : ℕ) → p < 4 → All (λ (l : SlotLoad). l.size % 32 ≡ 0) xs
    → IsWindow (window_at (windows_from DIRECTOR_WORDS (sizes_of xs)) p) (size_at xs p)
window_of xs p lt whole =
    subst (IsWindow (window_at (windows_from DIRECTOR_WORDS (sizes_of xs)) p)) (four_at (size_at xs) p lt)
    (window_is p (size_at xs 0) (size_at xs 1) (size_at xs 2) (size_at xs 3) lt (whole_at xs 0 whole) (whole_at xs 1 whole) (whole_at xs 2 whole))
