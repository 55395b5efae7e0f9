-- Words with their addresses.
use Rattle.std.proofs.Common.{◌≡◌, ℕ, zero, suc, ◌+◌, ◌-◌, ◌<◌, true, false, List, [], ◌∷◌, ◌++◌, length, get_or, take, drop, cond, refl, sym, ap, ◌∙◌, ⊎_elim}
use Rattle.std.proofs.Common.{arith}
use Rattle.std.proofs.lemmas.Bool.{cases_Bool}
use Rattle.kdf_transfer.specs.declared.order.TransferOrder.{TransferOrder}
use Rattle.kdf_transfer.specs.AtOnce.{is_backward, place_of, addressed, at_addresses, down_addresses}

pub at-drop : (a i : ℕ) (ws : List ℕ) → i < length ws → drop i (at_addresses a ws) ≡ (a + i, get_or ws i 0) ∷ drop (suc i) (at_addresses a ws)
at-drop a i [] lt = absurd (omega arith)
at-drop a zero (w ∷ ws) lt = ap (λ b. (b, w) ∷ at_addresses (a + 1) ws) (omega arith)
at-drop a (suc i) (w ∷ ws) lt =
    let e : a + 1 + i ≡ a + suc i = omega arith in
    at-drop (a + 1) i ws (omega arith) ∙ ap (λ b. (b, get_or ws i 0) ∷ drop (suc i) (at_addresses (a + 1) ws)) e

pub down-drop : (a i : ℕ) (ws : List ℕ) → i < length ws → drop i (down_addresses a ws) ≡ (a - i, get_or ws i 0) ∷ drop (suc i) (down_addresses a ws)
down-drop a i [] lt = absurd (omega arith)
down-drop a zero (w ∷ ws) lt = ap (λ b. (b, w) ∷ down_addresses (a - 1) ws) (omega arith)
down-drop a (suc i) (w ∷ ws) lt =
    let e : a - 1 - i ≡ a - suc i = omega arith in
    down-drop (a - 1) i ws (omega arith) ∙ ap (λ b. (b, get_or ws i 0) ∷ drop (suc i) (down_addresses (a - 1) ws)) e

-- word number i with its address
pub addressed-drop : (o : TransferOrder) (first last i : ℕ) (ws : List ℕ) → i < length ws
    → drop i (addressed o first last ws) ≡ (place_of o first last i, get_or ws i 0) ∷ drop (suc i) (addressed o first last ws)
addressed-drop o first last i ws lt =
    ⊎_elim
    (λ (is : is_backward o ≡ true).
    ap (λ b. drop i (cond b (down_addresses last ws) (at_addresses first ws))) is
    ∙ down-drop last i ws lt
    ∙ sym (ap (λ b. (cond b (last - i) (first + i), get_or ws i 0) ∷ drop (suc i) (cond b (down_addresses last ws) (at_addresses first ws))) is))
    (λ (not : is_backward o ≡ false).
    ap (λ b. drop i (cond b (down_addresses last ws) (at_addresses first ws))) not
    ∙ at-drop first i ws lt
    ∙ sym (ap (λ b. (cond b (last - i) (first + i), get_or ws i 0) ∷ drop (suc i) (cond b (down_addresses last ws) (at_addresses first ws))) not))
    (cases_Bool (is_backward o))

pub length-at : (a : ℕ) (ws : List ℕ) → length (at_addresses a ws) ≡ length ws
length-at a [] = refl
length-at a (w ∷ ws) = ap suc (length-at (a + 1) ws)

pub length-down : (a : ℕ) (ws : List ℕ) → length (down_addresses a ws) ≡ length ws
length-down a [] = refl
length-down a (w ∷ ws) = ap suc (length-down (a - 1) ws)

pub length-addressed : (o : TransferOrder) (first last : ℕ) (ws : List ℕ) → length (addressed o first last ws) ≡ length ws
length-addressed o first last ws =
    ⊎_elim
    (λ (is : is_backward o ≡ true). ap (λ b. length (cond b (down_addresses last ws) (at_addresses first ws))) is ∙ length-down last ws)
    (λ (not : is_backward o ≡ false). ap (λ b. length (cond b (down_addresses last ws) (at_addresses first ws))) not ∙ length-at first ws)
    (cases_Bool (is_backward o))

pub take_two : {X : Type 0} (a b : ℕ) (xs : List X) → take a xs ++ take b (drop a xs) ≡ take (a + b) xs
take_two zero b xs = ap (λ n. take n xs) (let e : b ≡ 0 + b = omega arith in e)
take_two (suc a) b [] = take_none b ∙ ap (λ n. take n []) (let e : suc (a + b) ≡ suc a + b = omega arith in e)
  where
    take_none : {X : Type 0} (b : ℕ) → take b (let xs : List X = [] in xs) ≡ []
    take_none zero = refl
    take_none (suc b) = refl
take_two (suc a) b (x ∷ xs) =
    let e : suc (a + b) ≡ suc a + b = omega arith in
    ap (λ ys. x ∷ ys) (take_two a b xs) ∙ ap (λ n. take n (x ∷ xs)) e
