-- A number in decimal digits, read again.
use Rattle.std.proofs.Common.{◌≡◌, ◌≢◌, ℕ, zero, suc, ◌+◌, ◌*◌, ◌-◌, ◌<◌, ◌≤◌, ◌^◌, Bool, true, false, cond, ◌&&◌, ◌||◌, not, eqb, leb, List, [], ◌∷◌, length}
use Rattle.std.proofs.Common.{get_or, fold, Option, Some, None, refl, sym, ◌∙◌, ap, ⊎_elim, arith, rules}
use Rattle.std.specs.Fmt.{decimal}
use Rattle.std.specs.List.{list_all, list_any}
use Rattle.std.proofs.lemmas.Bool.{and_parts, and_from, cases_Bool, cases_eq, eq-eqb, ne_eqb, eqb-true, eqb-false, leb-true, le-leb, not-true, or_cases}
use Rattle.std.proofs.lemmas.Bool.{or_right, cond-true, true≢false}
use Rattle.std.proofs.lemmas.Fmt.{decimal_nonempty, decimal_digit, decimal-digits_value, digits_decimal, digits_value-decimal, first_decimal}
use Rattle.std.proofs.lemmas.Str.Parse.{IsNumeralModel, numerals_by_fold}
use Rattle.kdf_text.specs.Numbers.{is_digit, is_digits, is_number, value, number_in}
use Rattle.kdf_text.proofs.Cutting.{has}
use Rattle.kdf_text.proofs.Digits.{worth}

numeral : IsNumeralModel (λ ds. list_all is_digit ds ≡ true) (worth 0)
numeral = numerals_by_fold _ (search rules) worth (search rules)

pub digits-decimal : (n : ℕ) → n < 2 ^ 64 → list_all is_digit (decimal n) ≡ true
digits-decimal n small = digits_decimal numeral n small

pub value-decimal : (n : ℕ) → n < 2 ^ 64 → value (decimal n) ≡ n
unfolding value
value-decimal n small = digits_value-decimal numeral n small

no-space : (ds : List ℕ) → list_all is_digit ds ≡ true → has 32 ds ≡ false
no-space [] all = refl
no-space (d ∷ ds) all =
    let parts = and_parts (is_digit d) (list_all is_digit ds) all in
    let low = and_parts (leb 48 d) (leb d 57) parts.0 in
    rw (ne_eqb d 32 (λ (e : d ≡ 32). omega (arith, leb-true 48 d low.0)), no-space ds parts.1) refl

-- no space stands in a number
pub apart-decimal : (n : ℕ) → n < 2 ^ 64 → has 32 (decimal n) ≡ false
apart-decimal n small = no-space (decimal n) (digits-decimal n small)

pub is_number-decimal : (n : ℕ) → n < 2 ^ 64 → is_number (decimal n) ≡ true
is_number-decimal n small =
    rw (ne_eqb (length (decimal n)) 0 (λ e. omega (arith, decimal_nonempty n small)), digits-decimal n small) (⊎_elim
    (λ (none : n ≡ 0). rw (none, decimal_digit 0 (omega arith)) refl)
    (λ (some : n ≢ 0). rw (ne_eqb (get_or (decimal n) 0 0) 48 (λ e. omega (arith, first_decimal n (omega arith) small)))
    (or_right (eqb (length (decimal n)) 1) true refl))
    (cases_eq n 0))

pub number-decimal : (low high n : ℕ) → n < 2 ^ 64 → low ≤ n → n ≤ high → number_in low high (decimal n) ≡ Some n
number-decimal low high n small from to = rw (is_number-decimal n small, value-decimal n small, le-leb low n from, le-leb n high to) refl

leads : (word : List ℕ) → get_or word 0 0 ≡ 48 → eqb (length word) 1 || not (eqb (get_or word 0 0) 48) ≡ true → length word ≡ 1
leads word zero_first is =
    ⊎_elim
    (λ (one : eqb (length word) 1 ≡ true). eqb-true (length word) 1 one)
    (λ (isnt : not (eqb (get_or word 0 0) 48) ≡ true). absurd (eqb-false (get_or word 0 0) 48 (not-true (eqb (get_or word 0 0) 48) isnt) zero_first))
    (or_cases (eqb (length word) 1) (not (eqb (get_or word 0 0) 48)) is)

-- a number is its value in digits
pub decimal-value : (word : List ℕ) → value word < 2 ^ 64 → is_number word ≡ true → decimal (value word) ≡ word
unfolding value
decimal-value word small is =
    let parts = and_parts (is_digits word) (eqb (length word) 1 || not (eqb (get_or word 0 0) 48)) is in
    let digits = and_parts (not (eqb (length word) 0)) (list_all is_digit word) parts.0 in
    let some : 0 < length word = (let none = eqb-false (length word) 0 (not-true (eqb (length word) 0) digits.0) in omega arith) in
    decimal-digits_value numeral word digits.1 some (λ zero_first. leads word zero_first parts.1) small

-- what a word spells
pub record Spells (low high n : ℕ) (word : List ℕ) : Type 0 where
  pub is : decimal n ≡ word
  pub from : low ≤ n
  pub to : n ≤ high

pub decimal-number : (low high n : ℕ) (word : List ℕ) → high < 2 ^ 64 → number_in low high word ≡ Some n → Spells low high n word
decimal-number low high n word small is = go (is_number word && leb low (value word)) (leb (value word) high) refl refl is
  where
    go : (x y : Bool) → is_number word && leb low (value word) ≡ x → leb (value word) high ≡ y → cond (x && y) (Some (value word)) None ≡ Some n
        → Spells low high n word
    go true true front top same =
        let worth_is : value word ≡ n = cc in
        let parts = and_parts (is_number word) (leb low (value word)) front in
        let least : low ≤ value word = leb-true low (value word) parts.1 in
        let most : value word ≤ high = leb-true (value word) high top in
        record { is = ap decimal (sym worth_is) ∙ decimal-value word (omega arith) parts.0; from = omega arith; to = omega arith }
    go true false front top same = absurd cc
    go false y front top same = absurd cc
