-- A number of few digits, whose digits were written one by one.
use Rattle.std.proofs.Common.{◌≡◌, ℕ, ◌+◌, ◌/◌, ◌%◌, ◌<◌, ◌≤◌, List, [], ◌∷◌, ◌++◌, decimal, append_assoc, arith}
use Rattle.std.proofs.lemmas.Fmt.{decimal_digit}
use Rattle.itoa.proofs.Decimal.{pair, decimal_two, decimal_pair}

pub one_digit : (n : ℕ) (old new : List ℕ) → n < 10 → new ≡ old ++ (48 + n) ∷ [] → new ≡ old ++ decimal n
one_digit n old new small e = rw (decimal_digit n small) e

pub two_digits : (n : ℕ) (old new : List ℕ) → 10 ≤ n → n < 100 → new ≡ old ++ (48 + n / 10) ∷ (48 + n % 10) ∷ [] → new ≡ old ++ decimal n
two_digits n old new from below e = rw (decimal_two n from below) e

pub last_two : (n : ℕ) (old front new : List ℕ) → 100 ≤ n → n < 10000 → front ≡ old ++ decimal (n / 100)
    → new ≡ front ++ (48 + n % 100 / 10) ∷ (48 + n % 100 % 10) ∷ [] → new ≡ old ++ decimal n
last_two n old front new from below first last =
    rw (decimal_pair n from (omega arith), last, first) (append_assoc old (decimal (n / 100)) (pair (n % 100)))
