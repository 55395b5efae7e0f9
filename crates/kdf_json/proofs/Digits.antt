-- A number of one digit.
use Rattle.std.proofs.Common.{◌≡◌, ℕ, ◌+◌, ◌<◌, List, [], ◌∷◌, ◌++◌, decimal}
use Rattle.std.proofs.lemmas.Fmt.{decimal_digit}

pub one_digit : (n : ℕ) (old new : List ℕ) → n < 10 → new ≡ old ++ (48 + n) ∷ [] → new ≡ old ++ decimal n
one_digit n old new small e = rw (decimal_digit n small) e
