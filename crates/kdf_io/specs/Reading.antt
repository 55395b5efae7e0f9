-- What reading to the end of the input has taken where it doesn't come to it.
use Rattle.std.specs.Prelude.{◌≡◌, ℕ, ◌+◌, ◌≤◌, Option, List, length}
use Rattle.kdf_io.specs.declared.read_end.ReadEnd.{ReadEnd}
use Rattle.kdf_io.specs.declared.read_end.ReadEnd.TheVariants.{Fault, Large, Memory}
use Rattle.kdf_io.specs.Outside.{Advances}

-- so many bytes may have been taken before this end: one more than the limit where that is the reason
abbrev pub IsTakenBefore : ReadEnd → ℕ → ℕ → Type 0
IsTakenBefore Fault limit taken = taken ≤ limit
IsTakenBefore Large limit taken = taken ≡ limit + 1
IsTakenBefore Memory limit taken = taken ≤ limit

-- some bytes were taken before this end, and what is left are the rest
abbrev pub TookBefore : ReadEnd → ℕ → Option (List ℕ) → Option (List ℕ) → Type 0
TookBefore end limit before after =
    (bytes : List ℕ) × IsTakenBefore end limit (length bytes) × Advances before bytes after

-- at most so many bytes were taken, and what is left are the rest
abbrev pub TakesAtMost : ℕ → Option (List ℕ) → Option (List ℕ) → Type 0
TakesAtMost most before after = (bytes : List ℕ) × (length bytes ≤ most) × Advances before bytes after
