-- What passes between a program and the outside: bytes, where they are told, and counts of faults.
use Rattle.std.specs.Prelude.{◌≡◌, ℕ, ◌-◌, ◌^◌, ◌<◌, ◌⊎◌, Option, List, [], ◌++◌, length, take, option_map, IfSome}

-- the count rose in a call: it is higher than before, or it stands at its highest
abbrev pub HasRisen : ℕ → ℕ → Type 0
HasRisen before after = (before < after) ⊎ (after ≡ 2 ^ 64 - 1)

-- the bytes left before were these and then the bytes left after, where that is told
abbrev pub Advances : Option (List ℕ) → List ℕ → Option (List ℕ) → Type 0
Advances before bytes after = before ≡ option_map (λ rest. bytes ++ rest) after

-- no byte is left, where that is told
abbrev pub NothingLeft : Option (List ℕ) → Type 0
NothingLeft left = IfSome left (λ rest. rest ≡ [])

-- the bytes written after are those written before and then these, where that is told
abbrev pub Added : Option (List ℕ) → List ℕ → Option (List ℕ) → Type 0
Added before bytes after = after ≡ option_map (λ start. start ++ bytes) before

-- the bytes written after are those written before and then a front of these, but not all of them, where that is told
abbrev pub AddedFront : Option (List ℕ) → List ℕ → Option (List ℕ) → Type 0
AddedFront before bytes after = (n : ℕ) × (n < length bytes) × Added before (take n bytes) after
