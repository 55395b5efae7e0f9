-- The places of statements rise.
use Rattle.std.specs.Prelude.{ℕ, ◌+◌, ◌<◌, ◌≤◌, List, [], ◌∷◌}
use Rattle.kdf_usercode.specs.declared.statement.Statement.{Statement}

-- the places rise from `low` on, and stay below `high`
abbrev pub Rises : ℕ → List Statement → ℕ → Type 0
Rises low [] high = Unit {0}
Rises low (s ∷ ss) high = (low ≤ s.place) × (s.place < high) × Rises (s.place + 1) ss high
