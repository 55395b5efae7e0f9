-- The looks at a program that comes to a place.
use Rattle.std.specs.Prelude.{ℕ, ◌==◌, ◌&&◌, Bool}
use Rattle.kdf_watch.specs.declared.look.Look.{Look}

-- whether the look is at program k, and its next order at this place
abbrev pub is_at : ℕ → ℕ → Look → Bool
is_at k at look = look.p == k && look.at == at
