-- How the code holds a number: one from 2 ^ 48 on is held as 2 ^ 48, which is outside every range too.
use Rattle.std.specs.Prelude.{ℕ, ◌^◌, min}

abbrev pub capped : ℕ → ℕ
capped n = min n (2 ^ 48)
