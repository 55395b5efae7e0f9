-- The service of the library, which is that of the program.
use Rattle.std.specs.Prelude.{◌≡◌, ℕ, ◌+◌, ◌*◌, ◌/◌, ◌%◌, ◌^◌}

-- a is the answer to n: the word with its halves exchanged
abbrev pub exchanged : ℕ → ℕ → Type 0
exchanged n a = a ≡ n % 2 ^ 24 * 2 ^ 24 + n / 2 ^ 24
