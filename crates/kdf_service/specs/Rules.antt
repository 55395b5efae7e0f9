-- What is known of a rule from words to words. `may n` says that it may be asked of n, and `answers n a` that a is one of
-- its answers to n.
use Rattle.std.specs.Prelude.{◌≡◌, ℕ, ◌<◌, ◌^◌}

-- it may be asked of each word, each of its answers to a word is a word, and any two of its answers to one word are equal
pub record IsService (may : ℕ → Type 0) (answers : ℕ → ℕ → Type 0) : Type 0 where
  pub askable : (n : ℕ) → n < 2 ^ 48 → may n
  pub words : (n a : ℕ) → n < 2 ^ 48 → answers n a → a < 2 ^ 48
  pub one : (n a b : ℕ) → n < 2 ^ 48 → answers n a → answers n b → a ≡ b
