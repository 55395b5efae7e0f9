-- Counts that stop at their highest.
use Rattle.std.specs.Prelude.{◌≡◌, ℕ, ◌+◌, ◌-◌, ◌^◌, min, Result, MatchResult}
use Rattle.kdf_io.specs.declared.failed.Failed.{Failed}

-- one more, or the highest number of 64 bits
abbrev pub one_more : ℕ → ℕ
one_more count = min (count + 1) (2 ^ 64 - 1)

-- a call counted a fault where it failed, and none where it answered
abbrev pub CountsFault : ℕ → Result ℕ Failed → ℕ → Type 0
CountsFault before result after = MatchResult result (λ _. after ≡ before) (λ _. after ≡ one_more before)
