-- Products and shifts of 128 bits, by the two halves of each number.
use Rattle.std.specs.Prelude.{ℕ, ◌+◌, ◌-◌, ◌*◌, ◌/◌, ◌^◌, nat_lt, if◌then◌else◌}

-- the number of which these are the lower and the upper 64 bits
abbrev pub number : ℕ → ℕ → ℕ
number low high = high * 2 ^ 64 + low

-- 128 bits in two's complement over 2^k, rounded down: below 0 that is the complement of what the complement is over 2^k
abbrev pub arithmetic_shift : ℕ → ℕ → ℕ
arithmetic_shift n k = if nat_lt n (2 ^ 127) then n / 2 ^ k else 2 ^ 128 - 1 - (2 ^ 128 - 1 - n) / 2 ^ k
