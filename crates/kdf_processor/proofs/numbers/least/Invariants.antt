use Rattle.std.proofs.Common.{◌≡◌, ◌-◌, ◌<◌, ℕ, Bool}
use Rattle.std.specs.Prelude.{find}
use Rattle.std.specs.List.{range_with_len}
use Rattle.kdf_processor.proofs.numbers.least.Given as goal

abbrev pub invariant-loop-d : goal.invariant-loop-d
invariant-loop-d g l =
    (test : ℕ → Bool) → ((d : ℕ) (is : Bool) → d < 16 → goal.F-post g l.passes d is → is ≡ test d)
    → find test (range_with_len 0 16) ≡ find test (range_with_len l.d (16 - l.d))
