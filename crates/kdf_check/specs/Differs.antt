-- Where two lists differ.
use Rattle.std.specs.Prelude.{◌≡◌, ◌≢◌, ℕ, ◌+◌, List, take}

-- their first n members are the same and their first n + 1 aren't: there each has another, or one of them is at its end
pub record IsDifference {A : Type 0} (xs ys : List A) (n : ℕ) : Type 0 where
  pub alike : take n xs ≡ take n ys
  pub here : take (n + 1) xs ≢ take (n + 1) ys
