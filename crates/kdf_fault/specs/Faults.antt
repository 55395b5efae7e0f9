-- The order of faults: the least place, and at one place the least number.
use Rattle.std.specs.Prelude.{◌≡◌, ◌⊎◌, false, ℕ, Bool, ◌&&◌, ◌||◌, ◌==◌, nat_lt, List, [], ◌∷◌, Option, Some, None, if◌then◌else◌}
use Rattle.kdf_fault.specs.declared.found.Found.{Found}

-- x comes before y
abbrev pub before : {F : Type 0} → (F → ℕ) → Found F → Found F → Bool
before number x y = nat_lt x.place y.place || (x.place == y.place && nat_lt (number x.fault) (number y.fault))

-- the earlier of two, where there are any
abbrev pub lesser : {F : Type 0} → (F → ℕ) → Option (Found F) → Option (Found F) → Option (Found F)
lesser number None y = y
lesser number (Some x) None = Some x
lesser number (Some x) (Some y) = if before number y x then Some y else Some x

-- the first of the faults, where there are any
abbrev pub least : {F : Type 0} → (F → ℕ) → List (Found F) → Option (Found F)
least number [] = None
least number (x ∷ xs) = lesser number (Some x) (least number xs)

-- f is one of the faults
abbrev pub IsOneOf : {F : Type 0} → Found F → List (Found F) → Type 0
IsOneOf f [] = ⊥
IsOneOf f (g ∷ gs) = (f ≡ g) ⊎ IsOneOf f gs

-- none of the faults comes before f
abbrev pub NoneBefore : {F : Type 0} → (F → ℕ) → Found F → List (Found F) → Type 0
NoneBefore number f [] = Unit {0}
NoneBefore number f (g ∷ gs) = (before number g f ≡ false) × NoneBefore number f gs

-- this is the first of the faults, where there are any
abbrev pub IsFirst : {F : Type 0} → (F → ℕ) → Option (Found F) → List (Found F) → Type 0
IsFirst number None fs = fs ≡ []
IsFirst number (Some f) fs = IsOneOf f fs × NoneBefore number f fs
