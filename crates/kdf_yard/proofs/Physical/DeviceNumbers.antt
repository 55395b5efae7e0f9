-- The numbers of devices.
use Rattle.std.proofs.Common.{◌≡◌, ℕ, eqb, List, [], ◌∷◌, refl, ap}
use Rattle.std.specs.Prelude.{◌||◌}
use Rattle.std.specs.List.{list_any}
use Rattle.kdf_transfer.specs.declared.device.Device.{Device}
use Rattle.kdf_yard.specs.Fields.Parts.{numbers}
use Rattle.kdf_theory.specs.Loading.{owns}

-- a device has a number where it is among the numbers
pub any_number : (devices : List (ℕ × Device)) (d : ℕ) → list_any (λ (x : ℕ × Device). eqb x.0 d) devices ≡ owns (numbers devices) d
any_number [] d = refl
any_number (x ∷ devices) d = ap (λ b. eqb x.0 d || b) (any_number devices d)
