-- Places that are loaded one after the other.
use Rattle.std.proofs.Common.{◌≡◌, ℕ, zero, suc, List, [], ◌∷◌, get_or, map, Option, Some, None, refl, ap, ◌∙◌}
use Rattle.std.specs.List.{range_with_len}
use Rattle.kdf_transfer.specs.declared.device.Device.{Device}
use Rattle.kdf_places.specs.declared.place.Place.TheVariants.{Absent}
use Rattle.kdf_yard.specs.Fields.Filled.{idle_place, idle_ring}
use Rattle.kdf_places.specs.Spots.{ring_in, AreDry}

abbrev nil : List ℕ
nil = []

ring_at : (idle : List (Option (Device × List ℕ))) (d : ℕ) → ring_in (get_or (map idle_place idle) d Absent) ≡ get_or (map idle_ring idle) d nil
ring_at [] d = refl
ring_at (None ∷ xs) zero = refl
ring_at (Some x ∷ xs) zero = refl
ring_at (x ∷ xs) (suc d) = ring_at xs d

nil_at : (ns : List ℕ) (d : ℕ) → get_or (map (λ _. nil) ns) d nil ≡ nil
nil_at [] d = refl
nil_at (n ∷ ns) zero = refl
nil_at (n ∷ ns) (suc d) = nil_at ns d

pub dry_is : (idle : List (Option (Device × List ℕ))) → map idle_ring idle ≡ map (λ _. nil) (range_with_len 0 16) → AreDry (map idle_place idle)
dry_is idle rings d = ring_at idle d ∙ ap (λ rs. get_or rs d nil) rings ∙ nil_at (range_with_len 0 16) d
