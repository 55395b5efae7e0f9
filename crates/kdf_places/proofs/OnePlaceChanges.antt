-- The places of the devices, of which one changes.
use Rattle.std.proofs.Common.{◌≡◌, ℕ, ◌<◌, ◌≤◌, List, length, get_or, map, sym, ap, ◌∙◌, ⊎_elim, arith, set, Some}
use Rattle.std.proofs.lemmas.Bool.{cases_lt}
use Rattle.std.proofs.lemmas.List.{get_or_past, get_or-map, length-map, map-set, set-get_or}
use Rattle.kdf_places.specs.declared.place.Place.{Place}
use Rattle.kdf_places.specs.declared.place.Place.TheVariants.{Absent, Busy}
use Rattle.kdf_places.specs.Spots.{spot_at, spot_of, no_spot, Spot}
use Rattle.kdf_transfer.specs.InFlight.{Motion, moved_by}
use Rattle.kdf_places.specs.Transfers.{moved_spot}

-- a place of the list, as a spot
pub spot_there : (places : List Place) (d : ℕ) → spot_at (map spot_of places) d ≡ spot_of (get_or places d Absent)
spot_there places d =
    ⊎_elim
    (λ (lt : d < length places). get_or-map spot_of places d Absent no_spot lt)
    (λ (past : length places ≤ d). get_or_past (map spot_of places) d no_spot (let e = length-map places spot_of in omega arith)
    ∙ sym (ap spot_of (get_or_past places d Absent past)))
    (cases_lt d (length places))

-- words of its transfer have moved
pub spot_moved : (p n : ℕ) (t t' : Motion) → t' ≡ moved_by n t
    → (let x : Spot = record { fixture = Some t'.fixture; progress = t'.progress; flight = Some (record { p = p; motion = t' }) } in x) ≡ moved_spot n
    (spot_of (Busy p t))
unfolding moved_by
spot_moved p n t t' is = ap (λ (m : Motion). let x : Spot =
    record { fixture = Some m.fixture; progress = m.progress; flight = Some (record { p = p; motion = m }) } in x) is

-- what was done to a place
pub set_spot : (places : List Place) (d : ℕ) (old new : Place) (f : Spot → Spot) → old ≡ get_or places d Absent → spot_of new ≡ f (spot_of old)
    → map spot_of (set places d new) ≡ set (map spot_of places) d (f (spot_at (map spot_of places) d))
set_spot places d old new f was is =
    map-set spot_of places d new
    ∙ ap (set (map spot_of places) d) (is ∙ ap f (ap spot_of was ∙ sym (spot_there places d)))

-- a place that shows the same is put back
pub same_spots : (places : List Place) (d : ℕ) (old new : Place) → old ≡ get_or places d Absent → spot_of new ≡ spot_of old
    → map spot_of (set places d new) ≡ map spot_of places
same_spots places d old new was same =
    map-set spot_of places d new
    ∙ ap (set (map spot_of places) d) (same ∙ ap spot_of was ∙ sym (spot_there places d))
    ∙ set-get_or (map spot_of places) d no_spot
