-- What the program of a turn keeps.
use Rattle.std.proofs.Common.{◌≡◌, ℕ, ◌<◌, Bool, true, false, List, [], ◌∷◌, ◌++◌, length, map, set, Option, Some, None, is_some, refl, sym, ap, ◌∙◌, subst}
use Rattle.kdf_lockout.specs.Groups.{Cells}
use Rattle.kdf_journal.specs.declared.kind.Kind.{Kind}
use Rattle.kdf_transfer.specs.Devices.{Fixture}
use Rattle.kdf_transfer.specs.declared.order.TransferOrder.{TransferOrder}
use Rattle.kdf_processor.specs.Effect.{Asks, FreeOf}
use Rattle.kdf_processor.specs.declared.spooled.Spooled.{Spooled}
use Rattle.kdf_places.specs.declared.place.Place.{Place}
use Rattle.kdf_yard.specs.declared.stint.Stint.{Stint}
use Rattle.kdf_yard.specs.declared.machine_port.MachinePort.{MachinePort}
use Rattle.kdf_yard.specs.Fields.Keeping.{IsActive, IsActiveBy, IsKept, IsKeptBy}
use Rattle.kdf_yard.specs.Fields.Parts.{Part, back_from, lent_to, part_after, part_with}
use Rattle.kdf_places.specs.Shared.{Shared, shared_in}
use Rattle.kdf_places.specs.Transfers.{start_spot}
use Rattle.kdf_places.specs.Spots.{Spot, blank_spot, fixture_or, spot_at, spot_of}
use Rattle.kdf_yard.specs.Fields.Stints.{Keeping, Lent, keeping_of, with_loan}
use Rattle.kdf_yard.specs.Fields.MachinePort.{part_of, shared}
use Rattle.kdf_yard.proofs.Physical.PoolDevices.{IsFree, IsIts, active-spooled, back_kind, given_active, given_kept, kept-cells, kept-marked, kept-same}
use Rattle.kdf_yard.proofs.Physical.PoolDevices.{kept-spooled, taken_active, taken_kept}

kept_any : (q : Part) (s : Shared) (claimed : List Bool) (spooled : List Spooled) (cells : Cells) → IsKept q s
    → IsKept (record q { claimed = claimed; spooled = spooled }) (record s { cells = cells })
kept_any q s claimed spooled cells kept =
    kept-cells (record q { claimed = claimed; spooled = spooled }) s cells
    (kept-spooled (record q { claimed = claimed }) s spooled (kept-marked q s claimed kept))

-- of its part, what keeping looks at; with its marks, what is looked at of a live program
abbrev pub unmarked : MachinePort → Part
unmarked t = part_with t.p t.window t.slot.now [] [] t.stints.now.items

abbrev pub marked : MachinePort → Part
marked t = part_with t.p t.window t.slot.now t.claimed.now [] t.stints.now.items

abbrev pub places_of : MachinePort → Shared
places_of t = shared_in [] t.places.now.items

pub kept_in : (t : MachinePort) → IsKept (part_of t) (shared t)
kept_in t = kept_any (unmarked t) (places_of t) t.claimed.now t.spooled.now.items t.store.now t.kept

pub active_in : (t : MachinePort) → IsActive (part_of t)
active_in t = active-spooled (marked t) t.spooled.now.items t.active

kept_marked : (t : MachinePort) → IsKept (marked t) (places_of t)
kept_marked t = kept_any (unmarked t) (places_of t) t.claimed.now [] [] t.kept

-- at the begin of a turn
pub kept_first : (q : Part) (s : Shared) → IsKept q s → IsKept (record q { claimed = []; spooled = [] }) (record s { cells = [] })
kept_first q s kept = kept_any q s [] [] [] kept

pub active_first : (q : Part) → IsActive q → IsActive (record q { spooled = [] })
active_first q active = active-spooled q [] active

-- over places that show so, and stints that are so
kept_over : (q : Part) (stints : List Stint) (ks : List Keeping) (places : List Place) (spots : List Spot) → map keeping_of stints ≡ ks
    → map spot_of places ≡ spots → IsKept (record q { stints = ks }) (record { cells = []; spots = spots })
    → IsKept (record q { stints = map keeping_of stints }) (shared_in [] places)
kept_over q stints ks places spots are is kept =
    subst (λ xs. IsKept (record q { stints = map keeping_of stints }) (record { cells = []; spots = xs })) (sym is)
    (subst (λ ys. IsKept (record q { stints = ys }) (record { cells = []; spots = spots })) (sym are) kept)

active_over : (q : Part) (stints : List Stint) (ks : List Keeping) → map keeping_of stints ≡ ks → IsActive (record q { stints = ks })
    → IsActive (record q { stints = map keeping_of stints })
active_over q stints ks are active = subst (λ ys. IsActive (record q { stints = ys })) (sym are) active

-- ---- a transfer of the program began

some_fixture : (o : Option Fixture) → is_some o ≡ true → Some (fixture_or o) ≡ o
some_fixture (Some f) is = refl
some_fixture None is = cc

module _ (t : MachinePort) (d : ℕ) (o : TransferOrder) (first last : ℕ) (places : List Place) (inside : d < length (map spot_of t.places.now.items))
    (shows : map spot_of places ≡ set (map spot_of t.places.now.items) d
    (start_spot t.p o first last t.store.now (spot_at (map spot_of t.places.now.items) d))) where
  abbrev begun : Spot
  begun = start_spot t.p o first last t.store.now (spot_at (map spot_of t.places.now.items) d)

  pub start_kept : is_some (spot_at (map spot_of t.places.now.items) d).fixture ≡ true → IsKeptBy t.p t.window t.slot.now t.stints.now.items places
  start_kept some =
      kept_over (unmarked t) t.stints.now.items (map keeping_of t.stints.now.items) places (set (map spot_of t.places.now.items) d begun) refl shows
      (kept-same (unmarked t) (places_of t) d begun [] inside t.kept (some_fixture (spot_at (map spot_of t.places.now.items) d).fixture some))

-- ---- it took a device of the pool

module _ (t : MachinePort) (d : ℕ) (stints : List Stint) (free : IsFree (part_of t) d)
    (are : map keeping_of stints ≡ map keeping_of t.stints.now.items ++ record { device = d; loan = Lent } ∷ []) where
  free_there : IsFree (marked t) d
  free_there = record { pooled = free.pooled; unlent = free.unlent }

  abbrev taken : List Keeping
  taken = map keeping_of t.stints.now.items ++ record { device = d; loan = Lent } ∷ []

  pub take_kept : IsKeptBy t.p t.window t.slot.now stints t.places.now.items
  take_kept =
      kept_over (unmarked t) stints taken t.places.now.items (map spot_of t.places.now.items) are refl
      (kept-marked (record (marked t) { claimed = set t.claimed.now d true; stints = taken }) (places_of t) []
      (taken_kept (marked t) (places_of t) d (kept_marked t) free_there t.active))

  pub take_active : IsActiveBy t.p t.window t.slot.now (set t.claimed.now d true) stints
  take_active =
      active_over (record (marked t) { claimed = set t.claimed.now d true }) stints taken are
      (taken_active (marked t) (places_of t) d (kept_marked t) free_there t.active)

pub take_part : (q : Part) (s : Shared) (kind : Kind) (a d : ℕ) (stints : List Keeping) → lent_to q s kind a ≡ d
    → stints ≡ q.stints ++ record { device = d; loan = Lent } ∷ [] → (let r : Part = record q { claimed = set q.claimed d true; stints = stints } in r)
    ≡ part_after q s (Asks (FreeOf kind) a)
take_part q s kind a d stints is are =
    ap (λ xs. let r : Part = record q { claimed = set q.claimed d true; stints = xs } in r) are
    ∙ ap (λ e. let r : Part = record q { claimed = set q.claimed e true; stints = q.stints ++ record { device = e; loan = Lent } ∷ [] } in r) (sym is)

-- ---- it gave one back

module _ (t : MachinePort) (d : ℕ) (stints : List Stint) (places : List Place) (inside : d < length (map spot_of t.places.now.items))
    (its : IsIts (part_of t) (shared t) d) (are : map keeping_of stints ≡ map (with_loan d (back_from (spot_at (map spot_of t.places.now.items) d)))
    (map keeping_of t.stints.now.items)) (shows : map spot_of places ≡ set (map spot_of t.places.now.items) d
    (blank_spot (spot_at (map spot_of t.places.now.items) d))) where
  its_there : IsIts (marked t) (places_of t) d
  its_there = record { pooled = its.pooled; lent = its.lent; idle = its.idle }

  abbrev given : List Keeping
  given = map (with_loan d (back_from (spot_at (map spot_of t.places.now.items) d))) (map keeping_of t.stints.now.items)

  abbrev blank_spots : List Spot
  blank_spots = set (map spot_of t.places.now.items) d (blank_spot (spot_at (map spot_of t.places.now.items) d))

  pub give_kept : IsKeptBy t.p t.window t.slot.now stints places
  give_kept =
      kept_over (unmarked t) stints given places blank_spots are shows
      (kept-marked (record (marked t) { claimed = set t.claimed.now d false; stints = given }) (record { cells = []; spots = blank_spots }) []
      (given_kept (marked t) (places_of t) d inside (kept_marked t) its_there (set t.claimed.now d false)
      (back_from (spot_at (map spot_of t.places.now.items) d)) (back_kind (marked t) (places_of t) d inside (kept_marked t) its_there) refl))

  pub give_active : IsActiveBy t.p t.window t.slot.now (set t.claimed.now d false) stints
  give_active =
      active_over (record (marked t) { claimed = set t.claimed.now d false }) stints given are
      (given_active (marked t) (places_of t) d inside (kept_marked t) its_there (set t.claimed.now d false)
      (back_from (spot_at (map spot_of t.places.now.items) d)) (back_kind (marked t) (places_of t) d inside (kept_marked t) its_there) refl refl t.active)
