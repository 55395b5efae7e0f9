-- A device is given back.
use Rattle.std.specs.List.{All}
use Rattle.std.proofs.Common.{◌≡◌, ℕ, ◌<◌, Bool, true, false, List, length, get_or, map, set, None, is_some, sym, ap, ◌∙◌, subst}
use Rattle.std.proofs.lemmas.List.{get_or_default, map-set}
use Rattle.std.proofs.lemmas.List.Elements.{All-get_or, All-set}
use Rattle.kdf_transfer.specs.Devices.{new_progress, progress_of}
use Rattle.kdf_transfer.specs.declared.device.Device.{Device}
use Rattle.kdf_processor.specs.declared.spooled.Spooled.{Spooled}
use Rattle.kdf_processor.specs.Effect.{Releases}
use Rattle.kdf_processor.specs.Row.{at_once, released}
use Rattle.kdf_processor.specs.State.{Stock, device_in, is_pooled}
use Rattle.kdf_alone.specs.declared.lone_place.LonePlace.{LonePlace}
use Rattle.kdf_alone.specs.declared.lone_place.LonePlace.TheVariants.{Absent, Pooled}
use Rattle.kdf_alone.specs.declared.stint.Stint.{Stint}
use Rattle.kdf_alone.specs.LonePlaces.{own_fixture_in, pool_kind_in, progress_in, IsWhole}
use Rattle.kdf_alone.specs.Stints.{ended, stint_in, AreLent, IsKept}
use Rattle.kdf_alone.proofs.Devices.{pool_is, progress_is, seen_stays, stock}
use Rattle.kdf_alone.proofs.Stints.{all_ended, ended_kept, give_lent, kept_device}

-- at its place, whose number is known by another name too, stands something of the same kind
module _ (size : ℕ) (served : Bool) (claimed : List Bool) (ps : List LonePlace) (xs : List Stint) (texts : List Spooled) (asked : ℕ) (words : List ℕ) (d n : ℕ)
    (same : n ≡ d) (low : n < length ps)
    (was place : LonePlace) (at : was ≡ get_or ps n was) (own : own_fixture_in place ≡ own_fixture_in was) (kind : pool_kind_in place ≡ pool_kind_in was) where
  abbrev before : Stock
  before = stock size served claimed ps xs texts asked words

  there : was ≡ get_or ps n Absent
  there = at ∙ get_or_default ps n was Absent low

  here : was ≡ get_or ps d Absent
  here = there ∙ ap (λ m. get_or ps m Absent) same

  fixtures : map own_fixture_in (set ps n place) ≡ map own_fixture_in ps
  fixtures = seen_stays own_fixture_in ps n place (own ∙ ap own_fixture_in there)

  kinds : map pool_kind_in (set ps n place) ≡ map pool_kind_in ps
  kinds = seen_stays pool_kind_in ps n place (kind ∙ ap pool_kind_in there)

  -- all places are whole
  pub whole_given : (IsWhole was → IsWhole place) → All IsWhole ps → All IsWhole (set ps n place)
  whole_given stays whole = All-set IsWhole ps n place (stays (subst IsWhole (sym there) (All-get_or IsWhole ps n Absent low whole))) whole

  -- and what the stints keep is of the pool
  pub kept_given : (ys : List Stint) → All (IsKept (map pool_kind_in ps)) ys → All (IsKept (map pool_kind_in (set ps n place))) ys
  kept_given ys kept = let Q : List _ → Type 0 = λ pool. All (IsKept pool) ys in subst Q (sym kinds) kept

  -- one of the program's own
  pub own_given : (pool_kind_in was ≡ None) × (place ≡ was) → stock size served (set claimed n false) (set ps n place) xs texts asked words
      ≡ at_once (Releases (is_pooled before.claims d) d) before
  own_given is =
      let came : map progress_in (set ps n place) ≡ map progress_in ps = seen_stays progress_in ps n place (ap progress_in (is.1 ∙ there)) in
      let done : stock size served (set claimed n false) (set ps n place) xs texts asked words ≡ released false d before =
      λ i. record {
        claims = record { size = size; claimed = set claimed (same i) false; fixtures = fixtures i; pool = kinds i; served = served };
        spooled = texts;
        asked = asked;
        stints = map stint_in xs;
        store = words;
        devices = came i;
      } in
      done ∙ ap (λ b. released b d before) (sym (ap is_some (pool_is ps d ∙ ap pool_kind_in (sym here) ∙ is.0)))

  pub own_lent : (pool_kind_in was ≡ None) × (place ≡ was) → AreLent ps claimed xs → AreLent (set ps n place) (set claimed n false) xs
  own_lent is lent = give_lent size served claimed ps xs texts asked words lent (set claimed n false) (set ps n place) xs d (own_given is)

  -- one of the pool
  module _ (device : Device) (is : (was ≡ Pooled device) × (progress_in place ≡ new_progress)) (ys : List Stint) (ends : ys ≡ map (ended d device) xs) where
    held : get_or ps d Absent ≡ Pooled device
    held = sym here ∙ is.0

    pub pooled_given : stock size served (set claimed n false) (set ps n place) ys texts asked words ≡ at_once (Releases (is_pooled before.claims d) d) before
    pooled_given =
        let came : progress_of device ≡ device_in before d = sym (progress_is ps d ∙ ap progress_in held) in
        let gone : map progress_in (set ps n place) ≡ set (map progress_in ps) d new_progress =
        map-set progress_in ps n place ∙ ap (set (map progress_in ps) n) is.1 ∙ ap (λ m. set (map progress_in ps) m new_progress) same in
        let over = ap (map stint_in) ends ∙ all_ended d device (device_in before d) xs came in
        let done : stock size served (set claimed n false) (set ps n place) ys texts asked words ≡ released true d before =
        λ i. record {
          claims = record { size = size; claimed = set claimed (same i) false; fixtures = fixtures i; pool = kinds i; served = served };
          spooled = texts;
          asked = asked;
          stints = over i;
          store = words;
          devices = gone i;
        } in
        done ∙ ap (λ b. released b d before) (sym (ap is_some (pool_is ps d ∙ ap pool_kind_in held)))

    pub pooled_lent : AreLent ps claimed xs → AreLent (set ps n place) (set claimed n false) ys
    pooled_lent lent = give_lent size served claimed ps xs texts asked words lent (set claimed n false) (set ps n place) ys d pooled_given

    pub pooled_kept : All IsWhole ps → All (IsKept (map pool_kind_in ps)) xs → All (IsKept (map pool_kind_in (set ps n place))) ys
    pooled_kept whole kept =
        let new = kept_device ps d device held (subst IsWhole (there ∙ ap (λ m. get_or ps m Absent) same)
        (subst IsWhole (sym there) (All-get_or IsWhole ps n Absent low whole))) in
        let Q : List Stint → Type 0 = All (IsKept (map pool_kind_in ps)) in
        kept_given ys (subst Q (sym ends) (ended_kept (map pool_kind_in ps) d device xs new kept))
