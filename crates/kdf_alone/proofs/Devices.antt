-- The places by number.
use Rattle.std.proofs.Common.{◌≡◌, ℕ, Bool, true, false, cond, ltb, List, map, get_or, set, Some, None, refl, sym, ap, ◌∙◌, subst}
use Rattle.std.specs.Prelude.{◌&&◌, unwrap_or}
use Rattle.std.specs.Option.{option_map}
use Rattle.std.proofs.Math.ListN.{get_or-map}
use Rattle.std.proofs.Math.Seq.{map-set_same}
use Rattle.std.proofs.lemmas.List.{map-set}
use Rattle.kdf_journal.specs.declared.kind.Kind.{Kind}
use Rattle.kdf_transfer.specs.AtOnce.{device_after, order_words, stored}
use Rattle.kdf_transfer.specs.Devices.{fixture_of, progress_of, is_kind, new_progress, kind_in}
use Rattle.kdf_transfer.specs.declared.device.Device.{Device}
use Rattle.kdf_transfer.specs.declared.order.TransferOrder.{TransferOrder}
use Rattle.kdf_processor.specs.declared.spooled.Spooled.{Spooled}
use Rattle.kdf_transfer.proofs.OfKind.{exact}
use Rattle.kdf_processor.specs.Claims.{claim, kind_at}
use Rattle.kdf_processor.specs.Effect.{Starts}
use Rattle.kdf_processor.specs.Row.{at_once, transferred, moved_by}
use Rattle.kdf_processor.specs.State.{Claims, Stock, device_in, fixture_at, pooled_or}
use Rattle.kdf_alone.specs.declared.lone_place.LonePlace.{LonePlace}
use Rattle.kdf_alone.specs.declared.lone_place.LonePlace.TheVariants.{Absent, Own, Pooled}
use Rattle.kdf_alone.specs.declared.stint.Stint.{Stint}
use Rattle.kdf_alone.specs.LonePlaces.{own_fixture_in, pool_kind_in, fixture_in, progress_in, IsMoved, IsWhole}
use Rattle.kdf_alone.specs.LonePlaces.{device_of_place}
use Rattle.kdf_alone.specs.Stints.{stint_in}

-- what a program with these places is checked against
abbrev pub claims : ℕ → Bool → List Bool → List LonePlace → Claims
claims size served claimed ps =
    record { size = size; claimed = claimed; fixtures = map own_fixture_in ps; pool = map pool_kind_in ps; served = served }

abbrev pub stock : ℕ → Bool → List Bool → List LonePlace → List Stint → List Spooled → ℕ → List ℕ → Stock
stock size served claimed ps xs texts asked words =
    record { claims = claims size served claimed ps; spooled = texts; asked = asked; stints = map stint_in xs; store = words; devices = map progress_in ps }

-- what stands at a place
pub own_is : (ps : List LonePlace) (d : ℕ) → get_or (map own_fixture_in ps) d None ≡ own_fixture_in (get_or ps d Absent)
own_is ps d = get_or-map own_fixture_in ps d Absent

pub pool_is : (ps : List LonePlace) (d : ℕ) → get_or (map pool_kind_in ps) d None ≡ pool_kind_in (get_or ps d Absent)
pool_is ps d = get_or-map pool_kind_in ps d Absent

pub fixture_is : (size : ℕ) (served : Bool) (claimed : List Bool) (ps : List LonePlace) (d : ℕ)
    → fixture_at (claims size served claimed ps) d ≡ fixture_in (get_or ps d Absent)
fixture_is size served claimed ps d = λ i. pooled_or (pool_is ps d i) (own_is ps d i)

pub progress_is : (ps : List LonePlace) (d : ℕ) → get_or (map progress_in ps) d new_progress ≡ progress_in (get_or ps d Absent)
progress_is ps d = get_or-map progress_in ps d Absent

pub kind_is : (size : ℕ) (served : Bool) (claimed : List Bool) (ps : List LonePlace) (d : ℕ)
    → kind_at (claims size served claimed ps) d ≡ kind_in (fixture_in (get_or ps d Absent))
kind_is size served claimed ps d = ap kind_in (fixture_is size served claimed ps d)

-- what the device of a place is
pub whole_fixture : (place : LonePlace) (device : Device) → IsWhole place → device_of_place place ≡ Some device → fixture_in place ≡ Some (fixture_of device)
whole_fixture place device whole e = whole ∙ ap (option_map fixture_of) e

came : (place : LonePlace) (device : Device) → device_of_place place ≡ Some device → progress_in place ≡ progress_of device
came Absent device e = absurd cc
came (Own x) device e = ap (λ o. unwrap_or (option_map progress_of o) new_progress) e
came (Pooled x) device e = ap (λ o. unwrap_or (option_map progress_of o) new_progress) e

-- places that are changed and stay the same for what is seen of them
pub seen_stays : {X : Type 0} (see : LonePlace → X) (ps : List LonePlace) (d : ℕ) (place : LonePlace) → see place ≡ see (get_or ps d Absent)
    → map see (set ps d place) ≡ map see ps
seen_stays see ps d place e = map-set_same see ps d place Absent e

-- places in which the same is seen leave what the program has
pub seen_stock : (size : ℕ) (served : Bool) (claimed : List Bool) (ps new : List LonePlace) (xs : List Stint) (texts : List Spooled) (asked : ℕ)
    (words : List ℕ)
    → map own_fixture_in new ≡ map own_fixture_in ps → map pool_kind_in new ≡ map pool_kind_in ps → map progress_in new ≡ map progress_in ps
    → stock size served claimed new xs texts asked words ≡ stock size served claimed ps xs texts asked words
seen_stock size served claimed ps new xs texts asked words own pool progress =
    λ i. record {
      claims = record { size = size; claimed = claimed; fixtures = own i; pool = pool i; served = served };
      spooled = texts;
      asked = asked;
      stints = map stint_in xs;
      store = words;
      devices = progress i;
    }

-- a transfer is done at once
pub stock_moved : (size : ℕ) (served : Bool) (claimed : List Bool) (ps : List LonePlace) (xs : List Stint) (texts : List Spooled) (asked : ℕ) (words : List ℕ)
    (d : ℕ) (order : TransferOrder) (first last : ℕ) (device : Device) (place : LonePlace) (after : List ℕ)
    → IsWhole (get_or ps d Absent) → device_of_place (get_or ps d Absent) ≡ Some device
    → own_fixture_in place ≡ own_fixture_in (get_or ps d Absent) → pool_kind_in place ≡ pool_kind_in (get_or ps d Absent)
    → IsMoved order first last device words place after
    → stock size served claimed (set ps d place) xs texts asked after ≡ at_once (Starts d order first last) (stock size served claimed ps xs texts asked words)
stock_moved size served claimed ps xs texts asked words d order first last device place after whole here own pool moved =
    let k = stock size served claimed ps xs texts asked words in
    let fixture : fixture_at k.claims d ≡ Some (fixture_of device) = fixture_is size served claimed ps d
    ∙ whole_fixture (get_or ps d Absent) device whole here in
    let progress : device_in k d ≡ progress_of device = progress_is ps d ∙ came (get_or ps d Absent) device here in
    let gone : map progress_in (set ps d place) ≡ set (map progress_in ps) d
    (device_after order first last (order_words order first last words) (fixture_of device) (device_in k d)) =
    map-set progress_in ps d place
    ∙ ap (set (map progress_in ps) d) (moved.progress ∙ ap (device_after order first last (order_words order first last words) (fixture_of device))
    (sym progress)) in
    let wrote : after ≡ stored order first last words (fixture_of device) (device_in k d) = moved.words_are
    ∙ ap (stored order first last words (fixture_of device)) (sym progress) in
    let done : stock size served claimed (set ps d place) xs texts asked after ≡ moved_by d order first last (fixture_of device) k =
    λ i. record {
      claims = record {
        size = size;
        claimed = claimed;
        fixtures = seen_stays own_fixture_in ps d place own i;
        pool =
            seen_stays pool_kind_in ps d place pool i;
        served = served;
      };
      spooled = texts;
      asked = asked;
      stints = map stint_in xs;
      store = wrote i;
      devices = gone i;
    } in
    done ∙ ap (λ f. transferred d order first last f k) (sym fixture)

present : (place : LonePlace) (kind : Kind) → kind_in (fixture_in place) ≡ Some kind → (device : Device) × (device_of_place place ≡ Some device)
present Absent kind e = absurd cc
present (Own device) kind e = (device, refl)
present (Pooled device) kind e = (device, refl)

claim_kind : (size : ℕ) (served : Bool) (claimed : List Bool) (ps : List LonePlace) (d : ℕ) (b : Bool) (kind : Kind)
    → is_kind kind (cond b (kind_at (claims size served claimed ps) d) None) ≡ true → kind_at (claims size served claimed ps) d ≡ Some kind
claim_kind size served claimed ps d true kind e = exact kind (kind_at (claims size served claimed ps) d) e
claim_kind size served claimed ps d false kind e = let h : None ≡ Some kind = exact kind None e in absurd cc

-- the kind of a device that is claimed is that of its place
pub claimed_kind : (size : ℕ) (served : Bool) (claimed : List Bool) (ps : List LonePlace) (d : ℕ) (kind : Kind)
    → is_kind kind (claim (claims size served claimed ps) d) ≡ true → kind_in (fixture_in (get_or ps d Absent)) ≡ Some kind
claimed_kind size served claimed ps d kind e = sym (kind_is size served claimed ps d)
    ∙ claim_kind size served claimed ps d (ltb d 16 && get_or claimed d false) kind e

-- where a device of a kind is claimed, there is one
pub claimed_device : (size : ℕ) (served : Bool) (claimed : List Bool) (ps : List LonePlace) (d : ℕ) (kind : Kind)
    → is_kind kind (claim (claims size served claimed ps) d) ≡ true → (device : Device) × (device_of_place (get_or ps d Absent) ≡ Some device)
claimed_device size served claimed ps d kind e = present (get_or ps d Absent) kind (claimed_kind size served claimed ps d kind e)

-- a transfer, under other names
pub moved_at : (order : TransferOrder) (first first' last last' : ℕ) (device : Device) (words words' : List ℕ) (place : LonePlace) (after after' : List ℕ)
    → first ≡ first' → last ≡ last' → words ≡ words' → after' ≡ after → IsMoved order first last device words place after
    → IsMoved order first' last' device words' place after'
moved_at order first first' last last' device words words' place after after' f l w a moved =
    subst (λ x. IsMoved order first' last' device words' place x) (sym a)
    (subst (λ x. IsMoved order first' last' device x place after) w
    (subst (λ x. IsMoved order first' x device words place after) l
    (subst (λ x. IsMoved order x last device words place after) f moved)))
