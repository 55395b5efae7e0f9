-- The stints of a lone port.
use Rattle.std.specs.Prelude.{◌&&◌, HoldsAt, slice_get, unwrap_or}
use Rattle.std.specs.List.{All}
use Rattle.std.specs.Option.{option_map}
use Rattle.std.proofs.Common.{◌≡◌, ◌≢◌, ℕ, zero, suc, ◌+◌, ◌<◌, ◌≤◌, Bool, true, false, cond, eqb, ltb, List, [], ◌∷◌, ◌++◌, length, get_or, map, set, Option}
use Rattle.std.proofs.Common.{Some, None, is_some, refl, sym, ap, ap₂, ◌∙◌, subst, ⊎_elim, arith}
use Rattle.std.proofs.Math.ListN.{get_or-map}
use Rattle.std.proofs.lemmas.Bool.{and_parts, cases_Bool, cases_eq, cases_lt, eq-eqb, eqb-true, false≢true, ne_eqb}
use Rattle.std.proofs.lemmas.Bool.Decides.{nat_tests}
use Rattle.std.proofs.lemmas.List.{get_or_past, length-map, map-append}
use Rattle.std.proofs.lemmas.Option.{slice_get-get_or}
use Rattle.std.proofs.lemmas.List.Elements.{All-head, All-map, All-tail}
use Rattle.kdf_journal.specs.declared.kind.Kind.{Kind}
use Rattle.kdf_journal.specs.declared.kind.Kind.TheVariants.{Tp}
use Rattle.kdf_transfer.specs.Devices.{DeviceProgress, blank_fixture, is_kind, fixture_of, progress_of}
use Rattle.kdf_transfer.specs.declared.device.Device.{Device}
use Rattle.kdf_processor.specs.declared.registers.Registers.{Registers}
use Rattle.kdf_processor.specs.declared.spooled.Spooled.{Spooled}
use Rattle.kdf_transfer.specs.AtOnce.{kind_of}
use Rattle.kdf_transfer.specs.declared.order.TransferOrder.{TransferOrder}
use Rattle.kdf_processor.specs.Claims.{claim, is_claimed, kind_at, may_take, taken_device}
use Rattle.kdf_processor.specs.Effect.{Asks, FreeOf, Releases, Starts}
use Rattle.kdf_processor.specs.Row.{at_once, handed, released}
use Rattle.kdf_processor.proofs.Lending.{mark_of, moved_lent, own_lent, pool_lent, taken_lent}
use Rattle.kdf_processor.proofs.Stinting.{taken_can}
use Rattle.kdf_processor.specs.State as state
use Rattle.kdf_processor.specs.State.{Lending, State, Stock, device_in, fixture_at, is_pooled, lending_of, lendings, new_registers}
use Rattle.kdf_processor.specs.Stints.{IsLent, IsStint}
use Rattle.kdf_alone.specs.declared.lone_place.LonePlace.{LonePlace}
use Rattle.kdf_alone.specs.declared.lone_place.LonePlace.TheVariants.{Absent, Pooled}
use Rattle.kdf_alone.specs.declared.stint.Stint.{Stint}
use Rattle.kdf_alone.specs.LonePlaces.{own_fixture_in, pool_kind_in, progress_in, IsWhole}
use Rattle.kdf_alone.specs.Stints.{ended, lent_stock, stint_in, AreLent, HaveOneOpen, IsKept, IsOpen, IsUnlent}
use Rattle.kdf_alone.proofs.Devices.{claims, pool_is, progress_is, stock}
use Rattle.kdf_alone.proofs.Takings.{taken_again}

-- ---- what holds of the places, the marks and the stints holds of all that a program has, and the other way round

pub whole_lent : (r : Registers) (size : ℕ) (served : Bool) (claimed : List Bool) (ps : List LonePlace) (xs : List Stint) (texts : List Spooled) (asked : ℕ)
    (words : List ℕ)
    → AreLent ps claimed xs → IsLent (record { registers = r; stock = stock size served claimed ps xs texts asked words })
whole_lent r size served claimed ps xs texts asked words lent =
    record { places = lent.places; marks = lent.marks; few = lent.few; fresh = lent.fresh; pooled = lent.pooled; held = lent.held; one = lent.one }

pub part_lent : (r : Registers) (size : ℕ) (served : Bool) (claimed : List Bool) (ps : List LonePlace) (xs : List Stint) (texts : List Spooled) (asked : ℕ)
    (words : List ℕ)
    → IsLent (record { registers = r; stock = stock size served claimed ps xs texts asked words }) → AreLent ps claimed xs
part_lent r size served claimed ps xs texts asked words lent =
    record { places = lent.places; marks = lent.marks; few = lent.few; fresh = lent.fresh; pooled = lent.pooled; held = lent.held; one = lent.one }

-- so where that is what an act leaves
pub left_lent : (size : ℕ) (served : Bool) (claimed : List Bool) (ps : List LonePlace) (xs : List Stint) (texts : List Spooled) (asked : ℕ) (words : List ℕ)
    (k : Stock)
    → stock size served claimed ps xs texts asked words ≡ k → IsLent (record { registers = new_registers; stock = k }) → AreLent ps claimed xs
left_lent size served claimed ps xs texts asked words k is lent =
    let Q : Stock → Type 0 = λ k'. IsLent (record { registers = new_registers; stock = k' }) in
    part_lent new_registers size served claimed ps xs texts asked words (subst Q (sym is) lent)

module _ (size : ℕ) (served : Bool) (claimed : List Bool) (ps : List LonePlace) (xs : List Stint) (texts : List Spooled) (asked : ℕ) (words : List ℕ)
    (lent : AreLent ps claimed xs) where
  abbrev k : Stock
  k = stock size served claimed ps xs texts asked words

  abbrev s : State
  s = record { registers = new_registers; stock = k }

  all_lent : IsLent s
  all_lent = whole_lent new_registers size served claimed ps xs texts asked words lent

  pub stays_lent : (ps' : List LonePlace) → stock size served claimed ps' xs texts asked words ≡ k → AreLent ps' claimed xs
  stays_lent ps' is = left_lent size served claimed ps' xs texts asked words k is all_lent

  -- a transfer on a device that is claimed
  pub start_lent : (ps' : List LonePlace) (words' : List ℕ) (d : ℕ) (o : TransferOrder) (first last : ℕ) → is_kind (kind_of o) (claim k.claims d) ≡ true
      → stock size served claimed ps' xs texts asked words' ≡ at_once (Starts d o first last) k → AreLent ps' claimed xs
  start_lent ps' words' d o first last is left =
      left_lent size served claimed ps' xs texts asked words' (at_once (Starts d o first last) k) left
      (moved_lent s all_lent new_registers d o first last (fixture_at k.claims d) (mark_of k.claims d (kind_of o) is))

  -- a device of the pool is taken
  pub take_lent : (claimed' : List Bool) (xs' : List Stint) (asked' : ℕ) (kind : Kind) (a : ℕ) → may_take k.claims kind ≡ true
      → stock size served claimed' ps xs' texts asked' words ≡ at_once (Asks (FreeOf kind) a) k → AreLent ps claimed' xs'
  take_lent claimed' xs' asked' kind a may left =
      left_lent size served claimed' ps xs' texts asked' words (at_once (Asks (FreeOf kind) a) k) left
      (taken_lent s all_lent new_registers kind a (taken_can k.claims kind a may))

  released_lent : (d : ℕ) (pooled : Bool) → is_pooled k.claims d ≡ pooled → IsLent (record { registers = new_registers; stock = released pooled d k })
  released_lent d true is = pool_lent s all_lent new_registers d is
  released_lent d false is = own_lent s all_lent new_registers d is

  -- a device is given back
  pub give_lent : (claimed' : List Bool) (ps' : List LonePlace) (xs' : List Stint) (d : ℕ)
      → stock size served claimed' ps' xs' texts asked words ≡ at_once (Releases (is_pooled k.claims d) d) k → AreLent ps' claimed' xs'
  give_lent claimed' ps' xs' d left =
      left_lent size served claimed' ps' xs' texts asked words (at_once (Releases (is_pooled k.claims d) d) k) left
      (released_lent d (is_pooled k.claims d) refl)

-- ---- a device of the pool is given back

-- a stint of another device, or one that is over, stays
ended_shut : (d : ℕ) (device : Device) (e : ℕ) (left : Option Device) → ((e ≡ d) × (left ≡ None) → ⊥)
    → ended d device (record { d = e; left = left }) ≡ record { d = e; left = left }
ended_shut d device e (Some other) shut =
    ⊎_elim
    (λ (is : eqb e d ≡ true). rw is refl)
    (λ (no : eqb e d ≡ false). rw no refl)
    (cases_Bool (eqb e d))
ended_shut d device e None shut =
    ⊎_elim
    (λ (same : e ≡ d). absurd (shut (same, refl)))
    (λ (other : e ≢ d). rw (ne_eqb e d other) refl)
    (cases_eq e d)

ended_open : (d : ℕ) (device : Device) (e : ℕ) (left : Option Device) → e ≡ d → left ≡ None
    → ended d device (record { d = e; left = left }) ≡ record { d = e; left = Some device }
ended_open d device e None same unfinished = rw (eq-eqb e d same) refl
ended_open d device e (Some other) same unfinished = absurd cc

-- with none open, all stay
pub ended_none : (d : ℕ) (device : Device) (xs : List Stint) → All (λ x. IsOpen d x → ⊥) xs → map (ended d device) xs ≡ xs
ended_none d device [] none = refl
ended_none d device (x ∷ xs) none =
    ap₂ (λ y ys. y ∷ ys) (ended_shut d device x.d x.left (All-head (λ y. IsOpen d y → ⊥) x xs none))
    (ended_none d device xs (All-tail (λ y. IsOpen d y → ⊥) x xs none))

abbrev AreApart : state.StintState → state.StintState → Type 0
AreApart x y = x.left ≡ None → y.left ≡ None → x.device ≢ y.device

is_shut : (left : Option Device) → left ≡ None → option_map progress_of left ≡ None
is_shut left unfinished = ap (option_map progress_of) unfinished

one_tail : (x : Stint) (xs : List Stint) → HaveOneOpen (x ∷ xs) → HaveOneOpen xs
one_tail x xs one = λ i j y less inside. one (suc i) (suc j) y (omega arith) (omega arith)

one_head : (x : Stint) (xs : List Stint) → HaveOneOpen (x ∷ xs) → (j : ℕ) (y : Stint) → j < length xs → AreApart (stint_in x) (stint_in (get_or xs j y))
one_head x xs one j y inside = subst (AreApart (stint_in x)) (get_or-map stint_in xs j y)
    (one zero (suc j) (stint_in y) (omega arith) (let n = length-map xs stint_in in omega arith))

-- one that is open is the one that ends
pub ended_at : (d : ℕ) (device : Device) (xs : List Stint) (i : ℕ) (y : Stint) → i < length xs → IsOpen d (get_or xs i y) → HaveOneOpen xs
    → map (ended d device) xs ≡ set xs i (record (get_or xs i y) { left = Some device })
ended_at d device [] i y inside open_ one = absurd (omega arith)
ended_at d device (x ∷ xs) zero y inside open_ one =
    ap₂ (λ z zs. z ∷ zs)
    (ended_open d device x.d x.left open_.0 open_.1)
    (ended_none d device xs (λ j z lt is. one_head x xs one j z lt (is_shut x.left open_.1) (is_shut (get_or xs j z).left is.1) (open_.0 ∙ sym is.0)))
ended_at d device (x ∷ xs) (suc i) y inside open_ one =
    ap₂ (λ z zs. z ∷ zs)
    (ended_shut d device x.d x.left (λ is. one_head x xs one i y (omega arith) (is_shut x.left is.1) (is_shut (get_or xs i y).left open_.1)
    (is.0 ∙ sym open_.0)))
    (ended_at d device xs i y (omega arith) open_ (one_tail x xs one))

-- so where it is known by another name
pub ends_at : (d : ℕ) (device : Device) (xs : List Stint) (i : ℕ) (x y : Stint) → HaveOneOpen xs → i < length xs → HoldsAt (IsOpen d) xs i → x ≡ get_or xs i y
    → set xs i (record x { left = Some device }) ≡ map (ended d device) xs
ends_at d device xs i x y one inside unfinished is =
    ap (λ z. set xs i (let w : Stint = record z { left = Some device } in w)) is ∙ sym (ended_at d device xs i y inside (unfinished y) one)

-- so as a state has them
ended_in : (d : ℕ) (device : Device) (p : DeviceProgress) (e : ℕ) (left : Option Device) → progress_of device ≡ p
    → stint_in (ended d device (record { d = e; left = left })) ≡ handed d p (stint_in (record { d = e; left = left }))
ended_in d device p e (Some other) came =
    ⊎_elim
    (λ (is : eqb e d ≡ true). rw is refl)
    (λ (no : eqb e d ≡ false). rw no refl)
    (cases_Bool (eqb e d))
ended_in d device p e None came =
    ⊎_elim
    (λ (is : eqb e d ≡ true). rw is (ap (λ q. (let x : state.StintState = record { device = e; left = Some q } in x)) came))
    (λ (no : eqb e d ≡ false). rw no refl)
    (cases_Bool (eqb e d))

pub all_ended : (d : ℕ) (device : Device) (p : DeviceProgress) (xs : List Stint) → progress_of device ≡ p
    → map stint_in (map (ended d device) xs) ≡ map (handed d p) (map stint_in xs)
all_ended d device p [] came = refl
all_ended d device p (x ∷ xs) came = ap₂ (λ y ys. y ∷ ys) (ended_in d device p x.d x.left came) (all_ended d device p xs came)

-- and each that is over has kept a device of the pool
kept_one : (pool : List (Option Kind)) (d : ℕ) (device : Device) (e : ℕ) (left : Option Device) → IsKept pool (record { d = d; left = Some device })
    → IsKept pool (record { d = e; left = left }) → IsKept pool (ended d device (record { d = e; left = left }))
kept_one pool d device e (Some other) new old =
    ⊎_elim
    (λ (is : eqb e d ≡ true). rw is old)
    (λ (no : eqb e d ≡ false). rw no old)
    (cases_Bool (eqb e d))
kept_one pool d device e None new old =
    ⊎_elim
    (λ (is : eqb e d ≡ true).
    let same : e ≡ d = eqb-true e d is in
    rw is (rw same new))
    (λ (no : eqb e d ≡ false). rw no old)
    (cases_Bool (eqb e d))

pub ended_kept : (pool : List (Option Kind)) (d : ℕ) (device : Device) (xs : List Stint) → IsKept pool (record { d = d; left = Some device })
    → All (IsKept pool) xs → All (IsKept pool) (map (ended d device) xs)
ended_kept pool d device xs new kept = All-map (IsKept pool) (ended d device) xs
    (λ i x lt. kept_one pool d device (get_or xs i x).d (get_or xs i x).left new (kept i x lt))

-- what a stint keeps that is over is a device of the pool
pub kept_device : (ps : List LonePlace) (d : ℕ) (device : Device) → get_or ps d Absent ≡ Pooled device → IsWhole (get_or ps d Absent)
    → IsKept (map pool_kind_in ps) (record { d = d; left = Some device })
kept_device ps d device is whole =
    let Q : LonePlace → Type 0 = IsWhole in
    sym (subst Q is whole) ∙ ap (λ (o : Option Kind). Some (blank_fixture (unwrap_or o Tp))) (sym (pool_is ps d ∙ ap pool_kind_in is))

-- ---- at the start

nothing : {X : Type 0} (P : X → Type 0) (xs : List X) → xs ≡ [] → All P xs
nothing P xs none i d inside = absurd (let n = ap length none in omega arith)

-- no stint has begun, and no device of the pool has moved anything
pub begun_lent : (ps : List LonePlace) (claimed : List Bool) (xs : List Stint) → length ps ≡ 16 → length claimed ≡ 16 → All IsUnlent ps → xs ≡ []
    → AreLent ps claimed xs
begun_lent ps claimed xs places marks unlent none =
    record {
      places = length-map ps progress_in ∙ places;
      marks = marks;
      few = few;
      fresh = λ d pooled free. progress_is ps d ∙ unlent d Absent (omega (arith, few d pooled)) (ap is_some (sym (pool_is ps d)) ∙ pooled);
      pooled = nothing (λ (x : state.StintState). is_pooled (lent_stock ps claimed xs).claims x.device ≡ true) (map stint_in xs) (ap (map stint_in) none);
      held = nothing (λ (x : state.StintState). x.left ≡ None → get_or claimed x.device false ≡ true) (map stint_in xs) (ap (map stint_in) none);
      one = λ i j d less inside. absurd (let n = ap (λ ys. length (map stint_in ys)) none in omega arith);
    }
  where
    few : (d : ℕ) → is_some (get_or (map pool_kind_in ps) d None) ≡ true → d < 16
    few d pooled =
        ⊎_elim
        (λ (low : d < 16). low)
        (λ (high : 16 ≤ d). absurd (false≢true (sym (ap is_some (get_or_past (map pool_kind_in ps) d None (omega (arith, length-map ps pool_kind_in))))
        ∙ pooled)))
        (cases_lt d 16)

-- ---- a stint as it is told

-- the number of stints
pub count_lent : (k : Stock) (xs : List Stint) → k.stints ≡ map stint_in xs → length (lendings k) ≡ length xs
unfolding lendings
count_lent k xs is = length-map k.stints (lending_of k) ∙ ap length is ∙ length-map xs stint_in

-- the stint at a place
pub stint_lent : (see : state.StintState → Lending) (xs : List Stint) (i : ℕ) (x : Stint) → i < length xs → x ≡ get_or xs i x
    → slice_get (map see (map stint_in xs)) i ≡ Some (see (stint_in x))
stint_lent see xs i x inside here =
    let m = length-map xs stint_in in
    let n = length-map (map stint_in xs) see in
    slice_get-get_or (map see (map stint_in xs)) i (see (stint_in x)) (omega arith)
    ∙ ap (λ y. Some y) (get_or-map see (map stint_in xs) i (stint_in x) ∙ ap see (get_or-map stint_in xs i x ∙ ap stint_in (sym here)))

some_same : {X : Type 0} (x y : X) → Some x ≡ Some y → x ≡ y
some_same x y e = cc

-- a stint is of a number of the pool
pub pooled_number : (ps : List LonePlace) (claimed : List Bool) (xs : List Stint) (i : ℕ) (x : Stint) → AreLent ps claimed xs → i < length xs
    → x ≡ get_or xs i x
    → is_some (get_or (map pool_kind_in ps) x.d None) ≡ true
pooled_number ps claimed xs i x lent inside here =
    let n = length-map xs stint_in in
    let Q : state.StintState → Type 0 = λ y. is_some (get_or (map pool_kind_in ps) y.device None) ≡ true in
    subst Q (get_or-map stint_in xs i x ∙ ap stint_in (sym here)) (lent.pooled i (stint_in x) (omega arith))

-- one that was given back
pub told_given : (k : Stock) (x : Stint) (device : Device) → x.left ≡ Some device → IsKept k.claims.pool x → IsStint (lending_of k (stint_in x)) x.d true device
told_given k x device is kept =
    let blank = blank_fixture (unwrap_or (get_or k.claims.pool x.d None) Tp) in
    record {
      number = refl;
      given = sym (ap (λ (o : Option Device). is_some (option_map progress_of o)) is);
      fixture = some_same (fixture_of device) blank (sym (ap (option_map fixture_of) is) ∙ kept ∙ ap (option_map (λ _. blank)) is);
      progress = sym (ap (λ (o : Option Device). unwrap_or (option_map progress_of o) (device_in k x.d)) is);
    }

-- and one that wasn't
pub told_held : (size : ℕ) (served : Bool) (claimed : List Bool) (ps : List LonePlace) (xs : List Stint) (texts : List Spooled) (asked : ℕ) (words : List ℕ)
    (x : Stint) (device : Device)
    → x.left ≡ None → get_or ps x.d Absent ≡ Pooled device → IsWhole (get_or ps x.d Absent)
    → IsStint (lending_of (stock size served claimed ps xs texts asked words) (stint_in x)) x.d false device
told_held size served claimed ps xs texts asked words x device none is whole =
    let k = stock size served claimed ps xs texts asked words in
    record {
      number = refl;
      given = sym (ap (λ (o : Option Device). is_some (option_map progress_of o)) none);
      fixture = some_same (fixture_of device) (blank_fixture (unwrap_or (get_or (map pool_kind_in ps) x.d None) Tp)) (kept_device ps x.d device is whole);
      progress = sym (ap (λ (o : Option Device). unwrap_or (option_map progress_of o) (device_in k x.d)) none ∙ progress_is ps x.d ∙ ap progress_in is);
    }

-- ---- a device of the pool is taken

pub stock_taken : (size : ℕ) (served : Bool) (claimed : List Bool) (ps : List LonePlace) (xs ys : List Stint) (texts : List Spooled) (asked : ℕ)
    (words : List ℕ)
    (kind : Kind) (a d n : ℕ)
    → may_take (claims size served claimed ps) kind ≡ true → d ≡ taken_device (claims size served claimed ps) kind a → n ≡ d
    → ys ≡ xs ++ record { d = d; left = None } ∷ []
    → stock size served (set claimed n true) ps ys texts (asked + 1) words ≡ at_once (Asks (FreeOf kind) (taken_device (claims size served claimed ps) kind a))
    (stock size served claimed ps xs texts asked words)
stock_taken size served claimed ps xs ys texts asked words kind a d n may is same pushed =
    let c = claims size served claimed ps in
    let e : ℕ = taken_device c kind (taken_device c kind a) in
    let number : d ≡ e = is ∙ sym (taken_again c kind a may) in
    let mark : n ≡ e = same ∙ number in
    let more : map stint_in ys ≡ map stint_in xs ++ record { device = e; left = None } ∷ [] =
    ap (map stint_in) pushed ∙ map-append stint_in xs (record { d = d; left = None } ∷ [])
    ∙ ap (λ m. map stint_in xs ++ (let x : state.StintState = record { device = m; left = None } in x) ∷ []) number in
    λ i. record {
      claims = record { size = size; claimed = set claimed (mark i) true; fixtures = map own_fixture_in ps; pool = map pool_kind_in ps; served = served };
      spooled = texts;
      asked = asked + 1;
      stints = more i;
      store = words;
      devices = map progress_in ps;
    }

-- a device that is claimed has a place
marked : (b : Bool) (o : Option Kind) → is_some (cond b o None) ≡ true → b ≡ true
marked true o is = refl
marked false o is = cc

pub claimed_low : (c : state.Claims) (d : ℕ) → is_claimed c d ≡ true → d < 16
claimed_low c d is =
    let mark = (and_parts (ltb d 16) (get_or c.claimed d false) (marked (ltb d 16 && get_or c.claimed d false) (kind_at c d) is)).0 in
    grind (arith, nat_tests)
