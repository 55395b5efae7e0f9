-- The next order of a program is tried.
use Rattle.std.specs.Prelude.{not, unwrap_or}
use Rattle.std.specs.List.{range_with_len}
use Rattle.std.proofs.Common.{◌≡◌, ◌≢◌, ℕ, ◌+◌, ◌*◌, ◌/◌, ◌%◌, ◌<◌, ◌≤◌, ◌⊎◌, inl, inr, ◌&&◌, ◌||◌, Bool, true, false, List, [], ◌∷◌, ◌++◌, length, get_or, set}
use Rattle.std.proofs.Common.{Option, Some, None, is_some, cond, eqb, ltb, refl, sym, ap, ◌∙◌, subst, ⊎_elim, arith}
use Rattle.std.proofs.lemmas.Bool.{and_from, and_parts, cases_Bool, cases_eq, cases_lt, or_parts, or_right}
use Rattle.kdf_journal.specs.declared.kind.Kind.{Kind}
use Rattle.kdf_lockout.specs.Groups.{Cells, is_out, with_word}
use Rattle.kdf_transfer.specs.Devices.{Fixture, is_kind, new_progress}
use Rattle.kdf_transfer.specs.declared.order.TransferOrder.{TransferOrder}
use Rattle.kdf_transfer.specs.AtOnce.{kind_of, has_area}
use Rattle.kdf_transfer.proofs.Numbers.{number_past}
use Rattle.kdf_theory.specs.Seen.{begun}
use Rattle.kdf_transfer.specs.ByNumber.{device_count}
use Rattle.kdf_journal.specs.declared.need.Need.TheVariants.{Group, Device, Pool}
use Rattle.kdf_processor.specs.declared.registers.Registers.{Registers}
use Rattle.kdf_processor.specs.declared.spooled.Spooled.{Spooled}
use Rattle.kdf_processor.specs.Claims.{can_take, kind_at, least_pooled}
use Rattle.kdf_processor.specs.State.{own_fixture_at}
use Rattle.kdf_processor.specs.Effect.{Effect, Claiming, Keeping, Starting, FreeOf, Asking, Returning, Spooling}
use Rattle.kdf_processor.specs.Needs.{effect_needs}
use Rattle.kdf_processor.specs.Outcome.{done}
use Rattle.kdf_processor.specs.View.{first_pending}
use Rattle.kdf_processor.proofs.Fit.{found}
use Rattle.kdf_theory.proofs.Seen.EffectsChecked.{IsLawful}
use Rattle.kdf_yard.specs.Fields.Keeping.{IsActive, IsKept}
use Rattle.kdf_places.specs.Spots.{Spot, blank_spot, fixture_or, no_spot, spot_at}
use Rattle.kdf_yard.specs.Fields.Parts.{Part, back_from, has_device, in_pool, lent_to, own_fixture, own_stock, own_claims, own_text, part_after, asked_after}
use Rattle.kdf_theory.specs.Loading.{owns}
use Rattle.kdf_places.specs.Shared.{Shared, IsSound}
use Rattle.kdf_yard.specs.Fields.Shared.{Setting, view, is_free_in, free_in, is_out_of, after_act}
use Rattle.kdf_places.specs.Transfers.{start_cells, start_spot, IsFreeArea}
use Rattle.kdf_yard.proofs.Physical.OrdersAct.{writes_own, writes_other, starts_own}
use Rattle.kdf_yard.proofs.Physical.GroupsKept.{sound-writes, sound-starts}
use Rattle.kdf_yard.proofs.Physical.StintsChange.{and_none, lends_push, lends_there}
use Rattle.kdf_yard.proofs.Physical.PoolDevices.{IsFree, IsIts, active-marked, active-spooled, emptied, giver, gone_active, gone_from, gone_inside, taker}
use Rattle.kdf_yard.proofs.Physical.PoolDevices.{gone_kept, gone_kind, gone_other, gone_other_kept, gone_own, gone_sound, has_it, has_pooled, kept-cells}
use Rattle.kdf_yard.proofs.Physical.PoolDevices.{kept-marked, kept-same, kept-spooled, taken_active, taken_elsewhere, taken_kept, taken_own, taken_there}
use Rattle.kdf_yard.proofs.Physical.PartsShow.{claim_fixture, claim_has, claim_small, claimed_has, none_kind, own_is, owned_some}
use Rattle.kdf_yard.proofs.Physical.PlacesAlike.{same_at}
use Rattle.kdf_yard.specs.Fields.Stints.{lends}
use Rattle.std.proofs.lemmas.List.{get_or-set_other, get_or-set_same}
use Rattle.kdf_yard.proofs.Physical.TransfersBegin.{free_start, free_area, free_groups}

-- what is known of the part of a live program: its window lies in the store, it keeps what it has, and a device of the
-- pool that isn't taken is none that it has, and has moved nothing
pub record IsPart (q : Part) (t : Setting) (s : Shared) : Type 0 where
  pub at_group : q.base % 32 ≡ 0
  pub in_store : q.base + q.size ≤ 32 * length s.cells
  pub kept : IsKept q s
  pub active : IsActive q
  pub untaken : (d : ℕ) → in_pool q d ≡ true → t.taken d ≡ false → (lends q.stints d ≡ false) × ((spot_at s.spots d).progress ≡ new_progress)

-- and of another program
pub record IsOther (q x : Part) (s : Shared) : Type 0 where
  pub apart : (q.base + q.size ≤ x.base) ⊎ (x.base + x.size ≤ q.base)
  pub kept : IsKept x s
  pub not_its : (d : ℕ) → has_device q d ≡ true → has_device x d ≡ false

idle_of : {X : Type 0} (o : Option X) → is_some o ≡ false → o ≡ None
idle_of None h = refl
idle_of (Some x) h = cc

-- a group that isn't pending is here
here_of : (q : Part) (t : Setting) (s : Shared) (a : ℕ) → q.base % 32 ≡ 0 → first_pending (view q t s) (Group (a / 32) ∷ []) ≡ None
    → is_out s.cells ((q.base + a) / 32) ≡ false
here_of q t s a at none =
    let e : (q.base + a) / 32 ≡ q.base / 32 + a / 32 = omega arith in
    ap (is_out s.cells) e
    ∙ ⊎_elim
    (λ (is : is_out s.cells (q.base / 32 + a / 32) ≡ true). cc (sym (ap (λ b. cond b (Some (Group (a / 32))) None) is) ∙ none))
    (λ (not : is_out s.cells (q.base / 32 + a / 32) ≡ false). not)
    (cases_Bool (is_out s.cells (q.base / 32 + a / 32)))

-- what is known where a transfer may begin
module _ (q : Part) (t : Setting) (s : Shared) (d : ℕ) (o : TransferOrder) (first last : ℕ) (after : Registers) (own : List ℕ) (part : IsPart q t s)
    (lawful : IsLawful (own_claims q s) (Starting d o first last after)) (free : first_pending (view q t s) (effect_needs own (Starting d o first last after))
    ≡ None) where
  pub start_has : has_device q d ≡ true
  start_has = claim_has q s d (kind_of o) part.kept part.active lawful.0

  pub start_fixture : is_some (spot_at s.spots d).fixture ≡ true
  start_fixture = let same = claim_fixture q s d (kind_of o) part.kept lawful.0 in ap is_some (sym same.1) ∙ same.0

  pub start_small : d < device_count
  start_small = claim_small q s d (kind_of o) lawful.0

  pub start_idle : (spot_at s.spots d).flight ≡ None
  start_idle = idle_of (spot_at s.spots d).flight (free_start (view q t s) d o first last free).0

  pub start_free : has_area o ≡ true → IsFreeArea s.cells (q.base + first) (q.base + last)
  start_free has =
      free_area s.cells q.base q.size first last part.at_group part.in_store (lawful.1 has)
      (free_groups (is_out_of q s) o first last (free_start (view q t s) d o first last free).1 has)

  start_inside : IsSound s → d < length s.spots
  start_inside sound = let e = sound.spots in let small = start_small in omega arith

  abbrev new : Spot
  new = start_spot q.p o (q.base + first) (q.base + last) s.cells (spot_at s.spots d)

  abbrev cells : Cells
  cells = start_cells o (q.base + first) (q.base + last) s.cells

  or_some : (x : Option Fixture) → is_some x ≡ true → Some (fixture_or x) ≡ x
  or_some None h = cc
  or_some (Some y) h = refl

  pub start_kept : IsSound s → (x : Part) → IsKept x s → IsKept x (record { cells = cells; spots = set s.spots d new })
  start_kept sound x kept =
      kept-same x s d new cells (start_inside sound) kept (or_some (spot_at s.spots d).fixture start_fixture)

-- ---- where a device of the pool is taken or given back

pub kind_some : (k : Kind) (o : Option Kind) → is_kind k o ≡ true → is_some o ≡ true
kind_some k None is = absurd (none_kind k is)
kind_some k (Some x) is = refl

not_so : (b : Bool) → not b ≡ true → b ≡ false
not_so true is = cc
not_so false is = refl

module _ (q : Part) (t : Setting) (s : Shared) (kind : Kind) (part : IsPart q t s) where
  -- it isn't taken, and is of the pool
  pub nobodys : (a : ℕ) → is_free_in q.pool t.taken kind a ≡ true → (in_pool q a ≡ true) × (t.taken a ≡ false)
  nobodys a is =
      let parts = and_parts _ _ is in
      (kind_some kind (get_or q.pool a None) parts.0, not_so (t.taken a) parts.1)

  free_at : (a : ℕ) → is_free_in q.pool t.taken kind a ≡ true → IsFree q a
  free_at a is =
      let its = nobodys a is in
      record { pooled = its.0; unlent = (part.untaken a its.0 its.1).0 }

  -- it isn't claimed
  take_at : (a : ℕ) → is_free_in q.pool t.taken kind a ≡ true → can_take (own_claims q s) kind a ≡ true
  take_at a is =
      let free = free_at a is in
      and_from _ _ (and_parts _ _ is).0
      (ap (λ b. not (is_some (cond (ltb a 16 && b) (kind_at (own_claims q s) a) None))) (part.active.marks a free.pooled ∙ free.unlent)
      ∙ ap (λ b. not (is_some (cond b (kind_at (own_claims q s) a) None))) (and_none (ltb a 16) false refl))

  -- so it is the one that is taken
  lent_is : (a : ℕ) → is_free_in q.pool t.taken kind a ≡ true → lent_to q s kind a ≡ a
  lent_is a is = ap (λ b. cond b a (unwrap_or (least_pooled (own_claims q s) kind) 0)) (take_at a is)

  -- the device of a number that is found
  untaken : {P : ℕ → Type 0} → ((a : ℕ) → is_free_in q.pool t.taken kind a ≡ true → P a) → is_some (free_in q.pool t.taken kind) ≡ true
      → P (lent_to q s kind (unwrap_or (free_in q.pool t.taken kind) 0))
  unfolding free_in
  untaken {P} each some = of (free_in q.pool t.taken kind) refl some
    where
      of : (o : Option ℕ) → free_in q.pool t.taken kind ≡ o → is_some o ≡ true → P (lent_to q s kind (unwrap_or o 0))
      of None is some = cc
      of (Some a) is some =
          let free = found (is_free_in q.pool t.taken kind) (range_with_len 0 device_count) a is in
          subst P (sym (lent_is a free)) (each a free)

  answers : is_some (free_in q.pool t.taken kind) ≡ true → lent_to q s kind (unwrap_or (free_in q.pool t.taken kind) 0)
      ≡ unwrap_or (free_in q.pool t.taken kind) 0
  unfolding free_in
  answers some = of (free_in q.pool t.taken kind) refl some
    where
      of : (o : Option ℕ) → free_in q.pool t.taken kind ≡ o → is_some o ≡ true → lent_to q s kind (unwrap_or o 0) ≡ unwrap_or o 0
      of None is some = cc
      of (Some a) is some = lent_is a (found (is_free_in q.pool t.taken kind) (range_with_len 0 device_count) a is)

  pub take_some : first_pending (view q t s) (Pool kind ∷ []) ≡ None → is_some (free_in q.pool t.taken kind) ≡ true
  take_some free = of (is_some (free_in q.pool t.taken kind)) free
    where
      of : (b : Bool) → cond (not b) (Some (Pool kind)) None ≡ None → b ≡ true
      of true none = refl
      of false none = cc

  pub take_free : first_pending (view q t s) (Pool kind ∷ []) ≡ None → IsFree q (lent_to q s kind ((view q t s).answer (FreeOf kind)))
  take_free free = untaken {P = IsFree q} free_at (take_some free)

  pub take_nobodys : first_pending (view q t s) (Pool kind ∷ []) ≡ None → (in_pool q (lent_to q s kind ((view q t s).answer (FreeOf kind))) ≡ true)
      × (t.taken (lent_to q s kind ((view q t s).answer (FreeOf kind))) ≡ false)
  take_nobodys free = untaken {P = λ a. (in_pool q a ≡ true) × (t.taken a ≡ false)} nobodys (take_some free)

  pub take_fresh : first_pending (view q t s) (Pool kind ∷ []) ≡ None → (spot_at s.spots (lent_to q s kind ((view q t s).answer (FreeOf kind)))).progress
      ≡ new_progress
  take_fresh free = let its = take_nobodys free in (part.untaken (lent_to q s kind ((view q t s).answer (FreeOf kind))) its.0 its.1).1

  -- the answer is that device
  pub take_is : first_pending (view q t s) (Pool kind ∷ []) ≡ None → lent_to q s kind ((view q t s).answer (FreeOf kind)) ≡ (view q t s).answer (FreeOf kind)
  take_is free = answers (take_some free)

-- a device that isn't pending has no transfer
pub idle_at : (q : Part) (t : Setting) (s : Shared) (d : ℕ) → first_pending (view q t s) (Device d ∷ []) ≡ None → (spot_at s.spots d).flight ≡ None
idle_at q t s d free = idle_of (spot_at s.spots d).flight (of (is_some (spot_at s.spots d).flight) free)
  where
    of : (b : Bool) → cond b (Some (Device d)) None ≡ None → b ≡ false
    of true none = cc
    of false none = refl

pub give_its : (q : Part) (t : Setting) (s : Shared) (d : ℕ) (after : Registers) → IsPart q t s → IsLawful (own_claims q s) (Returning true d after)
    → first_pending (view q t s) (Device d ∷ []) ≡ None → IsIts q s d
give_its q t s d after part lawful free =
    let pooled : in_pool q d ≡ true = sym lawful.0 in
    record { pooled = pooled; lent = sym (has_pooled q s d part.kept pooled) ∙ claimed_has q s d part.active lawful.1; idle = idle_at q t s d free }

-- a device of the slot isn't the pool's
own_apart : (q : Part) (s : Shared) (d : ℕ) → IsKept q s → is_some (own_fixture_at (own_claims q s) d) ≡ true → in_pool q d ≡ false
own_apart q s d kept some =
    ⊎_elim
    (λ (lt : d < device_count). kept.apart d (owned_some (owns q.devices d) (spot_at s.spots d).fixture (ap is_some (sym (own_is q s d lt)) ∙ some)))
    (λ (past : device_count ≤ d). cc (sym (ap is_some (number_past (own_fixture q s.spots) d None past)) ∙ some))
    (cases_lt d device_count)

-- what a program has spooled after one text more
abbrev spooled_after : Part → Shared → (stream first last : ℕ) → List Spooled
spooled_after q s stream first last = q.spooled ++ record { stream = stream; text = own_text q s first last } ∷ []

-- an effect none of whose needs is pending
module _ (q : Part) (t : Setting) (s : Shared) (r : Registers) (own : List ℕ) (sound : IsSound s) (part : IsPart q t s) where
  -- what the program has beside its registers
  pub acts_own : (n : ℕ) (e : Effect) → IsLawful (own_claims q s) e → first_pending (view q t s) (effect_needs own e) ≡ None
      → own_stock (part_after q s (done (view q t s) r e).act) (asked_after n (done (view q t s) r e).act) (after_act q s (done (view q t s) r e).act)
      ≡ begun (done (view q t s) r e).act (own_stock q n s)
  acts_own n (Keeping a w after) lawful free = writes_own q n s a (w ((view q t s).word a)) sound part.in_store lawful (here_of q t s a part.at_group free)
  acts_own n (Starting d o first last after) lawful free =
      starts_own s q d o first last sound
      (start_small q t s d o first last after own part lawful free)
      (start_idle q t s d o first last after own part lawful free)
      (start_free q t s d o first last after own part lawful free) q n
      (λ _. start_fixture q t s d o first last after own part lawful free)
  acts_own n (Asking (FreeOf kind) after) lawful free =
      taken_own q s (lent_to q s kind ((view q t s).answer (FreeOf kind))) part.kept (take_free q t s kind part free) (take_fresh q t s kind part free)
      part.active n
  acts_own n (Returning true d after) lawful free = gone_own q s d sound part.kept (give_its q t s d after part lawful free) part.active n
  acts_own n (Returning false d after) lawful free = refl
  acts_own n e lawful free = refl

  pub acts_kept : (e : Effect) → IsLawful (own_claims q s) e → first_pending (view q t s) (effect_needs own e) ≡ None
      → IsKept (part_after q s (done (view q t s) r e).act) (after_act q s (done (view q t s) r e).act)
  acts_kept (Keeping a w after) lawful free = kept-cells q s (with_word s.cells (q.base + a) (w ((view q t s).word a))) part.kept
  acts_kept (Starting d o first last after) lawful free = start_kept q t s d o first last after own part lawful free sound q part.kept
  acts_kept (Asking (FreeOf kind) after) lawful free =
      taken_kept q s (lent_to q s kind ((view q t s).answer (FreeOf kind))) part.kept (take_free q t s kind part free) part.active
  acts_kept (Claiming d after) lawful free = kept-marked q s (set q.claimed d true) part.kept
  acts_kept (Returning true d after) lawful free =
      let its = give_its q t s d after part lawful free in
      gone_kept q s d sound part.kept its (set q.claimed d false) (back_from (spot_at s.spots d)) (gone_kind q s d sound part.kept its) refl
  acts_kept (Returning false d after) lawful free = kept-marked q s (set q.claimed d false) part.kept
  acts_kept (Spooling stream first last after) lawful free = kept-spooled q s (spooled_after q s stream first last) part.kept
  acts_kept e lawful free = part.kept

  pub acts_active : (e : Effect) → IsLawful (own_claims q s) e → first_pending (view q t s) (effect_needs own e) ≡ None
      → IsActive (part_after q s (done (view q t s) r e).act)
  acts_active (Asking (FreeOf kind) after) lawful free =
      taken_active q s (lent_to q s kind ((view q t s).answer (FreeOf kind))) part.kept (take_free q t s kind part free) part.active
  acts_active (Claiming d after) lawful free = active-marked q d true (own_apart q s d part.kept lawful) part.active
  acts_active (Returning true d after) lawful free =
      let its = give_its q t s d after part lawful free in
      gone_active q s d sound part.kept its (set q.claimed d false) (back_from (spot_at s.spots d)) (gone_kind q s d sound part.kept its) refl refl part.active
  acts_active (Returning false d after) lawful free = active-marked q d false (sym lawful.0) part.active
  acts_active (Spooling stream first last after) lawful free = active-spooled q (spooled_after q s stream first last) part.active
  acts_active e lawful free = part.active

  -- a device that the program has then it had, or it is one of the pool that was nobody's
  pub acts_gains : (e : Effect) → IsLawful (own_claims q s) e → first_pending (view q t s) (effect_needs own e) ≡ None → (d : ℕ)
      → has_device (part_after q s (done (view q t s) r e).act) d ≡ true → (has_device q d ≡ true) ⊎ ((in_pool q d ≡ true) × (t.taken d ≡ false))
  acts_gains (Asking (FreeOf kind) after) lawful free d has =
      let x = lent_to q s kind ((view q t s).answer (FreeOf kind)) in
      ⊎_elim
      (λ (same : d ≡ x). let its = take_nobodys q t s kind part free in inr (ap (in_pool q) same ∙ its.0, ap t.taken same ∙ its.1))
      (λ (ne : d ≢ x). inl (sym (ap (λ b. owns q.devices d || b) (taken_elsewhere q s x part.kept (take_free q t s kind part free) d ne)) ∙ has))
      (cases_eq d x)
  acts_gains (Returning true x after) lawful free d has =
      let its = give_its q t s x after part lawful free in
      let loan = back_from (spot_at s.spots x) in
      ⊎_elim
      (λ (same : d ≡ x).
      cc (sym (gone_from q s x sound part.kept its (set q.claimed x false) loan (gone_kind q s x sound part.kept its) refl)
      ∙ (ap (has_device (giver (set q.claimed x false) x loan q)) (sym same) ∙ has)))
      (λ (ne : d ≢ x). inl (sym (ap (λ b. owns q.devices d || b) (lends_there q.stints x d loan ne)) ∙ has))
      (cases_eq d x)
  acts_gains (Returning false x after) lawful free d has = inl has
  acts_gains e lawful free d has = inl has

  -- it has the device of a transfer still
  pub acts_keeps : (e : Effect) → IsLawful (own_claims q s) e → first_pending (view q t s) (effect_needs own e) ≡ None → (d : ℕ)
      → is_some (spot_at (after_act q s (done (view q t s) r e).act).spots d).flight ≡ true → has_device q d ≡ true
      → has_device (part_after q s (done (view q t s) r e).act) d ≡ true
  acts_keeps (Asking (FreeOf kind) after) lawful free d flies has =
      let x = lent_to q s kind ((view q t s).answer (FreeOf kind)) in
      ⊎_elim
      (λ (same : d ≡ x). or_right (owns q.devices d) _ (ap (lends (taker x q).stints) same ∙ taken_there q s x part.kept (take_free q t s kind part free)))
      (λ (ne : d ≢ x). ap (λ b. owns q.devices d || b) (taken_elsewhere q s x part.kept (take_free q t s kind part free) d ne) ∙ has)
      (cases_eq d x)
  acts_keeps (Returning true x after) lawful free d flies has =
      let its = give_its q t s x after part lawful free in
      ⊎_elim
      (λ (same : d ≡ x).
      cc (sym (ap (λ k. is_some (spot_at (emptied x s).spots k).flight) same
      ∙ ap (λ (y : Spot). is_some y.flight) (get_or-set_same s.spots x (blank_spot (spot_at s.spots x)) no_spot (gone_inside q s x sound part.kept its)))
      ∙ flies))
      (λ (ne : d ≢ x). ap (λ b. owns q.devices d || b) (lends_there q.stints x d (back_from (spot_at s.spots x)) ne) ∙ has)
      (cases_eq d x)
  acts_keeps (Returning false x after) lawful free d flies has = has
  acts_keeps e lawful free d flies has = has

  -- a device of the pool that it doesn't have then has moved nothing, or it has moved what it had, and wasn't the program's
  pub acts_settles : (e : Effect) → IsLawful (own_claims q s) e → first_pending (view q t s) (effect_needs own e) ≡ None → (d : ℕ)
      → lends (part_after q s (done (view q t s) r e).act).stints d ≡ false
      → ((lends q.stints d ≡ false) × ((spot_at (after_act q s (done (view q t s) r e).act).spots d).progress ≡ (spot_at s.spots d).progress))
      ⊎ ((spot_at (after_act q s (done (view q t s) r e).act).spots d).progress ≡ new_progress)
  acts_settles (Starting x o first last after) lawful free d none =
      inl (none, same_at (λ (y : Spot). y.progress) s.spots x d (start_spot q.p o (q.base + first) (q.base + last) s.cells (spot_at s.spots x)) refl)
  acts_settles (Asking (FreeOf kind) after) lawful free d none =
      let x = lent_to q s kind ((view q t s).answer (FreeOf kind)) in
      inl ((or_parts (lends q.stints d) (eqb x d) (sym (lends_push q.stints x d) ∙ none)).0, refl)
  acts_settles (Returning true x after) lawful free d none =
      let its = give_its q t s x after part lawful free in
      ⊎_elim
      (λ (same : d ≡ x). inr (ap (λ k. (spot_at (emptied x s).spots k).progress) same
      ∙ ap (λ (y : Spot). y.progress) (get_or-set_same s.spots x (blank_spot (spot_at s.spots x)) no_spot (gone_inside q s x sound part.kept its))))
      (λ (ne : d ≢ x). inl (
        sym (lends_there q.stints x d (back_from (spot_at s.spots x)) ne)
            ∙ none,
        ap (λ (y : Spot). y.progress) (get_or-set_other s.spots x d (blank_spot (spot_at s.spots x)) no_spot ne),
      ))
      (cases_eq d x)
  acts_settles (Returning false x after) lawful free d none = inl (none, refl)
  acts_settles e lawful free d none = inl (none, refl)

  -- and another program
  pub acts_other : (n : ℕ) (x : Part) → IsOther q x s → (e : Effect) → IsLawful (own_claims q s) e → first_pending (view q t s) (effect_needs own e) ≡ None
      → own_stock x n (after_act q s (done (view q t s) r e).act) ≡ own_stock x n s
  acts_other n x other (Keeping a w after) lawful free = writes_other q x n s a (w ((view q t s).word a)) sound part.in_store lawful
      (here_of q t s a part.at_group free) other.apart
  acts_other n x other (Starting d o first last after) lawful free =
      starts_own s q d o first last sound
      (start_small q t s d o first last after own part lawful free)
      (start_idle q t s d o first last after own part lawful free)
      (start_free q t s d o first last after own part lawful free) x n
      (λ _. start_fixture q t s d o first last after own part lawful free)
  acts_other n x other (Returning true d after) lawful free =
      let its = give_its q t s d after part lawful free in
      gone_other q s d sound part.kept its x (other.not_its d (has_it q s d sound part.kept its)) n
  acts_other n x other (Returning false d after) lawful free = refl
  acts_other n x other e lawful free = refl

  pub acts_other_kept : (x : Part) → IsOther q x s → (e : Effect) → IsLawful (own_claims q s) e → first_pending (view q t s) (effect_needs own e) ≡ None
      → IsKept x (after_act q s (done (view q t s) r e).act)
  acts_other_kept x other (Keeping a w after) lawful free = kept-cells x s (with_word s.cells (q.base + a) (w ((view q t s).word a))) other.kept
  acts_other_kept x other (Starting d o first last after) lawful free = start_kept q t s d o first last after own part lawful free sound x other.kept
  acts_other_kept x other (Returning true d after) lawful free =
      let its = give_its q t s d after part lawful free in
      gone_other_kept q s d sound part.kept its x (other.not_its d (has_it q s d sound part.kept its)) other.kept
  acts_other_kept x other (Returning false d after) lawful free = other.kept
  acts_other_kept x other e lawful free = other.kept

  pub acts_sound : (e : Effect) → IsLawful (own_claims q s) e → first_pending (view q t s) (effect_needs own e) ≡ None
      → IsSound (after_act q s (done (view q t s) r e).act)
  acts_sound (Keeping a w after) lawful free = sound-writes q s a (w ((view q t s).word a)) sound (here_of q t s a part.at_group free)
  acts_sound (Starting d o first last after) lawful free =
      sound-starts s q d o first last sound
      (start_small q t s d o first last after own part lawful free)
      (start_idle q t s d o first last after own part lawful free)
      (start_free q t s d o first last after own part lawful free)
  acts_sound (Returning true d after) lawful free = gone_sound q s d sound part.kept (give_its q t s d after part lawful free)
  acts_sound (Returning false d after) lawful free = sound
  acts_sound e lawful free = sound
