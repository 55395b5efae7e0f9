-- What the fields of a machine show of it.
use Rattle.std.specs.Prelude.{find, slice_get, IfSome, IsSomeAnd}
use Rattle.std.specs.List.{All}
use Rattle.std.specs.Option.{option_copied, option_map}
use denote.Ref.{Bor}
use Rattle.std.proofs.Common.{◌≡◌, ℕ, ◌+◌, ◌*◌, ◌<◌, ◌≤◌, Bool, true, false, eqb, List, [], ◌∷◌, length, get_or, map, Option, Some, None, is_some, refl, sym}
use Rattle.std.proofs.Common.{ap, ◌∙◌, subst, arith}
use Rattle.std.proofs.lemmas.List.{length-map}
use Rattle.kdf_journal.specs.declared.entry.Entry.{Entry}
use Rattle.kdf_journal.specs.Counts.{holder, pending}
use Rattle.kdf_lockout.specs.Groups.{Cells}
use Rattle.kdf_relocate.specs.declared.window.Window.{Window}
use Rattle.kdf_transfer.specs.InFlight.{Motion}
use Rattle.kdf_transfer.specs.declared.device.Device.{Device}
use Rattle.kdf_processor.specs.declared.spooled.Spooled.{Spooled}
use Rattle.kdf_processor.specs.Claims.{is_claimed}
use Rattle.kdf_processor.specs.Lone.{is_live}
use Rattle.kdf_transfer.specs.Slots.{Slot}
use Rattle.kdf_journal.specs.declared.kind.Kind.{Kind}
use Rattle.kdf_job.specs.Slots.{lent_kind}
use Rattle.kdf_transfer.specs.ByNumber.{by_number}
use Rattle.kdf_processor.specs.State.{State, fixture_at, is_pooled, lending_of, lendings, own_fixture_at, word_at}
use Rattle.kdf_director.specs.Fields.Agrees.{IsReady}
use Rattle.kdf_director.specs.Fields.Machines.{shown, stands, IsMachine}
use Rattle.kdf_director.specs.declared.machine.Machine.TheInside.{Inside}
use Rattle.kdf_yard.specs.Fields.Filled.{loaded, pool_in, slot_loaded}
use Rattle.kdf_director.specs.Fields.Following.{asked_at}
use Rattle.kdf_yard.specs.Fields.Going.{any_on}
use Rattle.kdf_director.specs.Lends.{IsLent, IsStored, window_in}
use Rattle.kdf_theory.specs.Next.{any_live}
use Rattle.kdf_yard.specs.Fields.Owners.{HasLent, IsDeviceOwned, IsTold, is_claimed_by, owner_in}
use Rattle.kdf_yard.specs.Fields.Parts.{Reach, Seat, own_stock, seat_of, window_at}
use Rattle.kdf_places.specs.Shared.{Shared, shared_in}
use Rattle.kdf_places.specs.Words.{word_at_place}
use Rattle.kdf_yard.specs.Fields.Running.{own_state, part_at, reach_at, reaches_in, seat_at, seats_in}
use Rattle.kdf_theory.specs.MachineView.{IsDeviceAt, MachineView, state_of}
use Rattle.kdf_theory.specs.Slots.{slot_of}
use Rattle.kdf_places.specs.Spots.{Held, leases_of, spot_at, spot_of}
use Rattle.kdf_places.specs.declared.place.Place.{Place}
use Rattle.kdf_yard.specs.declared.program.Program.{Program}
use Rattle.kdf_yard.specs.declared.slot.Loaded.{Loaded}
use Rattle.kdf_theory.proofs.Lists.{find_map, any_map}
use Rattle.kdf_director.proofs.Linking.MachineLends.{below, in_store, lent, stored, windows_same, word_own}
use Rattle.kdf_director.proofs.Linking.NextPrograms.{any_same}
use Rattle.kdf_director.proofs.Linking.OwnDevices.{claimed_none, claimed_own, claimed_pooled, device_none, device_own}
use Rattle.kdf_director.proofs.Linking.OwnStates.{found_state, none_state, told_of}
use Rattle.kdf_yard.proofs.Physical.StintsShown.{stint_in_own, there_lent_any}
use Rattle.kdf_yard.specs.Fields.Keeping.{IsKept}
use Rattle.kdf_yard.specs.Fields.Stints.{Keeping, is_lent, keeping_of, no_keeping, stint_of}
use Rattle.kdf_processor.specs.Stints.{IsStint}
use Rattle.kdf_yard.specs.declared.stint.Stint.{Stint}
use Rattle.kdf_transfer.proofs.Numbers.{limit_is}

-- what holds of a state that is there
some_and : (o : Option State) (P Q : State → Type 0) → ((x : State) → o ≡ Some x → P x → Q x) → IsSomeAnd o P → IsSomeAnd o Q
some_and None P Q then is = is
some_and (Some x) P Q then is = then x refl is

if_some : (o : Option State) (Q : State → Type 0) → ((x : State) → o ≡ Some x → Q x) → IfSome o Q
if_some None Q then = tt
if_some (Some x) Q then = then x refl

from_some : (o : Option State) (P : State → Type 0) (Q : Type 0) → ((x : State) → o ≡ Some x → P x → Q) → IsSomeAnd o P → Q
from_some None P Q then is = absurd is
from_some (Some x) P Q then is = then x refl is

pub twice : {X Y Z : Type 0} (f : Y → Z) (g : X → Y) (o : Option X) → option_map f (option_map g o) ≡ option_map (λ x. f (g x)) o
twice f g None = refl
twice f g (Some x) = refl

-- no borrow of a device
pub none_copied : (o : Option (Bor Device)) → option_copied o ≡ None → o ≡ None
none_copied None is = refl
none_copied (Some x) is = cc

module _ (fields : Inside) (is_machine : IsMachine fields) where
  abbrev slots : List Loaded
  slots = fields.slots.items

  abbrev windows : List Window
  windows = fields.windows

  abbrev store : Cells
  store = fields.store

  abbrev programs : List Program
  programs = fields.programs.items

  abbrev places : List Place
  places = fields.devices.items

  abbrev J : List Entry
  J = fields.journal.entries

  abbrev room : ℕ
  room = fields.room

  abbrev ready : IsReady (stands fields) fields.journal room
  ready = is_machine.ready

  abbrev xs : List Slot
  xs = map slot_loaded slots

  abbrev rs : List Reach
  rs = reaches_in windows slots

  abbrev ps : List Seat
  ps = seats_in programs

  abbrev s : Shared
  s = shared_in store places

  abbrev m : MachineView
  m = shown fields

  abbrev has_number : ℕ → Seat → Bool
  has_number p x = eqb x.p p

  many : length slots ≡ length ps
  many = is_machine.yard.many ∙ sym (length-map programs _)

  -- ---- programs
  found : (p : ℕ) → find (has_number p) ps ≡ option_map seat_of (find (λ (x : Program). eqb x.p p) programs)
  found p = find_map seat_of (has_number p) programs

  pub live_shown : any_on programs ≡ any_live xs J
  live_shown = any_map seat_of (λ (x : Seat). is_live x.registers.state) programs ∙ any_same xs rs ps s J ready.agrees

  registers_are : (i : ℕ) → (own_state rs ps s (asked_at ps J i) i).registers ≡ (seat_at ps i).registers
  unfolding own_state
  registers_are i = refl

  texts_are : (i : ℕ) → (own_state rs ps s (asked_at ps J i) i).stock.spooled ≡ (seat_at ps i).spooled
  unfolding own_state
  texts_are i = refl

  pub registers_shown : (p : ℕ) → option_map (λ (x : Program). x.registers) (find (λ (x : Program). eqb x.p p) programs) ≡ option_map
      (λ (x : State). x.registers) (state_of m p)
  registers_shown p =
      sym (twice (λ (x : Seat). x.registers) seat_of (find (λ (x : Program). eqb x.p p) programs))
      ∙ ap (option_map (λ (x : Seat). x.registers)) (sym (found p))
      ∙ told_of xs rs ps s J room ready.agrees (λ (x : Seat). x.registers) (λ (x : State). x.registers) p (λ i lt. registers_are i)

  -- the texts of a program that is there
  pub texts_shown : (p : ℕ) (texts : List Spooled) → is_some (state_of m p) ≡ true
      → IfSome (find (λ (x : Program). eqb x.p p) programs) (λ (x : Program). texts ≡ x.spooled.items)
      → IsSomeAnd (state_of m p) (λ (x : State). texts ≡ x.stock.spooled)
  texts_shown p texts is told =
      by_both (find (λ (x : Program). eqb x.p p) programs) (state_of m p) is
      (sym (twice (λ (x : Seat). x.spooled) seat_of (find (λ (x : Program). eqb x.p p) programs))
      ∙ ap (option_map (λ (x : Seat). x.spooled)) (sym (found p))
      ∙ told_of xs rs ps s J room ready.agrees (λ (x : Seat). x.spooled) (λ (x : State). x.stock.spooled) p (λ i lt. texts_are i)) told
    where
      by_both : (o : Option Program) (k : Option State) → is_some k ≡ true
          → option_map (λ (x : Program). x.spooled.items) o ≡ option_map (λ (x : State). x.stock.spooled) k
          → IfSome o (λ (x : Program). texts ≡ x.spooled.items) → IsSomeAnd k (λ (x : State). texts ≡ x.stock.spooled)
      by_both o None is same told = cc
      by_both None (Some y) is same told = cc
      by_both (Some x) (Some y) is same told = let e : x.spooled.items ≡ y.stock.spooled = cc in told ∙ e

  -- ---- words
  pub sixteen : length places ≡ 16
  sixteen = sym (length-map places spot_of) ∙ ready.agrees.running.sound.spots ∙ limit_is

  -- ---- stints
  module _ (p : ℕ) where
    abbrev program : Option Program
    program = find (λ (x : Program). eqb x.p p) programs

    -- a program that is there, with its stints
    stints_at : (x : Program) → program ≡ Some x → (i : ℕ) × (i < length ps) × (seat_at ps i ≡ seat_of x)
        × (state_of m p ≡ Some (own_state rs ps s (asked_at ps J i) i))
    stints_at x is = found_state xs rs ps s J room ready.agrees p (seat_of x) (found p ∙ ap (option_map seat_of) is)

    stints_own : (i n : ℕ) → (own_state rs ps s n i).stock ≡ own_stock (part_at rs ps i) n s
    unfolding own_state
    stints_own i n = refl

    count_is : (x : Program) (y : State) → program ≡ Some x → state_of m p ≡ Some y → length (lendings y.stock) ≡ length x.stints.items
    unfolding lendings
    count_is x y is there =
        let at = stints_at x is in
        let same : own_state rs ps s (asked_at ps J at.0) at.0 ≡ y = one_state (sym at.3 ∙ there) in
        ap (λ (z : State). length (lendings z.stock)) (sym same)
        ∙ ap (λ k. length (lendings k)) (stints_own at.0 (asked_at ps J at.0))
        ∙ length-map (map stint_of (seat_at ps at.0).stints) (lending_of (own_stock (part_at rs ps at.0) (asked_at ps J at.0) s))
        ∙ length-map (seat_at ps at.0).stints stint_of
        ∙ ap (λ (z : Seat). length z.stints) at.2
        ∙ length-map x.stints.items keeping_of
      where
        one_state : {a b : State} → Some a ≡ Some b → a ≡ b
        one_state e = cc

    no_state : program ≡ None → state_of m p ≡ None
    no_state none = none_state xs rs ps s J room ready.agrees p (found p ∙ ap (option_map seat_of) none)

    -- what holds of a program that is there and of its state
    by_both : (P : Program → Type 0) (Q : State → Type 0) → ((x : Program) (y : State) → program ≡ Some x → state_of m p ≡ Some y → P x → Q y)
        → (o : Option Program) → program ≡ o → (k : Option State) → state_of m p ≡ k → is_some k ≡ true → IfSome o P → IsSomeAnd k Q
    by_both P Q then o e None f is told = cc
    by_both P Q then None e (Some y) f is told = cc (sym f ∙ no_state e)
    by_both P Q then (Some x) e (Some y) f is told = then x y e f told

    pub stints_shown : (xs' : List Stint) → is_some (state_of m p) ≡ true → IfSome program (λ (x : Program). xs' ≡ x.stints.items)
        → IsSomeAnd (state_of m p) (λ (y : State). length xs' ≡ length (lendings y.stock))
    stints_shown xs' is told =
        by_both (λ (x : Program). xs' ≡ x.stints.items) (λ (y : State). length xs' ≡ length (lendings y.stock))
        (λ x y e f same. ap length same ∙ sym (count_is x y e f)) program refl (state_of m p) refl is told

    kept_at : (x : Program) (e : program ≡ Some x) → IsKept (part_at rs ps (stints_at x e).0) s
    kept_at x e = ready.agrees.running.kept (stints_at x e).0 (stints_at x e).1

    same_stints : (x : Program) (e : program ≡ Some x) → (part_at rs ps (stints_at x e).0).stints ≡ map keeping_of x.stints.items
    same_stints x e = ap (λ (z : Seat). z.stints) (stints_at x e).2

    -- one of its stints
    module _ (i : ℕ) (below : IsSomeAnd (state_of m p) (λ (y : State). i < length (lendings y.stock))) where
      pub stint_there : IsSomeAnd program (λ (x : Program). i < length x.stints.items)
      stint_there = by_state program refl (state_of m p) refl below
        where
          by_state : (o : Option Program) → program ≡ o → (k : Option State) → state_of m p ≡ k → IsSomeAnd k (λ (y : State). i < length (lendings y.stock))
              → IsSomeAnd o (λ (x : Program). i < length x.stints.items)
          by_state o e None f lt = absurd lt
          by_state None e (Some y) f lt = cc (sym f ∙ no_state e)
          by_state (Some x) e (Some y) f lt = omega (arith, count_is x y e f)

      pub stint_lent : IfSome program (λ (x : Program). HasLent (map spot_of places) (map keeping_of x.stints.items))
      stint_lent = by_program program refl
        where
          by_program : (o : Option Program) → program ≡ o → IfSome o (λ (x : Program). HasLent (map spot_of places) (map keeping_of x.stints.items))
          by_program None e = tt
          by_program (Some x) e =
              subst (HasLent (map spot_of places)) (same_stints x e)
              (λ j k lt lent. all_lent x e j k lt lent)
            where
              all_lent : (x : Program) (e : program ≡ Some x) (j : ℕ) (k : Keeping) → j < length (part_at rs ps (stints_at x e).0).stints
                  → is_lent (get_or (part_at rs ps (stints_at x e).0).stints j k).loan ≡ true
                  → is_some (spot_at (map spot_of places) (get_or (part_at rs ps (stints_at x e).0).stints j k).device).fixture ≡ true
              all_lent x e j k lt lent =
                  there_lent_any (part_at rs ps (stints_at x e).0) s (kept_at x e) j k lt lent

      pub stint_shown : (d : ℕ) (given : Bool) (device : Device)
          → IfSome program (λ (x : Program). IsTold (map spot_of places) (get_or (map keeping_of x.stints.items) i no_keeping) d given device)
          → IsSomeAnd (state_of m p) (λ (y : State). IfSome (slice_get (lendings y.stock) i) (λ l. IsStint l d given device))
      stint_shown d given device told =
          by_both (λ (x : Program). IsTold (map spot_of places) (get_or (map keeping_of x.stints.items) i no_keeping) d given device)
          (λ (y : State). IfSome (slice_get (lendings y.stock) i) (λ l. IsStint l d given device))
          (λ x y e f is. stint_of_program x y e f is) program refl (state_of m p) refl (some_state (state_of m p) below) told
        where
          some_state : (k : Option State) → IsSomeAnd k (λ (y : State). i < length (lendings y.stock)) → is_some k ≡ true
          some_state None lt = absurd lt
          some_state (Some y) lt = refl

          one_state : {a b : State} → Some a ≡ Some b → a ≡ b
          one_state e = cc

          stint_of_program : (x : Program) (y : State) → program ≡ Some x → state_of m p ≡ Some y
              → IsTold (map spot_of places) (get_or (map keeping_of x.stints.items) i no_keeping) d given device
              → IfSome (slice_get (lendings y.stock) i) (λ l. IsStint l d given device)
          stint_of_program x y e f is =
              let at = stints_at x e in
              let q = part_at rs ps at.0 in
              let n = asked_at ps J at.0 in
              let same : own_state rs ps s n at.0 ≡ y = one_state (sym at.3 ∙ f) in
              subst (λ (z : State). IfSome (slice_get (lendings z.stock) i) (λ l. IsStint l d given device)) same
              (subst (λ k. IfSome (slice_get (lendings k) i) (λ l. IsStint l d given device)) (sym (stints_own at.0 n))
              (stint_in_own q n s (kept_at x e) i d given device
              (subst (λ zs. IsTold (map spot_of places) (get_or zs i no_keeping) d given device) (sym (same_stints x e)) is)))

  module _ (p address : ℕ) (there : IsSomeAnd (state_of m p) (λ (x : State). address < x.stock.claims.size)) (window : Window)
      (is : window ≡ window_at windows p) where
    pub word_below : address < window.size
    word_below =
        subst (λ (w : Window). address < w.size) (sym is)
        (from_some (state_of m p) (λ (x : State). address < x.stock.claims.size) _
        (λ x is lt. below windows slots ps s J room many ready.agrees is_machine.yard.placed p x is address lt) there)

    pub word_in_store : window.base + window.size ≤ 32 * length store
    word_in_store =
        subst (λ (w : Window). w.base + w.size ≤ 32 * length store) (sym is)
        (from_some (state_of m p) (λ (x : State). address < x.stock.claims.size) _
        (λ x is lt. in_store windows slots ps s J room many ready.agrees is_machine.yard.placed p x is) there)

    pub word_shown : (w : ℕ) → w ≡ word_at_place store (leases_of (map spot_of places)) (window.base + address)
        → IsSomeAnd (state_of m p) (λ (x : State). w ≡ word_at x address)
    word_shown w same =
        some_and (state_of m p) (λ (x : State). address < x.stock.claims.size) _
        (λ x there lt.
        same
        ∙ ap (λ (v : Window). word_at_place store (leases_of (map spot_of places)) (v.base + address)) is
        ∙ word_own windows slots ps s J room many ready.agrees is_machine.yard.placed p x there address lt)
        there

  -- ---- devices
  module _ (d : ℕ) where
    -- a device that was found for these slots and places, which are the machine's
    module _ (o : Option Device) (slots' : List Loaded) (places' : List Place) (same : slots' ≡ slots) (same' : places' ≡ places)
        (is : IsDeviceOwned (owner_in slots' d) (spot_at (map spot_of places') d) o) where
      owned : IsDeviceOwned (owner_in slots d) (spot_at (map spot_of places) d) o
      owned =
          subst (λ xs. IsDeviceOwned (owner_in xs d) (spot_at (map spot_of places) d) o) same
          (subst (λ ps. IsDeviceOwned (owner_in slots' d) (spot_at (map spot_of ps) d) o) same' is)

      pub device_shown : (p : ℕ) → IfSome (state_of m p) (λ (x : State). is_some (own_fixture_at x.stock.claims d) ≡ true → IsDeviceAt x d o)
      device_shown p = if_some (state_of m p) _ (λ x there some. device_own windows slots xs ps s J room many ready.agrees d p x o there some owned)

      pub device_absent : All (λ (x : State). own_fixture_at x.stock.claims d ≡ None) m.states → o ≡ None
      device_absent none = device_none windows slots xs ps s J room many ready.agrees d o none owned

    -- the pool is that of the first slot
    abbrev pool : List (ℕ × Kind)
    pool = pool_in (map loaded slots)

    lends : (i : ℕ) → i < length ps → (reach_at (reaches_in windows slots) i).pool ≡ by_number (lent_kind pool)
    lends i lt = ready.agrees.running.common i 0 lt (omega arith) ∙ first_pool slots (let e = many in omega arith)
      where
        first_pool : (ls : List Loaded) → 0 < length ls → (reach_at (reaches_in windows ls) 0).pool ≡ by_number (lent_kind (pool_in (map loaded ls)))
        first_pool [] some = absurd (omega arith)
        first_pool (l ∷ ls) some = refl

    none_lent : length ps ≡ 0 → pool ≡ []
    none_lent none = of_none slots (let e = many in omega arith)
      where
        of_none : (ls : List Loaded) → length ls ≡ 0 → pool_in (map loaded ls) ≡ []
        of_none [] e = refl
        of_none (l ∷ ls) e = absurd (omega arith)

    abbrev pub claims_it : Bool
    claims_it = is_claimed_by (owner_in slots d) ps pool J d

    pub claimed_shown : (p : ℕ) (is : Bool) → is ≡ claims_it → IfSome (state_of m p) (λ (x : State). is_some (own_fixture_at x.stock.claims d) ≡ true
        → is ≡ is_claimed x.stock.claims d)
    claimed_shown p is same = if_some (state_of m p) _ (λ x there some. same ∙ claimed_own windows slots xs ps s J room many ready.agrees d pool p x there some)

    pub pool_shown : (p : ℕ) (is : Bool) → is ≡ claims_it → IfSome (state_of m p) (λ (x : State). is_pooled x.stock.claims d ≡ true → is ≡ is_some (holder d J))
    pool_shown p is same = if_some (state_of m p) _ (λ x there pooled. same
        ∙ claimed_pooled windows slots xs ps s J room many ready.agrees d pool lends p x there pooled)

    pub claimed_absent : All (λ (x : State). fixture_at x.stock.claims d ≡ None) m.states → is_claimed_by (owner_in slots d) ps pool J d ≡ false
    claimed_absent none = claimed_none windows slots xs ps s J room many ready.agrees d pool lends none_lent none

    pub transfer_shown : (t : Option Motion) → t ≡ option_map (λ (h : Held). h.motion) (spot_at (map spot_of places) d).flight → IsLent m d (pending d J) t
    transfer_shown t is = lent windows slots ps s J room many ready.agrees is_machine.yard.placed d t is

  -- ---- the store
  pub store_shown : (p a : ℕ) → IfSome (state_of m p) (λ (x : State). a < x.stock.claims.size → IsStored m store p a x)
  store_shown p a = if_some (state_of m p) _ (λ x there lt. stored windows slots ps s J room many ready.agrees is_machine.yard.placed p x there a lt)

  -- the window of a program that is there
  pub window_told : (p : ℕ) → option_map (λ (x : Program). window_at windows p) (find (λ (x : Program). eqb x.p p) programs) ≡ window_in xs p
  window_told p =
      same_there (find (λ (x : Program). eqb x.p p) programs) (slot_of xs p) (window_at windows p)
      (sym (twice (λ (x : Seat). x.p) seat_of (find (λ (x : Program). eqb x.p p) programs))
      ∙ ap (option_map (λ (x : Seat). x.p)) (sym (found p))
      ∙ sym (find_map (λ (x : Seat). x.p) (λ k. eqb k p) ps)
      ∙ ap (find (λ k. eqb k p)) ready.agrees.numbers
      ∙ find_map (λ (x : Slot). x.p) (λ k. eqb k p) xs)
      ∙ ap (λ (ws : List Window). option_map (λ (x : Slot). window_at ws p) (slot_of xs p)) (is_machine.yard.placed ∙ windows_same slots)
    where
      same_there : (o : Option Program) (k : Option Slot) (w : Window) → option_map (λ (x : Program). x.p) o ≡ option_map (λ (x : Slot). x.p) k
          → option_map (λ (x : Program). w) o ≡ option_map (λ (x : Slot). w) k
      same_there None None w same = refl
      same_there None (Some y) w same = cc
      same_there (Some x) None w same = cc
      same_there (Some x) (Some y) w same = refl
