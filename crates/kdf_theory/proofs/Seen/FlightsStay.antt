-- Transfers stay in flight through an order none of whose needs is pending, and so is one that it begins.
use Rattle.std.proofs.Common.{◌≡◌, ◌≢◌, ℕ, zero, suc, ◌*◌, ◌/◌, ◌<◌, ◌≤◌, true, false, ◌&&◌, leb, List, [], length, map, Option, Some, None, is_some, cond}
use Rattle.std.proofs.Common.{refl, sym, ap, ◌∙◌, subst, ⊎_elim, arith}
use Rattle.std.specs.List.{list_any}
use Rattle.std.proofs.lemmas.Bool.{or_parts, or_left, or_right, and_parts, cases_eq, false_from_ne_true, false≢true, leb-true}
use Rattle.kdf_transfer.specs.AtOnce.{IsArea, has_area, kind_of}
use Rattle.kdf_transfer.specs.declared.order.TransferOrder.{TransferOrder}
use Rattle.kdf_processor.specs.declared.registers.Registers.{Registers}
use Rattle.kdf_journal.specs.declared.need.Need.TheVariants.{Group}
use Rattle.kdf_transfer.specs.Devices.{is_kind}
use Rattle.kdf_processor.specs.Claims.{claim}
use Rattle.kdf_processor.specs.Effect.{Question, Effect, Starting}
use Rattle.kdf_processor.specs.Frame.{Leaves, HidesNone}
use Rattle.kdf_processor.specs.Needs.{group_of, effect_needs, needs, next_effect}
use Rattle.kdf_processor.specs.Row.{perform, row}
use Rattle.kdf_processor.specs.State.{Claims, State, fixture_at}
use Rattle.kdf_processor.specs.View.{groups_of, order_groups}
use Rattle.kdf_processor.proofs.AreaLemmas.{area_apart}
use Rattle.kdf_transfer.specs.ByNumber.{device_count}
use Rattle.kdf_processor.proofs.FrameLemmas.{perform_leaves}
use Rattle.kdf_theory.specs.Flights.{Flight, beginning, flights_after, touches, with_flight}
use Rattle.kdf_theory.specs.Flying.{InFlight, IfFlight, AreFlying}
use Rattle.kdf_theory.specs.Seen.{pending_in_flight, touched_below}
use Rattle.kdf_theory.proofs.Seen.OrdersSeen.{with_flight_is, with_flight_other, parts_apart}
use Rattle.kdf_theory.proofs.Seen.ClaimsStay.{claimed_through, same_fixture, same_size}
use Rattle.kdf_theory.proofs.Seen.WholeTransfers.{transferred_claims}
use Rattle.kdf_theory.proofs.Seen.TransfersChecked.{IsChecked, claim_small, next_checked}

touched_from : (n d g : ℕ) (flights : ℕ → Option Flight) → d < n → touches (flights d) g ≡ true → touched_below n flights g ≡ true
touched_from zero d g flights lt is = absurd (omega arith)
touched_from (suc n) d g flights lt is =
    ⊎_elim
    (λ (same : d ≡ n). or_left _ _ (subst (λ x. touches (flights x) g ≡ true) same is))
    (λ (ne : d ≢ n). or_right _ _ (touched_from n d g flights (omega arith) is))
    (cases_eq d n)

-- ---- those that are in flight

module _ (flights : ℕ → Option Flight) (mine : List ℕ) (answer : Question → ℕ) (s : State) (e : Effect)
    (none : HidesNone (pending_in_flight flights) (effect_needs mine e)) where
  leaves : Leaves (pending_in_flight flights) s (perform answer e s)
  leaves = perform_leaves (pending_in_flight flights) mine answer e s none

  kept_flight : (d : ℕ) → IfFlight s d (flights d) → IfFlight (perform answer e s) d (flights d)
  kept_flight d flight = go (flights d) refl flight
    where
      go : (f : Option Flight) → flights d ≡ f → IfFlight s d f → IfFlight (perform answer e s) d f
      go None is h = tt
      go (Some f) is h =
          let small = claim_small s.stock.claims d (kind_of f.order) h.claimed in
          record {
            claimed = claimed_through (pending_in_flight flights) mine answer s d (kind_of f.order) h.claimed (ap is_some is) e none;
            fixture = same_fixture answer e s d ∙ h.fixture;
            size = sym leaves.size ∙ h.size;
            area = λ has. subst (IsArea f.first f.last) leaves.size (h.area has);
            moved = h.moved;
            words = λ a touched. leaves.words a (touched_from device_count d (group_of a) flights small (ap (λ g. touches g (group_of a)) is ∙ touched))
                ∙ h.words a touched;
            device = leaves.devices d (ap is_some is) ∙ h.device;
          }

  pub still_flying : AreFlying flights s → AreFlying flights (perform answer e s)
  still_flying flying =
      record {
        sized = sym leaves.size ∙ flying.sized ∙ sym (same_size answer e s);
        each = λ d. kept_flight d (flying.each d);
        apart = flying.apart;
      }

-- ---- one that begins

touching_small : (s : State) (e g : ℕ) (f : Option Flight) → IfFlight s e f → touches f g ≡ true → e < device_count
touching_small s e g None flight is = cc
touching_small s e g (Some f) flight is = claim_small s.stock.claims e (kind_of f.order) flight.claimed

-- a group that an area touches is that of an address of the area
address_of : (first last g : ℕ) → first ≤ last → first / 32 ≤ g → g ≤ last / 32 → (a : ℕ) × (first ≤ a) × (a ≤ last) × (group_of a ≡ g)
address_of first last g rising low high =
    ⊎_elim
    (λ (same : first / 32 ≡ g). (first, omega arith, rising, same))
    (λ (ne : first / 32 ≢ g). (g * 32, omega arith, omega arith, omega arith))
    (cases_eq (first / 32) g)

-- no transfer touches a group of an area that is not pending
free_area : (flights : ℕ → Option Flight) (s : State) (o : TransferOrder) (first last e g : ℕ) → AreFlying flights s
    → (has_area o ≡ true → IsArea first last s.stock.claims.size) → list_any (pending_in_flight flights) (map Group (order_groups o first last)) ≡ false
    → has_area o && (leb (first / 32) g && leb g (last / 32)) ≡ true → touches (flights e) g ≡ false
free_area flights s o first last e g flying area none is =
    let parts = and_parts _ _ is in
    let bounds = and_parts _ _ parts.1 in
    let there = address_of first last g (area parts.0).rising (leb-true (first / 32) g bounds.0) (leb-true g (last / 32) bounds.1) in
    let free : touched_below device_count flights g ≡ false =
    subst (λ h. touched_below device_count flights h ≡ false) there.3
    (area_apart (pending_in_flight flights) first last there.0 there.1 there.2
    (subst (λ b. list_any (pending_in_flight flights) (map Group (cond b (groups_of first last) [])) ≡ false) parts.0 none)) in
    false_from_ne_true _ (λ touched. false≢true
    (sym free ∙ touched_from device_count e g flights (touching_small s e g (flights e) (flying.each e) touched) touched))

-- no two transfers touch a common group, also with one more
more_apart : (flights : ℕ → Option Flight) (d : ℕ) (f : Flight) → ((d e g : ℕ) → d ≢ e → touches (flights d) g ≡ true → touches (flights e) g ≡ false)
    → ((e g : ℕ) → touches (Some f) g ≡ true → touches (flights e) g ≡ false) → (x y g : ℕ) → x ≢ y → touches (with_flight d (Some f) flights x) g ≡ true
    → touches (with_flight d (Some f) flights y) g ≡ false
more_apart flights d f old new x y g ne is =
    ⊎_elim
    (λ (at_x : x ≡ d).
    let other : y ≢ d = λ e. ne (at_x ∙ sym e) in
    ap (λ z. touches z g) (with_flight_other d y (Some f) flights other)
    ∙ new y g (ap (λ z. touches z g) (sym (with_flight_is x d (Some f) flights at_x)) ∙ is))
    (λ (other : x ≢ d).
    let was : touches (flights x) g ≡ true = ap (λ z. touches z g) (sym (with_flight_other d x (Some f) flights other)) ∙ is in
    ⊎_elim
    (λ (at_y : y ≡ d).
    ap (λ z. touches z g) (with_flight_is y d (Some f) flights at_y)
    ∙ false_from_ne_true _ (λ touched. false≢true (sym (new x g touched) ∙ was)))
    (λ (apart : y ≢ d). ap (λ z. touches z g) (with_flight_other d y (Some f) flights apart) ∙ old x y g ne was)
    (cases_eq y d))
    (cases_eq x d)

module _ (flights : ℕ → Option Flight) (mine : List ℕ) (answer : Question → ℕ) (s : State) (flying : AreFlying flights s) where
  also : (d : ℕ) (o : TransferOrder) (first last : ℕ) (after : Registers) → IsChecked s.stock.claims (Starting d o first last after)
      → HidesNone (pending_in_flight flights) (effect_needs mine (Starting d o first last after))
      → AreFlying (flights_after flights s (Starting d o first last after))
      (perform answer (Starting d o first last after) s)
  also d o first last after checked none =
      record {
        sized = old.sized;
        each = λ x.
            ⊎_elim
            (λ (same : x ≡ d). subst (IfFlight later x) (sym (with_flight_is x d (Some f) flights same)) (subst (λ y. InFlight later y f) (sym same) this))
            (λ (other : x ≢ d). subst (IfFlight later x) (sym (with_flight_other d x (Some f) flights other)) (old.each x))
            (cases_eq x d);
        apart = more_apart flights d f flying.apart (λ e g is. free_area flights s o first last e g flying checked.1 (or_parts _ _ none).1 is);
      }
    where
      f : Flight
      f = beginning o first last s

      later : State
      later = perform answer (Starting d o first last after) s

      old : AreFlying flights later
      old = still_flying flights mine answer s (Starting d o first last after) none flying

      same_claims : later.stock.claims ≡ s.stock.claims
      same_claims = transferred_claims d o first last (fixture_at s.stock.claims d) s.stock

      size : length later.stock.store ≡ length s.stock.store
      size = sym (perform_leaves (pending_in_flight flights) mine answer (Starting d o first last after) s none).size

      this : InFlight later d f
      this =
          record {
            claimed = ap (λ (c : Claims). is_kind (kind_of o) (claim c d)) same_claims ∙ checked.0;
            fixture = ap (λ (c : Claims). fixture_at c d) same_claims;
            size = size;
            area = λ has. subst (IsArea first last) (sym flying.sized ∙ sym size) (checked.1 has);
            moved = omega arith;
            words = λ a is. refl;
            device = refl;
          }

  flying_any : (e : Effect) → IsChecked s.stock.claims e → HidesNone (pending_in_flight flights) (effect_needs mine e)
      → AreFlying (flights_after flights s e) (perform answer e s)
  flying_any (Starting d o first last after) checked none = also d o first last after checked none
  flying_any e checked none = still_flying flights mine answer s e none flying

  pub row_flying : HidesNone (pending_in_flight flights) (needs s mine) → AreFlying (flights_after flights s (next_effect s)) (row s answer)
  row_flying none = flying_any (next_effect s) (next_checked s) (parts_apart flights mine s none).1
