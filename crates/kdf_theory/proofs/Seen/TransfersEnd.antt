-- A transfer that ends shows its device, and the words that are left.
use Rattle.std.proofs.Common.{◌≡◌, ◌≢◌, ℕ, ◌+◌, ◌<◌, ◌≤◌, min, false, eqb, List, length, get_or, set, Option, Some, None, refl, sym, ap, ◌∙◌, subst, ⊎_elim}
use Rattle.std.proofs.Common.{arith}
use Rattle.std.specs.List.{list_any}
use Rattle.std.proofs.lemmas.Bool.{cases_eq, false≢true}
use Rattle.std.proofs.lemmas.List.{get_or-set_same, get_or-set_other, length-set, drop_all, take_all, length-drop}
use Rattle.kdf_transfer.specs.AtOnce.{written}
use Rattle.kdf_transfer.specs.Devices.{DeviceProgress, new_progress}
use Rattle.kdf_processor.specs.State.{State, word_at, device_at, device_in}
use Rattle.kdf_transfer.specs.ByNumber.{device_count}
use Rattle.kdf_theory.specs.Flights.{Flight, move_count, arrivals, unmoved, completed, touches, with_flight, moved_to, with_moved}
use Rattle.kdf_theory.specs.Seen.{covers, seen_device, seen, with_store, with_both}
use Rattle.kdf_theory.specs.Flying.{InFlight, IfFlight, AreFlying}
use Rattle.kdf_theory.proofs.Seen.SeenStates.{same_states, seen_word_at, seen_device_at, seen_size, seen_number}
use Rattle.kdf_theory.proofs.Seen.OrdersSeen.{with_flight_is, with_flight_other, look, look_apart, seen_word_alike}
use Rattle.kdf_theory.proofs.Seen.WordsMove.{few_arrivals, moves_seen}

-- a state with other devices
abbrev with_devices : State → List DeviceProgress → State
with_devices s devices = record s { stock = record s.stock { devices = devices } }

-- a transfer of which all words have moved gives its device its new state when it ends, and nothing else
module _ (flights : ℕ → Option Flight) (s : State) (d : ℕ) (f : Flight) (this : flights d ≡ Some f) (flying : AreFlying flights s) where
  here : InFlight s d f
  here = subst (IfFlight s d) this (flying.each d)

  end_seen : seen (with_flight d None flights) s ≡ with_devices (seen (with_moved d (move_count d f) f flights) s)
      (set (seen (with_moved d (move_count d f) f flights) s).stock.devices d (device_in (completed d f) d))
  end_seen =
      same_states _ _ (record { registers = refl; claims = refl; spooled = refl; asked = refl; stints = refl })
      (seen_size (with_flight d None flights) s ∙ sym (seen_size moved s))
      (seen_number (with_flight d None flights) s ∙ sym (seen_number moved s) ∙ sym (length-set (seen moved s).stock.devices d (device_in (completed d f) d)))
      (λ a lt.
      let within : a < length s.stock.store = omega (arith, seen_size (with_flight d None flights) s) in
      seen_word_at (with_flight d None flights) s a within
      ∙ seen_word_alike device_count (with_flight d None flights) moved a (word_at s a)
      (λ e x. ⊎_elim
      (λ (at_d : e ≡ d).
      ap (λ g. look e g a x) (with_flight_is e d None flights at_d)
      ∙ sym (ap (λ g. look e g a x) (with_flight_is e d (Some (moved_to (move_count d f) f)) flights at_d)
      ∙ look_apart e (Some (moved_to (move_count d f) f)) a x (subst (λ y. covers y (Some (moved_to (move_count d f) f)) a ≡ false) (sym at_d) (none_left a))))
      (λ (ne : e ≢ d).
      ap (λ g. look e g a x) (with_flight_other d e None flights ne)
      ∙ sym (ap (λ g. look e g a x) (with_flight_other d e (Some (moved_to (move_count d f) f)) flights ne)))
      (cases_eq e d))
      ∙ sym (seen_word_at moved s a within))
      (λ x lt.
      let within : x < length s.stock.devices = omega (arith, seen_number (with_flight d None flights) s) in
      seen_device_at (with_flight d None flights) s x within ∙ device x within)
    where
      moved : ℕ → Option Flight
      moved = with_moved d (move_count d f) f flights

      none_left : (a : ℕ) → covers d (Some (moved_to (move_count d f) f)) a ≡ false
      none_left a = ap (list_any (λ m. eqb m.0 a)) (drop_all (move_count d f) (arrivals d f) (few_arrivals d f))

      device : (x : ℕ) → x < length s.stock.devices → seen_device (with_flight d None flights x) x (device_at s x)
          ≡ get_or (set (seen moved s).stock.devices d (device_in (completed d f) d)) x new_progress
      device x within =
          ⊎_elim
          (λ (at_d : x ≡ d).
          let inside : d < length (seen moved s).stock.devices = omega (arith, seen_number moved s) in
          ap (λ g. seen_device g x (device_at s x)) (with_flight_is x d None flights at_d)
          ∙ ap (device_at s) at_d
          ∙ here.device
          ∙ sym (get_or-set_same (seen moved s).stock.devices d (device_in (completed d f) d) new_progress inside)
          ∙ sym (ap (λ y. get_or (set (seen moved s).stock.devices d (device_in (completed d f) d)) y new_progress) at_d))
          (λ (ne : x ≢ d).
          ap (λ g. seen_device g x (device_at s x)) (with_flight_other d x None flights ne
          ∙ sym (with_flight_other d x (Some (moved_to (move_count d f) f)) flights ne))
          ∙ sym (seen_device_at moved s x within)
          ∙ sym (get_or-set_other (seen moved s).stock.devices d x (device_in (completed d f) d) new_progress ne))
          (cases_eq x d)

  -- all words that are left are moved
  all_moved : seen (with_moved d (move_count d f) f flights) s ≡ with_store (seen flights s) (written (unmoved d f) (seen flights s).stock.store)
  all_moved =
      let e : move_count d f ≡ min (f.moved + move_count d f) (move_count d f) = omega arith in
      let short : length (unmoved d f) ≤ move_count d f = omega (arith, length-drop f.moved (arrivals d f), few_arrivals d f) in
      ap (λ k. seen (with_moved d k f flights) s) e
      ∙ moves_seen (move_count d f) flights s d f this flying
      ∙ ap (λ ms. with_store (seen flights s) (written ms (seen flights s).stock.store)) (take_all (move_count d f) (unmoved d f) short)

  -- the rest is moved, and the transfer ends
  pub ends_seen : seen (with_flight d None flights) s ≡ with_both (seen flights s) (written (unmoved d f) (seen flights s).stock.store)
      (set (seen flights s).stock.devices d (device_in (completed d f) d))
  ends_seen = end_seen ∙ ap (λ (t : State). with_devices t (set t.stock.devices d (device_in (completed d f) d))) all_moved

-- the others stay in flight
pub flying_ended : (flights : ℕ → Option Flight) (s : State) (d : ℕ) → AreFlying flights s → AreFlying (with_flight d None flights) s
flying_ended flights s d flying =
    record {
      sized = flying.sized;
      each = λ x.
          ⊎_elim
          (λ (same : x ≡ d). subst (IfFlight s x) (sym (with_flight_is x d None flights same)) tt)
          (λ (other : x ≢ d). subst (IfFlight s x) (sym (with_flight_other d x None flights other)) (flying.each x))
          (cases_eq x d);
      apart = λ x y g ne is.
          ⊎_elim
          (λ (same : y ≡ d). ap (λ z. touches z g) (with_flight_is y d None flights same))
          (λ (other : y ≢ d).
          ap (λ z. touches z g) (with_flight_other d y None flights other)
          ∙ ⊎_elim
          (λ (at_x : x ≡ d). absurd (false≢true (sym (ap (λ z. touches z g) (with_flight_is x d None flights at_x)) ∙ is)))
          (λ (off_x : x ≢ d). flying.apart x y g ne (sym (ap (λ z. touches z g) (with_flight_other d x None flights off_x)) ∙ is))
          (cases_eq x d))
          (cases_eq y d);
    }
