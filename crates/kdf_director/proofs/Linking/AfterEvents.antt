-- A machine in which words moved, a transfer ended, the clock was set, or priorities were exchanged.
use Rattle.std.proofs.Common.{◌≡◌, ℕ, ◌+◌, ◌-◌, ◌<◌, ◌≤◌, List, length, map, set, refl, sym, ap, ap₂, subst, arith}
use Rattle.std.proofs.lemmas.List.{length-map}
use Rattle.kdf_journal.specs.Counts.{clock}
use Rattle.kdf_journal.specs.Recorded.{Recorded}
use Rattle.kdf_journal.specs.Steps.{Moves, Ends, Sets, Swaps, added}
use Rattle.kdf_lockout.specs.Groups.{Cells}
use Rattle.kdf_places.specs.Shared.{Shared, shared_in}
use Rattle.kdf_places.specs.Spots.{AreDry, spot_at, spot_of}
use Rattle.kdf_places.specs.Transfers.{after_end, after_move, back_cells, ended_spot, last_lease, moved_spot, IsBack}
use Rattle.kdf_places.specs.declared.place.Place.{Place}
use Rattle.kdf_transfer.specs.ByNumber.{device_count}
use Rattle.kdf_transfer.proofs.Numbers.{limit_is}
use Rattle.kdf_director.specs.declared.machine.Machine.TheInside.{Inside}
use Rattle.kdf_director.specs.Advance.{OthersStay}
use Rattle.kdf_director.specs.Fields.Agrees.{Agrees, IsReady}
use Rattle.kdf_director.specs.Fields.Machines.{stands, IsMachine}
use Rattle.kdf_yard.specs.Fields.Parts.{Reach, Seat}
use Rattle.kdf_yard.specs.Fields.Running.{reaches_in, seats_in, IsRunning}
use Rattle.kdf_yard.specs.Fields.Standing.{Standing, standing, IsYard}
use Rattle.kdf_director.specs.Fields.Viewed.{shown_of}
use Rattle.kdf_theory.specs.MachineView.{MachineView, entered}
use Rattle.kdf_director.proofs.Linking.EventsEntered.{ended, entered_more, moved, ready_more, shown_seen, exchanged, timed}
use Rattle.kdf_director.proofs.Course.OthersStay.{stay-ended, stay-exchanged, stay-moved, stay-timed}
use Rattle.kdf_yard.proofs.Turns.FlightsMove.{back, ended_running, flown_running}
use Rattle.kdf_yard.proofs.Turns.TurnsShow.{share}

-- a transfer on device d moves or ends in the fields of a machine: what is shared changes, and the programs stay
module _ (m : Inside) (is : IsMachine m) (d : ℕ) (lt : d < 16) where
  abbrev rs : List Reach
  rs = reaches_in m.windows m.slots.items

  abbrev ps : List Seat
  ps = seats_in m.programs.items

  abbrev s : Shared
  s = shared_in m.store m.devices.items

  small : d < device_count
  small = omega (arith, limit_is, lt)

  -- it has a place
  pub has_place : d < length m.devices.items
  has_place = let spots = is.yard.running.sound.spots in omega (arith, limit_is, length-map m.devices.items spot_of, lt)

  module _ (store : Cells) (places : List Place) (dry : AreDry places) where
    abbrev z : Standing
    z = standing m.slots.items m.windows store m.programs.items places

    yard_then : (t : Shared) → shared_in store places ≡ t → IsRunning rs ps t → IsYard m.slots.items m.windows store m.programs.items places
    yard_then t later runs =
        record { placed = is.yard.placed; many = is.yard.many; dry = dry; running = subst (λ (x : Shared). IsRunning rs ps x) (sym later) runs }

    module _ (n : ℕ) (store_is : store ≡ m.store)
        (spots : map spot_of places ≡ set (map spot_of m.devices.items) d (moved_spot n (spot_at (map spot_of m.devices.items) d))) where
      later_moved : shared_in store places ≡ after_move d n s
      later_moved = ap₂ share store_is spots

      pub stands_moved : z ≡ record (stands m) { shared = after_move d n s }
      stands_moved = ap (λ (x : Shared). record (stands m) { shared = x }) later_moved

      pub yard_moved : IsYard m.slots.items m.windows store m.programs.items places
      yard_moved = yard_then (after_move d n s) later_moved (flown_running rs ps s d is.yard.running small n)

    module _ (store_is : store ≡ back_cells (last_lease (spot_at (map spot_of m.devices.items) d).flight) m.store)
        (spots : map spot_of places ≡ set (map spot_of m.devices.items) d (ended_spot (spot_at (map spot_of m.devices.items) d))) where
      later_ended : shared_in store places ≡ after_end d s
      later_ended = ap₂ share store_is spots

      pub stands_ended : z ≡ record (stands m) { shared = after_end d s }
      stands_ended = ap (λ (x : Shared). record (stands m) { shared = x }) later_ended

      pub yard_ended : IsYard m.slots.items m.windows store m.programs.items places
      yard_ended = yard_then (after_end d s) later_ended (ended_running rs ps s d is.yard.running small)

  -- what was lent for it can come back
  pub comes_back : IsBack m.store (last_lease (spot_at (map spot_of m.devices.items) d).flight)
  comes_back = back rs ps s d is.yard.running small

module _ (y : Standing) (J : Recorded) (room : ℕ) (ready : IsReady y J room) (some : 0 < room) (z : Standing) (K : Recorded) (taken : J.spare ≤ K.spare + 1)
  where
    abbrev old : MachineView
    old = shown_of y J room

    abbrev new : MachineView
    new = shown_of z K (room - 1)

    module _ (d n : ℕ) (lt : d < 16) (few : n ≤ 4096) (is : z ≡ record y { shared = after_move d n y.shared })
        (journal : K.entries ≡ added J.entries (Moves d n)) where
      agrees_moved : Agrees y.slots y.reaches y.seats (after_move d n y.shared) (added J.entries (Moves d n))
      agrees_moved = moved y.slots y.reaches y.seats y.shared J.entries ready.agrees d n lt (let f = ready.few_words in omega arith)

      pub ready_moved : IsReady z K (room - 1)
      ready_moved = ready_more y J room ready some z K taken (Moves d n) (after_move d n y.shared) is (λ p. refl) journal few agrees_moved

      pub shown_moved : new ≡ entered old (Moves d n)
      shown_moved = entered_more y J room ready some z K taken (Moves d n) (after_move d n y.shared) is (λ p. refl) journal few agrees_moved

      pub others_moved : OthersStay old new d
      others_moved = stay-moved old new ready.agrees.are ready.agrees.legal (shown_seen y J room ready) d n shown_moved

    module _ (d : ℕ) (lt : d < 16) (is : z ≡ record y { shared = after_end d y.shared }) (journal : K.entries ≡ added J.entries (Ends d)) where
      pub ready_ended : IsReady z K (room - 1)
      ready_ended =
          ready_more y J room ready some z K taken (Ends d) (after_end d y.shared) is (λ p. refl) journal (omega arith)
          (ended y.slots y.reaches y.seats y.shared J.entries ready.agrees d lt)

      pub shown_ended : new ≡ entered old (Ends d)
      shown_ended =
          entered_more y J room ready some z K taken (Ends d) (after_end d y.shared) is (λ p. refl) journal (omega arith)
          (ended y.slots y.reaches y.seats y.shared J.entries ready.agrees d lt)

      pub others_ended : OthersStay old new d
      others_ended = stay-ended old new ready.agrees.are ready.agrees.legal (shown_seen y J room ready) d shown_ended

module _ (y : Standing) (J : Recorded) (room : ℕ) (ready : IsReady y J room) (some : 0 < room) (K : Recorded) (taken : J.spare ≤ K.spare + 1) where
  abbrev was : MachineView
  was = shown_of y J room

  abbrev then : MachineView
  then = shown_of y K (room - 1)

  module _ (t : ℕ) (rises : clock J.entries ≤ t) (journal : K.entries ≡ added J.entries (Sets t)) where
    pub ready_timed : IsReady y K (room - 1)
    ready_timed = ready_more y J room ready some y K taken (Sets t) y.shared refl (λ p. refl) journal (omega arith)
        (timed y.slots y.reaches y.seats y.shared J.entries ready.agrees t rises)

    pub shown_timed : then ≡ entered was (Sets t)
    shown_timed = entered_more y J room ready some y K taken (Sets t) y.shared refl (λ p. refl) journal (omega arith)
        (timed y.slots y.reaches y.seats y.shared J.entries ready.agrees t rises)

    pub states_timed : then.states ≡ was.states
    states_timed = stay-timed was then ready.agrees.are ready.agrees.legal (shown_seen y J room ready) t shown_timed

  module _ (p q : ℕ) (slots_are : (p < 4) × (q < 4)) (journal : K.entries ≡ added J.entries (Swaps p q)) where
    pub ready_exchanged : IsReady y K (room - 1)
    ready_exchanged =
        ready_more y J room ready some y K taken (Swaps p q) y.shared refl (λ k. refl) journal (omega arith)
        (exchanged y.slots y.reaches y.seats y.shared J.entries ready.agrees p q slots_are)

    pub shown_exchanged : then ≡ entered was (Swaps p q)
    shown_exchanged =
        entered_more y J room ready some y K taken (Swaps p q) y.shared refl (λ k. refl) journal (omega arith)
        (exchanged y.slots y.reaches y.seats y.shared J.entries ready.agrees p q slots_are)

    pub states_exchanged : then.states ≡ was.states
    states_exchanged = stay-exchanged was then ready.agrees.are ready.agrees.legal (shown_seen y J room ready) p q shown_exchanged
