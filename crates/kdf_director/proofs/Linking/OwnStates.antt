-- The programs of a machine, by the numbers of their slots.
use Rattle.std.specs.Prelude.{find}
use Rattle.std.specs.Option.{option_map}
use Rattle.std.proofs.Common.{◌≡◌, ◌≢◌, ℕ, ◌<◌, Bool, true, eqb, List, length, get_or, Option, Some, None, is_some, refl, sym, ap, ◌∙◌, ⊎_elim, arith}
use Rattle.std.proofs.lemmas.Bool.{cases_eq, cases_lt, eq-eqb, eqb-true}
use Rattle.std.proofs.lemmas.List.{get_or-map, length-map}
use Rattle.std.proofs.lemmas.List.FromFn.{length-map-range_with_len, get_or-map-range_with_len}
use Rattle.kdf_journal.specs.declared.entry.Entry.{Entry}
use Rattle.kdf_transfer.specs.Slots.{Slot}
use Rattle.kdf_processor.specs.State.{State}
use Rattle.kdf_director.specs.Fields.Agrees.{Agrees}
use Rattle.kdf_director.specs.Fields.Following.{asked_at}
use Rattle.kdf_yard.specs.Fields.Parts.{Reach, Seat}
use Rattle.kdf_places.specs.Shared.{Shared}
use Rattle.kdf_yard.specs.Fields.Running.{no_seat, own_state, seat_at}
use Rattle.kdf_theory.specs.MachineView.{MachineView, state_of}
use Rattle.kdf_director.specs.Fields.Viewed.{states_in}
use Rattle.kdf_theory.specs.Slots.{no_slot, start_of}
use Rattle.kdf_theory.proofs.Lists.{find_at, find_none, state_in_at, state_in_some}

module _ (slots : List Slot) (reaches : List Reach) (seats : List Seat) (s : Shared) (J : List Entry) (room : ℕ) (a : Agrees slots reaches seats s J) where
  abbrev pub m : MachineView
  m = record { slots = slots; states = states_in reaches seats s J; journal = J; room = room }

  abbrev pub own_at : ℕ → State
  own_at i = own_state reaches seats s (asked_at seats J i) i

  pub as_many : length slots ≡ length seats
  as_many = sym (length-map slots (λ (x : Slot). x.p)) ∙ ap length (sym a.numbers) ∙ length-map seats (λ (x : Seat). x.p)

  pub number_is : (i : ℕ) → i < length seats → (get_or slots i no_slot).p ≡ (seat_at seats i).p
  number_is i lt =
      sym (get_or-map (λ (x : Slot). x.p) slots i no_slot 0 (let e = as_many in omega arith))
      ∙ ap (λ xs. get_or xs i 0) (sym a.numbers)
      ∙ get_or-map (λ (x : Seat). x.p) seats i no_seat 0 lt

  -- no two programs have one number
  pub same_number : (i j : ℕ) → i < length seats → j < length seats → (seat_at seats i).p ≡ (seat_at seats j).p → i ≡ j
  same_number i j lt lt' same =
      ⊎_elim
      (λ (is : i ≡ j). is)
      (λ (ne : i ≢ j).
      ⊎_elim
      (λ (low : i < j). let less = a.running.numbered i j low lt' in absurd (omega arith))
      (λ high. let less = a.running.numbered j i (omega arith) lt in absurd (omega arith))
      (cases_lt i j))
      (cases_eq i j)

  -- the state of program i
  pub state_is : (p i : ℕ) → i < length seats → (seat_at seats i).p ≡ p → state_of m p ≡ Some (own_at i)
  state_is p i lt is =
      state_in_at slots m.states p i no_slot (start_of None) (let e = as_many in omega arith) (let e = count in omega arith) (number_is i lt ∙ is)
      (λ j low same. let less = a.running.numbered j i low lt in let e : (seat_at seats j).p ≡ p = sym (number_is j (omega arith)) ∙ same in omega arith)
      ∙ ap Some (get_or-map-range_with_len own_at 0 (length seats) i i (start_of None) lt (omega arith))
    where
      count : length m.states ≡ length seats
      count = length-map-range_with_len own_at 0 (length seats)

  -- and where there is a state, it is that of a program
  pub program_is : (p : ℕ) → is_some (state_of m p) ≡ true → (i : ℕ) × (i < length seats) × ((seat_at seats i).p ≡ p)
  program_is p is =
      let found = state_in_some slots m.states p no_slot is in
      let lt : found.0 < length seats = (let e = as_many in let low = found.1 in omega arith) in
      (found.0, lt, sym (number_is found.0 lt) ∙ found.3)

  abbrev has_number : ℕ → Seat → Bool
  has_number p x = eqb x.p p

  -- the program of a number is the one whose state it is
  pub found_state : (p : ℕ) (x : Seat) → find (has_number p) seats ≡ Some x → (i : ℕ) × (i < length seats) × (seat_at seats i ≡ x)
      × (state_of m p ≡ Some (own_at i))
  found_state p x is =
      let found = find_at (has_number p) seats x no_seat is in
      let number : (seat_at seats found.0).p ≡ p = ap (λ (y : Seat). y.p) found.2 ∙ eqb-true x.p p found.3 in
      (found.0, found.1, found.2, state_is p found.0 found.1 number)

  pub none_state : (p : ℕ) → find (has_number p) seats ≡ None → state_of m p ≡ None
  none_state p is = by_state (state_of m p) refl
    where
      by_state : (o : Option State) → state_of m p ≡ o → state_of m p ≡ None
      by_state None none = none
      by_state (Some x) some =
          let there = program_is p (ap is_some some) in
          cc (sym (find_none (has_number p) seats no_seat is there.0 there.1) ∙ eq-eqb (seat_at seats there.0).p p there.2)

  -- what is the same of a program and of its state
  pub told_of : {X : Type 0} (f : Seat → X) (g : State → X) (p : ℕ) → ((i : ℕ) → i < length seats → g (own_at i) ≡ f (seat_at seats i))
      → option_map f (find (has_number p) seats) ≡ option_map g (state_of m p)
  told_of f g p same = by_seat (find (has_number p) seats) refl
    where
      by_seat : (o : Option Seat) → find (has_number p) seats ≡ o → option_map f o ≡ option_map g (state_of m p)
      by_seat None none = sym (ap (option_map g) (none_state p none))
      by_seat (Some x) some =
          let found = found_state p x some in
          ap (λ y. Some (f y)) (sym found.2)
          ∙ ap Some (sym (same found.0 found.1))
          ∙ sym (ap (option_map g) found.3)
