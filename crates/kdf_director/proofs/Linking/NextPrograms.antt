-- The program that goes on by the fields of a machine is the one that is next by the journal.
use Rattle.std.specs.Prelude.{find}
use Rattle.std.specs.List.{list_any}
use Rattle.std.proofs.Common.{◌≡◌, ◌≢◌, ℕ, zero, suc, ◌<◌, ◌≤◌, Bool, true, false, eqb, ◌&&◌, not, List, [], ◌∷◌, length, get_or, map, Option, Some, None}
use Rattle.std.proofs.Common.{is_some, cond, refl, sym, ap, ap₂, ◌∙◌, subst, ⊎_elim, arith}
use Rattle.std.proofs.lemmas.Bool.{and_parts, cases_Bool, cases_eq, eq-eqb, eqb-true, false≢true, ne_eqb}
use Rattle.std.proofs.lemmas.List.{get_or-map, length-map}
use Rattle.kdf_journal.specs.declared.entry.Entry.{Entry}
use Rattle.kdf_journal.specs.declared.journal.TheConstants.{CALL_LIMIT}
use Rattle.kdf_journal.specs.Counts.{last_hold, over, priorities}
use Rattle.kdf_journal.proofs.Bounds.{ran-le-calls}
use Rattle.kdf_processor.specs.Lone.{is_live}
use Rattle.kdf_processor.specs.declared.registers.Registers.{Registers}
use Rattle.kdf_journal.specs.declared.need.Need.{Need}
use Rattle.kdf_transfer.specs.Slots.{Slot}
use Rattle.kdf_processor.specs.State.{State}
use Rattle.kdf_director.specs.Fields.Agrees.{Agrees}
use Rattle.kdf_director.specs.Fields.Following.{asked_at}
use Rattle.kdf_yard.specs.Fields.Going.{first_going, goes_at, hold_at, if_goes, is_stopped, or_else, place_of, AreNearHolds, IsNearHold}
use Rattle.kdf_course.specs.World as course
use Rattle.kdf_course.specs.World.{can_go, stands}
use Rattle.kdf_theory.specs.Next.{any_live, dispatched, lives, next}
use Rattle.kdf_yard.specs.Fields.Parts.{Reach, Seat, is_lent_by}
use Rattle.kdf_places.specs.Shared.{Shared}
use Rattle.kdf_yard.specs.Fields.Running.{no_seat, own_state, reach_at, seat_at}
use Rattle.kdf_theory.specs.Slots.{no_slot, slot_of}
use Rattle.kdf_theory.specs.ByJournal.{own, world_after}
use Rattle.kdf_theory.specs.World.{World}
use Rattle.kdf_yard.proofs.Physical.FirstFound.{any_fails, any_is, any_none, any_there, found_first, none_found}
use Rattle.kdf_journal.specs.declared.need.Need.TheVariants.{Group, Device, Pool}
use Rattle.kdf_director.proofs.Linking.JudgedAlike.{group_same, pending_same}
use Rattle.kdf_theory.proofs.Course.LegalFacts.{legal_alive}
use Rattle.kdf_director.proofs.Course.HoldsInside.{legal-near, own_size, size_of}
use Rattle.kdf_theory.proofs.Course.FlightsOnCourse.{legal-course}
use Rattle.kdf_theory.proofs.Course.OwnSteps.{own-ran}
use Rattle.kdf_theory.proofs.Course.Worlds.{find_true}
use Rattle.kdf_yard.specs.Fields.Shared.{moment}

-- ---- slots by number

-- a slot of this number stands in the list
slot_from : (slots : List Slot) (k : ℕ) → is_some (slot_of slots k) ≡ true → (i : ℕ) × (i < length slots) × ((get_or slots i no_slot).p ≡ k)
slot_from [] k is = cc
slot_from (x ∷ slots) k is =
    ⊎_elim
    (λ (same : x.p ≡ k). (0, omega arith, same))
    (λ (ne : x.p ≢ k).
    let rest = slot_from slots k (sym (ap (λ b. is_some (cond b (Some x) (slot_of slots k))) (ne_eqb x.p k ne)) ∙ is) in
    (suc rest.0, (let lt = rest.1 in omega arith), rest.2))
    (cases_eq x.p k)

-- and is found there
slot_there : (slots : List Slot) (i : ℕ) → i < length slots → is_some (slot_of slots (get_or slots i no_slot).p) ≡ true
slot_there [] i lt = absurd (omega arith)
slot_there (x ∷ slots) zero lt = ap (λ b. is_some (cond b (Some x) (slot_of slots x.p))) (eq-eqb x.p x.p refl)
slot_there (x ∷ slots) (suc i) lt =
    ⊎_elim
    (λ (same : x.p ≡ p). ap (λ b. is_some (cond b (Some x) (slot_of slots p))) (eq-eqb x.p p same))
    (λ (ne : x.p ≢ p). ap (λ b. is_some (cond b (Some x) (slot_of slots p))) (ne_eqb x.p p ne) ∙ slot_there slots i (omega arith))
    (cases_eq x.p p)
  where
    p : ℕ
    p = (get_or slots i no_slot).p

module _ (slots : List Slot) (reaches : List Reach) (seats : List Seat) (s : Shared) (J : List Entry) (a : Agrees slots reaches seats s J) where
  abbrev p : ℕ → ℕ
  p i = (seat_at seats i).p

  abbrev ps : List ℕ
  ps = map (λ (x : Seat). x.p) seats

  many : length ps ≡ length seats
  many = length-map seats (λ (x : Seat). x.p)

  p_at : (i : ℕ) → i < length seats → get_or ps i 0 ≡ p i
  p_at i lt = get_or-map (λ (x : Seat). x.p) seats i no_seat 0 lt

  same_many : length seats ≡ length slots
  same_many = sym many ∙ ap length a.numbers ∙ length-map slots (λ (x : Slot). x.p)

  slot_at : (i : ℕ) → i < length seats → (get_or slots i no_slot).p ≡ p i
  slot_at i lt =
      let e = same_many in
      let within : i < length slots = omega arith in
      sym (get_or-map (λ (x : Slot). x.p) slots i no_slot 0 within)
      ∙ ap (λ xs. get_or xs i 0) (sym a.numbers)
      ∙ p_at i lt

  -- the numbers of the programs rise, and are of the four
  up : (i j : ℕ) → i < j → j < length ps → get_or ps i 0 < get_or ps j 0
  up i j low lt =
      let e = many in
      let within : j < length seats = omega arith in
      let earlier : i < length seats = omega arith in
      let rises = a.running.numbered i j low within in
      omega (arith, p_at i earlier, p_at j within)

  four : (i : ℕ) → i < length ps → get_or ps i 0 < 4
  four i lt =
      let e = many in
      let within : i < length seats = omega arith in
      let inside : i < length slots = (let m = same_many in omega arith) in
      let small = a.four i no_slot inside in
      omega (arith, p_at i within, slot_at i within)

  pub of_four : (i : ℕ) → i < length seats → p i < 4
  of_four i lt =
      let e = many in
      let small = four i (omega arith) in
      omega (arith, small, p_at i lt)

  -- a slot is some program's
  has_program : (k : ℕ) → is_some (slot_of slots k) ≡ true → (i : ℕ) × (i < length ps) × (get_or ps i 0 ≡ k)
  has_program k is =
      let x = slot_from slots k is in
      let m = same_many in
      let n = many in
      let lt = x.1 in
      let within : x.0 < length seats = omega arith in
      (x.0, omega arith, p_at x.0 within ∙ sym (slot_at x.0 within) ∙ x.2)

  has_slot : (i : ℕ) → i < length seats → is_some (slot_of slots (p i)) ≡ true
  has_slot i lt = subst (λ k. is_some (slot_of slots k) ≡ true) (slot_at i lt) (slot_there slots i (let m = same_many in omega arith))

  -- ---- a program of the machine

  registers_own : (i n : ℕ) → (seat_at seats i).registers ≡ (own_state reaches seats s n i).registers
  unfolding own_state
  registers_own i n = refl

  -- its registers are those of its lone run
  registers_are : (i : ℕ) → i < length seats → (seat_at seats i).registers ≡ (own slots J (p i)).registers
  registers_are i lt = registers_own i (asked_at seats J i) ∙ ap (λ (x : State). x.registers) (a.following.each i lt).is_seen

  size_own : (i n : ℕ) → (reach_at reaches i).size ≡ (own_state reaches seats s n i).stock.claims.size
  unfolding own_state
  size_own i n = refl

  -- and so is the size of its store
  size_at : (i : ℕ) → i < length seats → (reach_at reaches i).size ≡ size_of slots (p i)
  size_at i lt = size_own i (asked_at seats J i) ∙ ap (λ (x : State). x.stock.claims.size) (a.following.each i lt).is_seen ∙ own_size slots J (p i)

  -- it is live where it lives by the journal
  pub live_same : (i : ℕ) → i < length seats → is_live (seat_at seats i).registers.state ≡ lives slots J (p i)
  unfolding course.lives
  live_same i lt =
      ap (λ (r : Registers). is_live r.state) (registers_are i lt)
      ∙ legal_alive slots J a.legal (p i)
      ∙ sym (ap (λ b. b && not (over (p i) J)) (has_slot i lt))

  -- a live one has obeyed no more orders than the journal answers calls
  pub few_ran : (i : ℕ) → i < length seats → is_live (seat_at seats i).registers.state ≡ true → (seat_at seats i).registers.ran ≤ CALL_LIMIT
  few_ran i lt live =
      let count = own-ran slots J (p i) (sym (ap (λ (r : Registers). is_live r.state) (registers_are i lt)) ∙ live) in
      let few = a.few_calls in
      omega (arith, ap (λ (r : Registers). r.ran) (registers_are i lt), ran-le-calls (p i) J)

  module _ (holds : List (Option Need)) (have : holds ≡ map (λ (x : Seat). last_hold x.p J) seats) where
    hold_is : (i : ℕ) → i < length seats → hold_at holds i ≡ last_hold (p i) J
    hold_is i lt = ap (λ (hs : List (Option Need)). hold_at hs i) have ∙ get_or-map (λ (x : Seat). last_hold x.p J) seats i no_seat None lt

    near_at : (i : ℕ) → i < length seats → IsNearHold (reach_at reaches i).size (last_hold (p i) J)
    near_at i lt = subst (λ n. IsNearHold n (last_hold (p i) J)) (sym (size_at i lt)) (legal-near slots J a.legal (p i))

    -- a group that held it is one of its store
    pub near_holds : AreNearHolds reaches holds
    near_holds i lt =
        let within : i < length seats = omega (arith, ap length have, length-map seats (λ (x : Seat). last_hold x.p J)) in
        subst (IsNearHold (reach_at reaches i).size) (sym (hold_is i within)) (near_at i within)

    module _ (states : ℕ → State) where
      abbrev w : World
      w = world_after slots J states

      -- what held it is pending by its fields where it is by the journal
      stopped_by : (i : ℕ) → i < length seats → (o : Option Need) → IsNearHold (reach_at reaches i).size o
          → is_stopped (reach_at reaches i) (is_lent_by seats) s o ≡ stands (dispatched slots w) (p i) o
      stopped_by i lt None near = refl
      stopped_by i lt (Some (Group g)) near = group_same slots J reaches seats s a.running a.following i lt (legal-course slots J a.are a.legal (p i)) g near
      stopped_by i lt (Some (Device d)) near = a.following.busy d
      stopped_by i lt (Some (Pool kind)) near = pending_same slots J reaches seats s a.running a.following i lt (legal-course slots J a.are a.legal (p i))
          a.lent (moment 0 0) (Pool kind) tt

      goes_same : (i : ℕ) → i < length seats → goes_at reaches seats holds s i ≡ can_go (dispatched slots w) J (p i)
      unfolding can_go
      goes_same i lt =
          ap₂ (λ b c. b && not c) (live_same i lt)
          (ap (is_stopped (reach_at reaches i) (is_lent_by seats) s) (hold_is i lt) ∙ stopped_by i lt (last_hold (p i) J) (near_at i lt))

      -- a slot whose program goes on by the journal is some program's
      only_programs : (k : ℕ) → can_go (dispatched slots w) J k ≡ true → is_some (slot_of slots k) ≡ true
      unfolding can_go course.lives
      only_programs k is =
          (and_parts (is_some (slot_of slots k)) (not (over k J))
          (and_parts (is_some (slot_of slots k) && not (over k J)) (not (stands (dispatched slots w) k (last_hold k J))) is).0).0

      -- the program in a slot
      is_at : (k i : ℕ) → place_of seats k ≡ Some i → (i < length seats) × (p i ≡ k)
      unfolding place_of
      is_at k i is =
          let first = found_first (λ j. eqb (p j) k) 0 (length seats) i is in
          let high = first.high in
          (omega arith, eqb-true (p i) k first.passes)

      none_at : (k : ℕ) → place_of seats k ≡ None → can_go (dispatched slots w) J k ≡ false
      unfolding place_of
      none_at k is =
          ⊎_elim
          (λ (goes : can_go (dispatched slots w) J k ≡ true).
          let x = has_program k (only_programs k goes) in
          let e = many in
          let lt = x.1 in
          let within : x.0 < length seats = omega arith in
          absurd (false≢true (sym (none_found (λ j. eqb (p j) k) 0 (length seats) is x.0 (omega arith) (omega arith))
          ∙ eq-eqb (p x.0) k (sym (p_at x.0 within) ∙ x.2))))
          (λ (stays : can_go (dispatched slots w) J k ≡ false). stays)
          (cases_Bool (can_go (dispatched slots w) J k))

      goes_at_place : (i : ℕ) → i < length seats → (k : ℕ) → p i ≡ k → goes_at reaches seats holds s i ≡ can_go (dispatched slots w) J k
      goes_at_place i lt k e = goes_same i lt ∙ ap (can_go (dispatched slots w) J) e

      -- the program in a slot goes on where it does by the journal
      at_place : (k : ℕ) (o : Option ℕ) → place_of seats k ≡ o → if_goes reaches seats holds s o ≡ cond (can_go (dispatched slots w) J k) o None
      at_place k None is = sym (ap (λ b. cond b None None) (none_at k is))
      at_place k (Some i) is =
          let x = is_at k i is in
          ap (λ b. cond b (Some i) None) (goes_at_place i x.0 k x.1)

      -- the place of the first that goes on
      abbrev placed : Option ℕ → Option ℕ
      placed None = None
      placed (Some k) = place_of seats k

      has_place : (k : ℕ) (o : Option ℕ) → place_of seats k ≡ o → can_go (dispatched slots w) J k ≡ true → is_some o ≡ true
      has_place k None is goes = absurd (false≢true (sym (none_at k is) ∙ goes))
      has_place k (Some i) is goes = refl

      or_some : (o : Option ℕ) (other : Option ℕ) → is_some o ≡ true → or_else o other ≡ o
      or_some None other is = cc
      or_some (Some i) other is = refl

      first_by : (k : ℕ) (ks : List ℕ) (b : Bool) → can_go (dispatched slots w) J k ≡ b
          → first_going reaches seats holds s ks ≡ placed (find (can_go (dispatched slots w) J) ks)
          → first_going reaches seats holds s (k ∷ ks) ≡ placed (cond b (Some k) (find (can_go (dispatched slots w) J) ks))
      first_by k ks true is rest =
          ap (λ o. or_else o (first_going reaches seats holds s ks)) (at_place k (place_of seats k) refl ∙ ap (λ b. cond b (place_of seats k) None) is)
          ∙ or_some (place_of seats k) (first_going reaches seats holds s ks) (has_place k (place_of seats k) refl is)
      first_by k ks false is rest =
          ap (λ o. or_else o (first_going reaches seats holds s ks)) (at_place k (place_of seats k) refl ∙ ap (λ b. cond b (place_of seats k) None) is)
          ∙ rest

      first_placed : (ks : List ℕ) → first_going reaches seats holds s ks ≡ placed (find (can_go (dispatched slots w) J) ks)
      first_placed [] = refl
      first_placed (k ∷ ks) =
          first_by k ks (can_go (dispatched slots w) J k) refl (first_placed ks)

      is_found : (ks : List ℕ) (i : ℕ) (o : Option ℕ) → find (can_go (dispatched slots w) J) ks ≡ o → placed o ≡ Some i → (i < length seats) × (o ≡ Some (p i))
          × (can_go (dispatched slots w) J (p i) ≡ true)
      is_found ks i None e is = cc
      is_found ks i (Some k) e is =
          let x = is_at k i is in
          (x.0, ap Some (sym x.1), ap (can_go (dispatched slots w) J) x.1 ∙ find_true (can_go (dispatched slots w) J) ks k e)

      -- the first that goes on is next
      pub is_next : (i : ℕ) → first_going reaches seats holds s (priorities J) ≡ Some i
          → (i < length seats) × (is_live (seat_at seats i).registers.state ≡ true) × (next w slots J ≡ Some (p i))
      unfolding course.next
      is_next i is =
          let x = is_found (priorities J) i (find (can_go (dispatched slots w) J) (priorities J)) refl (sym (first_placed (priorities J)) ∙ is) in (
            x.0,
            (and_parts (is_live (seat_at seats i).registers.state) (not (is_stopped (reach_at reaches i) (is_lent_by seats) s (hold_at holds i)))
                (goes_same i x.0 ∙ x.2)).0,
            x.1,
          )

      none_placed : (ks : List ℕ) (o : Option ℕ) → find (can_go (dispatched slots w) J) ks ≡ o → placed o ≡ None → o ≡ None
      none_placed ks None e is = refl
      none_placed ks (Some k) e is = absurd (false≢true
          (ap is_some (sym is) ∙ has_place k (place_of seats k) refl (find_true (can_go (dispatched slots w) J) ks k e)))

      -- and where none does, none is
      pub none_next : first_going reaches seats holds s (priorities J) ≡ None → next w slots J ≡ None
      unfolding course.next
      none_next is = none_placed (priorities J) (find (can_go (dispatched slots w) J) (priorities J)) refl (sym (first_placed (priorities J)) ∙ is)

  -- ---- live programs
  lives_by : (i : ℕ) → i < length ps → lives slots J (get_or ps i 0) ≡ is_live (seat_at seats i).registers.state
  lives_by i lt =
      let e = many in
      let within : i < length seats = omega arith in
      ap (lives slots J) (p_at i within) ∙ sym (live_same i within)

  only_live : (k : ℕ) → lives slots J k ≡ true → (i : ℕ) × (i < length ps) × (get_or ps i 0 ≡ k)
  unfolding course.lives
  only_live k is = has_program k (and_parts (is_some (slot_of slots k)) (not (over k J)) is).0

  -- a program is live exactly where one is by the journal
  pub any_same : list_any (λ (y : Seat). is_live y.registers.state) seats ≡ any_live slots J
  unfolding course.any_live
  any_same =
      ⊎_elim
      (λ (is : list_any (λ (y : Seat). is_live y.registers.state) seats ≡ true).
      let x = any_there (λ (y : Seat). is_live y.registers.state) seats no_seat is in
      let e = many in
      let lt = x.1 in
      is ∙ sym (any_is (lives slots J) ps up four only_live x.0 (omega arith) (lives_by x.0 (omega arith) ∙ x.2)))
      (λ (none : list_any (λ (y : Seat). is_live y.registers.state) seats ≡ false).
      none
      ∙ sym (any_fails (lives slots J) ps up four only_live
      (λ i lt. lives_by i lt ∙ any_none (λ (y : Seat). is_live y.registers.state) seats no_seat none i (let e = many in omega arith))))
      (cases_Bool (list_any (λ (y : Seat). is_live y.registers.state) seats))
