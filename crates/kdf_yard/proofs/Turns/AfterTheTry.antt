-- What a try of one order leaves of the machine.
use Rattle.std.specs.Prelude.{find, not, unwrap_or}
use Rattle.std.specs.List.{range_with_len}
use Rattle.std.proofs.Math.Path.{fun_ext}
use Rattle.std.proofs.Common.{◌≡◌, ◌≢◌, ℕ, ◌+◌, ◌<◌, ◌&&◌, ◌||◌, Bool, true, false, List, length, get_or, map, set, Option, Some, None, is_some, cond, refl}
use Rattle.std.proofs.Common.{sym, ap, ap₂, ◌∙◌, subst, ⊎_elim, arith}
use Rattle.std.proofs.lemmas.Bool.{cases_Bool, cases_eq, or_right}
use Rattle.std.proofs.lemmas.List.{get_or-set_other, get_or-set_same, length-set, set-set}
use Rattle.kdf_journal.specs.declared.need.Need.{Need}
use Rattle.kdf_processor.specs.declared.step.Step.{Step}
use Rattle.kdf_journal.specs.declared.need.Need.TheVariants.{Device}
use Rattle.kdf_processor.specs.Lone.{is_live}
use Rattle.kdf_journal.specs.declared.kind.Kind.{Kind}
use Rattle.kdf_transfer.specs.ByNumber.{device_count}
use Rattle.kdf_transfer.specs.Devices.{is_kind}
use Rattle.kdf_processor.specs.Effect.{Question, IsBusy, IsOut, Time, FreeOf, OfService}
use Rattle.kdf_processor.proofs.Frees.{none_of_kind}
use Rattle.kdf_processor.specs.View.{View, by_itself, first_pending}
use Rattle.kdf_processor.specs.State.{word_at}
use Rattle.kdf_processor.specs.Outcome.{Outcome, outcome}
use Rattle.kdf_yard.specs.declared.moment.Moment.{Moment}
use Rattle.kdf_theory.specs.Seen.{tried}
use Rattle.kdf_yard.specs.declared.remark.Remark.{Remark}
use Rattle.kdf_yard.specs.Fields.Remarks.{note_of}
use Rattle.kdf_yard.specs.Fields.Running.{AreHeld, no_seat, seat_at, reach_at, part_at, own_state, hold_of, outcome_at, IsRunning}
use Rattle.kdf_yard.specs.Fields.Parts.{Part, Seat, Reach, asked_after, borrower, in_pool, is_lent_by, own_stock, part_after}
use Rattle.kdf_yard.specs.Fields.Stints.{lends}
use Rattle.kdf_theory.specs.Holders.{is_taker}
use Rattle.kdf_places.specs.Shared.{Shared, is_busy_in}
use Rattle.kdf_places.specs.Words.{word_at_place}
use Rattle.kdf_yard.specs.Fields.Settled.{Both, both_of, holder_left, holder_over, retired, settled}
use Rattle.kdf_yard.specs.Fields.Shared.{after_act, answer_in, free_in, is_out_of, is_taken_by, setting, view}
use Rattle.kdf_places.specs.Spots.{leases_of, own_from, spot_at}
use Rattle.kdf_yard.specs.Fields.Turned.{both_after, outcome_over, told, HasRun, HasTurned}
use Rattle.kdf_yard.proofs.Physical.PartsShow.{own_word}
use Rattle.kdf_yard.proofs.Turns.Borrowers.{taker_is}
use Rattle.kdf_yard.proofs.Turns.ProgramsRetire.{HasRetired, alone_of, settled_all, settled_holder}
use Rattle.kdf_yard.proofs.Turns.DevicesSettled.{live_by, over_by, same_holder}
use Rattle.kdf_yard.proofs.Turns.OneOrder as turn
use Rattle.kdf_yard.proofs.Turns.MomentsKept.{running_tried}

-- the same device of the pool is free where the same ones are taken
none_here : (kind : Kind) (b : Bool) → (is_kind kind None && b) ≡ false
none_here kind b = ap (λ x. x && b) (none_of_kind kind)

and_alike : (kind : Kind) (o : Option Kind) (a b : Bool) → (is_some o ≡ true → a ≡ b) → (is_kind kind o && not a) ≡ (is_kind kind o && not b)
and_alike kind None a b is = none_here kind (not a) ∙ sym (none_here kind (not b))
and_alike kind (Some k) a b is = ap (λ c. is_kind kind (Some k) && not c) (is refl)

pub free_alike : (q : Part) (x y : ℕ → Bool) → ((d : ℕ) → in_pool q d ≡ true → x d ≡ y d) → (kind : Kind) → free_in q.pool x kind ≡ free_in q.pool y kind
unfolding free_in
free_alike q x y same kind = ap (λ f. find f (range_with_len 0 device_count)) (fun_ext (λ d. and_alike kind (get_or q.pool d None) (x d) (y d) (same d)))

-- and the same is shown
view_alike : (q : Part) (t : Moment) (s : Shared) (x y : ℕ → Bool) → ((d : ℕ) → in_pool q d ≡ true → x d ≡ y d)
    → view q (setting x t) s ≡ view q (setting y t) s
view_alike q t s x y same =
    ap₂ (λ (answer : Question → ℕ) (taken : Kind → Bool). let v : View =
    record (by_itself answer (own_stock q 0 s)) { is_out = is_out_of q s; is_busy = is_busy_in s; is_taken = taken; mine = own_from q.p 0 s.spots } in v)
    (fun_ext answers) (fun_ext (λ kind. ap (λ (o : Option ℕ). not (is_some o)) (free_alike q x y same kind)))
  where
    answers : (a : Question) → answer_in q (setting x t) s a ≡ answer_in q (setting y t) s a
    answers (IsBusy d) = refl
    answers (IsOut first last) = refl
    answers Time = refl
    answers (FreeOf kind) = ap (λ (o : Option ℕ). unwrap_or o 0) (free_alike q x y same kind)
    answers (OfService word) = refl

module _ (reaches : List Reach) (seats : List Seat) (t : Moment) (s : Shared) (p : ℕ) (run : IsRunning reaches seats s) (lt : p < length seats)
    (live : is_live (seat_at seats p).registers.state ≡ true) where
  abbrev q : Part
  q = part_at reaches seats p

  abbrev hold : Option Need
  hold = hold_of reaches seats s p

  abbrev o : Outcome
  o = turn.by reaches seats t s p run lt hold

  by_hold_is : outcome_over (seat_at seats p) (reach_at reaches p) (turn.told_by seats t) s ≡ o
  by_hold_is = turn.outcome_by reaches seats t s p run lt hold refl

  at_is : (n : ℕ) → outcome_at reaches seats s t n p ≡ o
  at_is n = turn.outcome_is reaches seats t s p run lt n

  -- the program and what is shared, after the order alone
  abbrev seat : Seat
  seat = turn.new reaches seats t s p run lt hold

  abbrev tried_seats : List Seat
  tried_seats = set seats p seat

  abbrev shared : Shared
  shared = turn.shared reaches seats t s p run lt hold

  running : IsRunning reaches tried_seats shared
  running = running_tried reaches seats t s p run lt live hold refl

  within : p < length tried_seats
  within = omega (arith, length-set seats p seat)

  there : seat_at tried_seats p ≡ seat
  there = get_or-set_same seats p seat no_seat lt

  -- who has the devices of the pool then
  holders_are : (d : ℕ) → borrower (set seats p (settled (both_of seat shared)).seat) d ≡ holder_left q.p o.step (note_of o.act) d (borrower seats d)
  holders_are d =
      ⊎_elim (λ (on : is_live seat.registers.state ≡ true). goes_on on) (λ (dead : is_live seat.registers.state ≡ false). ends dead)
      (cases_Bool (is_live seat.registers.state))
    where
      goes_on : is_live seat.registers.state ≡ true → borrower (set seats p (settled (both_of seat shared)).seat) d ≡ holder_left q.p o.step (note_of o.act) d
          (borrower seats d)
      goes_on on =
          ap (λ b. borrower (set seats p (cond b (both_of seat shared) (retired (length seat.stints) (both_of seat shared))).seat) d) on
          ∙ by_hold hold refl on
        where
          by_hold : (x : Option Need) → hold_of reaches seats s p ≡ x → is_live (turn.by reaches seats t s p run lt x).registers.state ≡ true
              → borrower (turn.later reaches seats t s p run lt x) d ≡ holder_left q.p (turn.by reaches seats t s p run lt x).step
              (note_of (turn.by reaches seats t s p run lt x).act) d (borrower seats d)
          by_hold (Some need) is on = same_holder reaches seats t s p run lt live (turn.own reaches seats t s p run lt)
              (turn.by reaches seats t s p run lt (Some need)) d refl
          by_hold None is on =
              live_by reaches seats t s p run lt live (turn.own reaches seats t s p run lt)
              (turn.e reaches seats t s p run lt) (turn.lawful reaches seats t s p run lt) (turn.free reaches seats t s p run lt is) on d

      ends : is_live seat.registers.state ≡ false → borrower (set seats p (settled (both_of seat shared)).seat) d ≡ holder_left q.p o.step (note_of o.act) d
          (borrower seats d)
      ends dead =
          let over = by_hold hold refl dead in
          ap (λ xs. borrower xs d) (sym (set-set seats p seat (settled (both_of seat shared)).seat))
          ∙ subst (λ (y : Seat). borrower (set tried_seats p (settled (both_of y shared)).seat) d ≡ holder_over y.p (borrower tried_seats d)) there
          (settled_holder reaches tried_seats shared p running within (ap (λ (y : Seat). is_live y.registers.state) there ∙ dead)
          (λ e h flies same. alone_of q (turn.told_by seats t) s over.1 e h (ap (λ (x : Shared). (spot_at x.spots e).flight) (sym over.0) ∙ flies)
          (same ∙ ap (λ (y : Seat). y.p) there))
          d)
          ∙ ap (holder_over q.p) (same_holder reaches seats t s p run lt live (turn.own reaches seats t s p run lt) o d
          (ap (λ (x : Part). lends x.stints d) over.3))
          ∙ sym (over.2 d (borrower seats d))
        where
          by_hold : (x : Option Need) → hold_of reaches seats s p ≡ x → is_live (turn.by reaches seats t s p run lt x).registers.state ≡ false
              → (turn.shared reaches seats t s p run lt x ≡ s)
              × (first_pending (view q (turn.told_by seats t) s) (map Device (turn.own reaches seats t s p run lt)) ≡ None)
              × ((e : ℕ) (h : Option ℕ) → holder_left q.p (turn.by reaches seats t s p run lt x).step (note_of (turn.by reaches seats t s p run lt x).act) e h
              ≡ holder_over q.p h)
              × (part_after q s (turn.by reaches seats t s p run lt x).act ≡ q)
          by_hold (Some need) is dead = cc (sym dead ∙ live)
          by_hold None is dead =
              over_by reaches seats t s p run lt live (turn.own reaches seats t s p run lt)
              (turn.e reaches seats t s p run lt) (turn.free reaches seats t s p run lt is) dead

  -- an order that was tried, after which a program that is over gave up what it had
  module _ (held : ℕ → Option ℕ) (lent : AreHeld held reaches seats) (new : Seat) (s' : Shared) (step : Step) (note : Remark)
      (ran : HasRun (reach_at reaches p) held t (seat_at seats p) s new s' step note) where
    -- a device of the pool is taken, as the program finds it, where a program has it
    found_taken : (d : ℕ) → in_pool q d ≡ true → is_taken_by (seat_at seats p).claimed held d ≡ is_lent_by seats d
    found_taken d pooled =
        ap₂ (λ a b. a || is_some b) ((run.active p lt live).marks d pooled ∙ sym (taker_is reaches seats s run p lt d)) (sym (lent p d lt pooled))
        ∙ taken_or (seat_at seats p).p (borrower seats d)
      where
        taken_or : (k : ℕ) (x : Option ℕ) → (is_taker k x || is_some x) ≡ is_some x
        taken_or k None = refl
        taken_or k (Some j) = or_right (is_taker k (Some j)) true refl

    outcome_is : outcome_over (seat_at seats p) (reach_at reaches p) (told (seat_at seats p) held t) s ≡ o
    outcome_is =
        ap (λ v. outcome v (seat_at seats p).registers) (view_alike q t s (is_taken_by (seat_at seats p).claimed held) (is_lent_by seats) found_taken)
        ∙ by_hold_is

    both_is : both_of new s' ≡ settled (both_of seat shared)
    both_is = ran.both ∙ ap (λ (x : Outcome). settled (both_after q s x)) outcome_is

    gone : HasRetired reaches tried_seats p shared (both_of new s')
    gone =
        subst (HasRetired reaches tried_seats p shared) (sym both_is)
        (subst (λ (y : Seat). HasRetired reaches tried_seats p shared (settled (both_of y shared))) there
        (settled_all reaches tried_seats shared p running within))

    seats_are : set tried_seats p new ≡ set seats p new
    seats_are = set-set seats p seat new

    own_gone : (n j : ℕ) → j < length seats → own_state reaches (set seats p new) s' n j ≡ own_state reaches tried_seats shared n j
    own_gone n j lt' = ap (λ xs. own_state reaches xs s' n j) (sym seats_are) ∙ gone.own n j (omega (arith, length-set seats p seat))

    number : (j : ℕ) → (seat_at (set seats p new) j).p ≡ (seat_at seats j).p
    number j =
        ⊎_elim
        (λ (same : j ≡ p).
        ap (λ k. (seat_at (set seats p new) k).p) same ∙ ap (λ (y : Seat). y.p) (get_or-set_same seats p new no_seat lt)
        ∙ gone.number ∙ (turn.same_part reaches seats t s p run lt hold p).p
        ∙ sym (ap (λ k. (seat_at seats k).p) same))
        (λ (ne : j ≢ p). ap (λ (y : Seat). y.p) (get_or-set_other seats p j new no_seat ne))
        (cases_eq j p)

    pub turned : HasTurned reaches t p seats s (set seats p new) s' step note
    turned =
        record {
          step = λ n. ran.step ∙ ap (λ (x : Outcome). x.step) (outcome_is ∙ sym (at_is n));
          note = λ n. ran.note ∙ ap (λ (x : Outcome). note_of x.act) (outcome_is ∙ sym (at_is n));
          own = λ n.
              ap (λ (x : Outcome). own_state reaches (set seats p new) s' (asked_after n x.act) p) (at_is n)
              ∙ own_gone (asked_after n o.act) p lt
              ∙ turn.tried_own reaches seats t s p run lt live n hold refl
              ∙ ap (λ x. tried x (own_state reaches seats s n p)) (sym (at_is n));
          others = λ n j lt' ne. own_gone n j lt' ∙ turn.tried_other reaches seats t s p run lt live n hold refl j lt' ne;
          flights = λ n d. gone.flights d ∙ ap (λ (x : Outcome). (spot_at (after_act q s x.act).spots d).flight) (sym (at_is n));
          holders = λ d.
              ap (λ (b : Both). borrower (set seats p b.seat) d) both_is
              ∙ holders_are d
              ∙ sym (ap₂ (λ x y. holder_left q.p x y d (borrower seats d)) (ran.step ∙ ap (λ (x : Outcome). x.step) outcome_is)
              (ran.note ∙ ap (λ (x : Outcome). note_of x.act) outcome_is));
          count = length-set seats p new;
          numbers = number;
        }

    pub turned_running : IsRunning reaches (set seats p new) s'
    turned_running = subst (λ xs. IsRunning reaches xs s') seats_are gone.running

-- a word of a program, here or out
pub word_shown : (reaches : List Reach) (seats : List Seat) (s : Shared) (n i a : ℕ) → a < (reach_at reaches i).size
    → word_at_place s.cells (leases_of s.spots) ((reach_at reaches i).base + a) ≡ word_at (own_state reaches seats s n i) a
unfolding own_state
word_shown reaches seats s n i a lt = sym (own_word (part_at reaches seats i) n s a lt)
