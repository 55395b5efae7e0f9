-- Orders of the program that is next after which calls don't stop, and idle calls, after which they never do.
use Rattle.std.specs.Option.{option_map}
use Rattle.std.proofs.Common.{◌≡◌, ℕ, zero, suc, ◌+◌, ◌<◌, ◌≤◌, Bool, true, false, ◌&&◌, eqb, List, length, Option, Some, None, cond, refl, sym, ap, ◌∙◌, subst}
use Rattle.std.proofs.Common.{arith}
use Rattle.kdf_processor.specs.declared.step.Step.{Step}
use Rattle.kdf_yard.specs.declared.remark.Remark.{Remark}
use Rattle.kdf_journal.specs.declared.entry.Entry.{Entry}
use Rattle.kdf_journal.specs.declared.journal.TheConstants.{CALL_LIMIT}
use Rattle.kdf_journal.specs.Counts.{calls, clock}
use Rattle.kdf_processor.specs.declared.registers.Registers.{Registers}
use Rattle.kdf_processor.specs.declared.step.Step.TheVariants.{Done}
use Rattle.kdf_processor.specs.State.{State}
use Rattle.kdf_director.specs.declared.halt.Halt.{Halt}
use Rattle.kdf_director.specs.declared.halt.Halt.TheVariants.{Never, Each, At}
use Rattle.kdf_director.specs.declared.machine.Progress.TheVariants as progress
use Rattle.kdf_yard.specs.declared.remark.Remark.TheVariants.{Quiet}
use Rattle.kdf_yard.specs.Fields.Batches.{of_seats, AreQuiet, HasTriedOn, Passes, is_at}
use Rattle.kdf_director.specs.Fields.Following.{asked_at}
use Rattle.kdf_yard.specs.Fields.Parts.{Seat}
use Rattle.kdf_yard.specs.Fields.Running.{own_state, seat_at, IsRunning}
use Rattle.kdf_yard.specs.Fields.Standing.{Standing}
use Rattle.kdf_yard.specs.Fields.Yards.{number_in}
use Rattle.kdf_director.specs.Halts.{halts, place_for, stops, ArePassed, HasPassed, IsPassed}
use Rattle.kdf_yard.specs.Fields.Turned.{HasTriedAt}
use Rattle.kdf_theory.specs.InARow.{ran_on}
use Rattle.kdf_places.specs.Shared.{Shared}
use Rattle.kdf_theory.specs.MachineView.{MachineView}
use Rattle.kdf_director.proofs.Calls.CallsAfterCalls.{made_one}
use Rattle.kdf_director.proofs.Calls.GoingFurther.{going_further}
use Rattle.kdf_theory.proofs.Course.OrdersInARow.{calls-ran_on}
use Rattle.kdf_director.proofs.Calls.ProgramGoesOn.{IsGoingOn, next_advanced, number_on}
use Rattle.kdf_director.proofs.Linking.EventsEntered.{shows}
use Rattle.kdf_director.proofs.Linking.OwnStates.{state_is}
use Rattle.kdf_director.proofs.Linking.TurnTaken.{shown}
use Rattle.kdf_yard.proofs.Turns.Batching.{quiet_map}

-- a program that isn't at the place that is looked for
away : (k at p : ℕ) (r : Registers) → is_at (place_for (At k at) p) r ≡ false → halts (At k at) p (Some r) ≡ false
away k at p r past = by (eqb p k) past
  where
    by : (b : Bool) → is_at (cond b (Some at) None) r ≡ false → (b && eqb r.at at) ≡ false
    by true past = past
    by false past = refl

module _ (answers : ℕ → ℕ → Type 0) (y : Standing) (J : List Entry) (room i k at : ℕ) where
  abbrev Goes : ℕ → List Seat → Shared → Type 0
  Goes = IsGoingOn answers y J room i

  abbrev p : ℕ
  p = number_in y i

  abbrev place : Option ℕ
  place = place_for (At k at) p

  abbrev Tries : List Seat → Shared → List Seat → Shared → Step → Remark → Type 0
  Tries = HasTriedOn answers y.reaches (clock J) i

  abbrev Past : List Seat → Shared → List Seat → Shared → Step → Remark → Type 0
  Past = Passes (of_seats i) place Tries

  -- so it is seen after n orders
  abbrev shows_after : ℕ → List Seat → Shared → MachineView
  shows_after n seats s = shown y.slots y.reaches seats s (ran_on J p n) room

  registers_are : (seats : List Seat) (s : Shared) (n : ℕ) → (own_state y.reaches seats s n i).registers ≡ of_seats i seats
  unfolding own_state
  registers_are seats s n = refl

  -- its next order leaves it elsewhere
  module _ (n : ℕ) (seats : List Seat) (s : Shared) (g : Goes n seats s) (seats' : List Seat) (s' : Shared)
      (tried : HasTriedAt answers y.reaches (clock J) i seats s seats' s' Done Quiet) (run : IsRunning y.reaches seats' s')
      (few : calls (ran_on J p n) < CALL_LIMIT)
      (past : is_at place (of_seats i seats') ≡ false) where
    goes_on : stops (At k at) (shows_after (suc n) seats' s') (progress.Ran (seat_at seats' i).p) ≡ false
    goes_on =
        let d = next_advanced answers y J room i n seats s g seats' s' tried run few in
        let there : i < length seats' = let count = tried.turned.count in omega (arith, g.there) in
        ap (λ o. halts (At k at) (seat_at seats' i).p (option_map (λ (x : State). x.registers) o))
        (state_is y.slots y.reaches seats' s' (ran_on J p (suc n)) room d.agrees (seat_at seats' i).p i there refl)
        ∙ ap (λ r. halts (At k at) (seat_at seats' i).p (Some r)) (registers_are seats' s' (asked_at seats' (ran_on J p (suc n)) i))
        ∙ away k at (seat_at seats' i).p (of_seats i seats')
        (ap (λ w. is_at (place_for (At k at) w) (of_seats i seats')) (number_on answers y J room i n seats s g seats' s' tried run few) ∙ past)

    pub passed_one : IsPassed answers (At k at) (shows_after n seats s) (shows_after (suc n) seats' s')
    passed_one =
        let d = next_advanced answers y J room i n seats s g seats' s' tried run few in
        record {
          progress = progress.Ran (seat_at seats' i).p;
          made =
              made_one answers (shows_after n seats s) (shows_after (suc n) seats' s') (progress.Ran (seat_at seats' i).p) g.agrees.legal d.advance d.answered
              (λ found. (d.agrees.legal, refl, refl));
          live = refl;
          goes_on = goes_on;
          seen = shows y.slots y.reaches seats' s' (ran_on J p (suc n)) d.agrees;
        }

  -- so do j more
  pub passed_further : (n j : ℕ) (seats : List Seat) (s : Shared) (seats' : List Seat) (s' : Shared) (old : MachineView)
      → Goes n seats s → calls J + (n + j) ≤ CALL_LIMIT → AreQuiet Past j seats s seats' s' → HasPassed answers (At k at) n old (shows_after n seats s)
      → HasPassed answers (At k at) (n + j) old (shows_after (n + j) seats' s')
  passed_further n zero seats s seats' s' old g few same passed =
      let all : n ≡ n + zero = omega arith in
      subst (λ m. HasPassed answers (At k at) m old (shows_after m seats' s')) all
      (subst (λ x. HasPassed answers (At k at) n old (shows_after n seats' x)) (sym same.1)
      (subst (λ xs. HasPassed answers (At k at) n old (shows_after n xs s)) (sym same.0) passed))
  passed_further n (suc j) seats s seats' s' old g few (mid, between, earlier, last) passed =
      let all : suc (n + j) ≡ n + suc j = omega arith in
      let until : Goes (n + j) mid between =
      going_further answers y J room i n j seats s mid between g (omega (arith, few)) (quiet_map Past Tries (λ b x a l h. h.0) j seats s mid between earlier) in
      subst (λ m. HasPassed answers (At k at) m old (shows_after m seats' s')) all (
        shows_after (n + j) mid between,
        passed_further n j seats s mid between old g (omega (arith, few)) earlier passed,
        passed_one (n + j) mid between until seats' s' last.0.0 last.0.1 (omega (arith, few, calls-ran_on J p (n + j))) last.1,
      )

module _ (answers : ℕ → ℕ → Type 0) (y : Standing) (J : List Entry) (room i : ℕ) where
  abbrev after : ℕ → List Seat → Shared → MachineView
  after n seats s = shown y.slots y.reaches seats s (ran_on J (number_in y i) n) room

  -- the same wherever calls stop
  pub passing_one : (halt : Halt) → (halt ≡ Each → ⊥) → (n : ℕ) (seats : List Seat) (s : Shared) → IsGoingOn answers y J room i n seats s
      → (seats' : List Seat) (s' : Shared) → HasTriedAt answers y.reaches (clock J) i seats s seats' s' Done Quiet → IsRunning y.reaches seats' s'
      → calls (ran_on J (number_in y i) n) < CALL_LIMIT
      → is_at (place_for halt (number_in y i)) (of_seats i seats') ≡ false → (old : MachineView)
      → ArePassed answers halt n old (after n seats s) → ArePassed answers halt (suc n) old (after (suc n) seats' s')
  passing_one Never inside n seats s g seats' s' tried run few past old passed = tt
  passing_one Each inside n seats s g seats' s' tried run few past old passed = absurd (inside refl)
  passing_one (At k at) inside n seats s g seats' s' tried run few past old passed =
      (after n seats s, passed, passed_one answers y J room i k at n seats s g seats' s' tried run few past)

  pub passing_further : (halt : Halt) → (halt ≡ Each → ⊥) → (n j : ℕ) (seats : List Seat) (s : Shared) (seats' : List Seat) (s' : Shared) (old : MachineView)
      → IsGoingOn answers y J room i n seats s → calls J + (n + j) ≤ CALL_LIMIT
      → AreQuiet (Passes (of_seats i) (place_for halt (number_in y i)) (HasTriedOn answers y.reaches (clock J) i)) j seats s seats' s'
      → ArePassed answers halt n old (after n seats s) → ArePassed answers halt (n + j) old (after (n + j) seats' s')
  passing_further Never inside n j seats s seats' s' old g few quiet passed = tt
  passing_further Each inside n j seats s seats' s' old g few quiet passed = absurd (inside refl)
  passing_further (At k at) inside n j seats s seats' s' old g few quiet passed =
      passed_further answers y J room i k at n j seats s seats' s' old g few quiet passed
