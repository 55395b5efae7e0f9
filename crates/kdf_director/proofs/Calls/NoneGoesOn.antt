-- Calls that find no program that can go on.
use Rattle.kdf_director.specs.declared.halt.Halt.{Halt}
use Rattle.kdf_director.specs.declared.halt.Halt.TheVariants.{Never, Each, At}
use Rattle.std.proofs.Common.{◌≡◌, ℕ, zero, suc, ◌+◌, ◌<◌, ◌≤◌, true, List, None, refl, sym, ap, ◌∙◌, arith}
use Rattle.kdf_journal.specs.declared.entry.Entry.{Entry}
use Rattle.kdf_journal.specs.declared.journal.TheConstants.{CALL_LIMIT}
use Rattle.kdf_journal.specs.Counts.{calls, priorities}
use Rattle.kdf_director.specs.declared.machine.Progress.TheVariants as progress
use Rattle.kdf_director.specs.Fields.Agrees.{Agrees}
use Rattle.kdf_yard.specs.Fields.Standing.{Standing}
use Rattle.kdf_yard.specs.Fields.Yards.{first_in}
use Rattle.kdf_theory.specs.Next.{any_live, next}
use Rattle.kdf_director.specs.Halts.{ArePassed, HasMadeSomePast, HasPassed}
use Rattle.kdf_director.specs.Runs.{HasMadeOn}
use Rattle.kdf_theory.specs.InARow.{waited_on}
use Rattle.kdf_theory.specs.MachineView.{MachineView, state_at, world_of}
use Rattle.kdf_director.proofs.Calls.CallsAfterCalls.{made_more, made_none, made_one}
use Rattle.kdf_director.proofs.Linking.EventsEntered.{shows}
use Rattle.kdf_director.proofs.Linking.NextPrograms.{any_same, none_next}
use Rattle.kdf_theory.proofs.Course.OrdersInARow.{calls-waited_on, priorities-waited_on}
use Rattle.kdf_director.proofs.Linking.TurnTaken.{HasAdvanced, holds_in, shown, waited}

module _ (service : ℕ → ℕ → Type 0) (y : Standing) (J : List Entry) (room : ℕ) (a : Agrees y.slots y.reaches y.seats y.shared J)
    (have : y.holds ≡ holds_in y.seats J) (live : any_live y.slots J ≡ true) (none : first_in y (priorities J) ≡ None) where
  abbrev m : ℕ → MachineView
  m n = shown y.slots y.reaches y.seats y.shared (waited_on J n) room

  -- after n such calls
  pub record IsWaiting (n : ℕ) : Type 0 where
    pub agrees : Agrees y.slots y.reaches y.seats y.shared (waited_on J n)
    pub holds_are : y.holds ≡ holds_in y.seats (waited_on J n)
    pub made : HasMadeOn service n (m 0) (m n)

  module _ (n : ℕ) (w : IsWaiting n) (few : calls (waited_on J n) < CALL_LIMIT) where
    live_still : any_live y.slots (waited_on J n) ≡ true
    live_still = sym (any_same y.slots y.reaches y.seats y.shared (waited_on J n) w.agrees) ∙ any_same y.slots y.reaches y.seats y.shared J a ∙ live

    none_still : next (world_of (m n)) y.slots (waited_on J n) ≡ None
    none_still =
        none_next y.slots y.reaches y.seats y.shared (waited_on J n) w.agrees y.holds w.holds_are (state_at (m n)) (ap (first_in y) (priorities-waited_on J n)
        ∙ none)

    advanced : HasAdvanced service (m n) y (waited_on J (suc n)) room progress.Idle
    advanced = waited service y.slots y.reaches y.seats y.shared (waited_on J n) room w.agrees y.holds w.holds_are few live_still none_still

    one_more : IsWaiting (suc n)
    one_more =
        record {
          agrees = advanced.agrees;
          holds_are = advanced.holds_are;
          made = made_more service n (m 0) (m n) (m (suc n)) progress.Idle w.made advanced.advance refl advanced.answered advanced.agrees.legal refl refl;
        }

    waited_some : (halt : Halt) → ArePassed service halt n (m 0) (m n) → HasMadeSomePast service halt (suc n) (m 0) (m (suc n)) progress.Idle
    waited_some halt passed =
        record {
          some = record {
            before = n;
            between = m n;
            earlier = w.made;
            last = advanced.advance;
            answered = advanced.answered;
            count = omega arith;
            all_on = λ found. one_more.made;
          };
          passed = passed;
        }

    -- calls don't stop after it
    passed_more : (halt : Halt) → HasPassed service halt n (m 0) (m n) → HasPassed service halt (suc n) (m 0) (m (suc n))
    passed_more halt passed = (
      m n,
      passed,
      record {
        progress = progress.Idle;
        made = made_one service (m n) (m (suc n)) progress.Idle w.agrees.legal advanced.advance advanced.answered
            (λ found. (advanced.agrees.legal, refl, refl));
        live = refl;
        goes_on = refl;
        seen = shows y.slots y.reaches y.seats y.shared (waited_on J (suc n)) advanced.agrees;
      },
    )

  pub waiting : (n : ℕ) → calls J + n ≤ CALL_LIMIT → IsWaiting n
  waiting zero few = record { agrees = a; holds_are = have; made = made_none service (m 0) a.legal }
  waiting (suc n) few = one_more n (waiting n (omega arith)) (omega (arith, calls-waited_on J n))

  each_passed : (halt : Halt) (n : ℕ) → calls J + n ≤ CALL_LIMIT → HasPassed service halt n (m 0) (m n)
  each_passed halt zero few = refl
  each_passed halt (suc n) few =
      passed_more n (waiting n (omega arith)) (omega (arith, calls-waited_on J n)) halt (each_passed halt n (omega arith))

  all_passed : (halt : Halt) (n : ℕ) → calls J + n ≤ CALL_LIMIT → ArePassed service halt n (m 0) (m n)
  all_passed Never n few = tt
  all_passed Each n few = each_passed Each n few
  all_passed (At p at) n few = each_passed (At p at) n few

  pub waiting_some : (halt : Halt) (n : ℕ) → calls J + suc n ≤ CALL_LIMIT → HasMadeSomePast service halt (suc n) (m 0) (m (suc n)) progress.Idle
  waiting_some halt n few =
      waited_some n (waiting n (omega arith)) (omega (arith, calls-waited_on J n)) halt (all_passed halt n (omega arith))
