-- A try as a step of the journal.
use Rattle.std.proofs.Common.{◌≡◌, ◌≢◌, ℕ, List, Option, Some, None, cond, eqb, refl, sym, ap, ap₂, ◌∙◌, subst}
use Rattle.std.proofs.lemmas.Bool.{eq-eqb, ne_eqb}
use Rattle.kdf_journal.specs.declared.entry.Entry.{Entry}
use Rattle.kdf_journal.specs.Counts.{last_hold}
use Rattle.kdf_journal.specs.Steps.{Note, JournalStep, Obeys, Holds, added}
use Rattle.kdf_journal.proofs.Added.{last_hold-added}
use Rattle.kdf_transfer.specs.Slots.{Slot}
use Rattle.kdf_schedule.specs.Calls.{AnOrder}
use Rattle.kdf_course.specs.Follows.{call_of}
use Rattle.kdf_course.specs.Legal.{Noted}
use Rattle.kdf_processor.specs.declared.registers.Registers.{Registers}
use Rattle.kdf_journal.specs.declared.need.Need.{Need}
use Rattle.kdf_processor.specs.declared.step.Step.{Step}
use Rattle.kdf_processor.specs.State.{State}
use Rattle.kdf_alone.specs.declared.lone_port.LonePort.{LonePort}
use Rattle.kdf_alone.specs.LonePort.{state_with}
use Rattle.kdf_theory.specs.Asked.{IsHeard}
use Rattle.kdf_theory.specs.Legal.{note_of, IsLegal, Meets}
use Rattle.kdf_theory.specs.Next.{next}
use Rattle.kdf_theory.specs.Served.{is_true_for}
use Rattle.kdf_theory.specs.Slots.{AreSlots}
use Rattle.kdf_theory.specs.ByJournal.{lone_world, own}
use Rattle.kdf_theory.specs.World.{first_need, hold_left}
use Rattle.kdf_theory.proofs.Course.OneJournal.{heard_note}
use Rattle.kdf_theory.proofs.Course.OrdersObeyed.{obeys-others, obeys-own}
use Rattle.kdf_theory.proofs.Course.OwnSteps.{own-same}
use Rattle.kdf_check.specs.Around.{Around}
use Rattle.kdf_check.specs.declared.table.Pending.{Pending}
use Rattle.kdf_check.specs.declared.program.Program.{Program}
use Rattle.kdf_check.specs.Entered.{entered}
use Rattle.kdf_check.specs.Keeps.{GoesOn}
use Rattle.kdf_check.specs.Tracks.{Tells}
use Rattle.kdf_check.specs.Tried.{lone_truth, outcome_by, outcome_of, step_by, step_of, IsTried}
use Rattle.kdf_check.proofs.Entries.{held-entered, obeyed-entered, obeyed-free}
use Rattle.kdf_check.proofs.Kept.{held_keeps, obeyed_keeps}

-- the journal K answers a call more than J, in which it was the turn of program p: it keeps to K, the others stay, and the table tells what
-- is pending
pub record IsTurned (answers : ℕ → ℕ → Type 0) (slots : List Slot) (J : List Entry) (p : ℕ) (x : Program)
    (table : List (Option Pending)) (K : List Entry) : Type 0 where
  pub goes_on : GoesOn answers slots J AnOrder K
  pub number : x.p ≡ p
  pub own_is : state_with x.registers x.bench ≡ own slots K p
  pub hold_is : x.hold ≡ last_hold p K
  pub others : (q : ℕ) → p ≢ q → own slots K q ≡ own slots J q
  pub other_holds : (q : ℕ) → p ≢ q → last_hold q K ≡ last_hold q J
  pub tells : Tells slots K table

-- what a turn leaves: the program's lone state by the journal with its step, the others', what holds each, and the table
record IsTurn (slots : List Slot) (J : List Entry) (p : ℕ) (ending : Step) (registers : Registers) (bench : LonePort) (table : List (Option Pending))
    (entry : Option Entry) (K : List Entry) : Type 0 where
  pub state : state_with registers bench ≡ own slots K p
  pub others : (q : ℕ) → p ≢ q → own slots K q ≡ own slots J q
  pub hold : hold_left ending ≡ last_hold p K
  pub other_holds : (q : ℕ) → p ≢ q → last_hold q K ≡ last_hold q J
  pub tells : Tells slots K table
  pub entered_is : entered J p ending entry ≡ K

module _ (slots : List Slot) (J : List Entry) (p : ℕ) (around : Around) (ending : Step)
    (are : AreSlots slots) (l : IsLegal slots J) (turn_is : next (lone_world slots J) slots J ≡ Some p) (tells : Tells slots J around.table) where
  abbrev s : State
  s = own slots J p

  abbrev heard : ℕ
  heard = around.heard

  abbrev note : Note
  note = note_of s (lone_truth slots J heard p)

  meets_by : (o : Option Need) → first_need (lone_world slots J) p ≡ o → Meets (lone_world slots J) slots J heard (step_by slots J heard p o)
  meets_by None free = (turn_is, free, refl)
  meets_by (Some need) held = (turn_is, held)

  hold_here : (o : Option Need) → cond (eqb p p) o (last_hold p J) ≡ o
  hold_here o = ap (λ b. cond b o (last_hold p J)) (eq-eqb p p refl)

  hold_there : (q : ℕ) (o : Option Need) → p ≢ q → cond (eqb p q) o (last_hold q J) ≡ last_hold q J
  hold_there q o ne = ap (λ b. cond b o (last_hold q J)) (ne_eqb p q ne)

  left_by : (x : Program) (table : List (Option Pending)) (entry : Option Entry) (o : Option Need) → first_need (lone_world slots J) p ≡ o
      → IsTried slots J p around (outcome_by slots J heard p o) ending x.registers x.bench table entry
      → IsTurn slots J p ending x.registers x.bench table entry (added J (step_by slots J heard p o))
  left_by x table entry None free t =
      let meets = meets_by None free in
      let answer = lone_truth slots J heard p in
      record {
        state = t.state ∙ sym (obeys-own slots J p heard note l meets);
        others = λ q ne. (obeys-others slots J p heard note l meets are q ne).0;
        hold = ap hold_left t.ending_is ∙ obeyed-free answer s ∙ sym (last_hold-added p J (Obeys p note) ∙ hold_here None);
        other_holds = λ q ne. last_hold-added q J (Obeys p note) ∙ hold_there q None ne;
        tells = subst (Tells slots (added J (Obeys p note))) (sym t.table_is) (obeyed_keeps slots J p heard note around.table are l tells meets t.inside);
        entered_is = ap₂ (entered J p) t.ending_is t.entry_is ∙ obeyed-entered J p answer s;
      }
  left_by x table entry (Some need) held t =
      record {
        state = t.state ∙ sym (own-same slots J (Holds p need) p refl refl);
        others = λ q ne. own-same slots J (Holds p need) q refl refl;
        hold = ap hold_left t.ending_is ∙ sym (last_hold-added p J (Holds p need) ∙ hold_here (Some need));
        other_holds = λ q ne. last_hold-added q J (Holds p need) ∙ hold_there q (Some need) ne;
        tells = subst (Tells slots (added J (Holds p need))) (sym t.table_is) (held_keeps slots J p need around.table are l tells);
        entered_is = ap (λ (e : Step). entered J p e entry) t.ending_is ∙ held-entered J p need entry;
      }

  turn_meets : Meets (lone_world slots J) slots J heard (step_of slots J heard p)
  turn_meets = meets_by (first_need (lone_world slots J) p) refl

  turn_left : (x : Program) (table : List (Option Pending)) (entry : Option Entry)
      → IsTried slots J p around (outcome_of slots J heard p) ending x.registers x.bench table entry
      → IsTurn slots J p ending x.registers x.bench table entry (added J (step_of slots J heard p))
  turn_left x table entry = left_by x table entry (first_need (lone_world slots J) p) refl

  truly_by : (answers : ℕ → ℕ → Type 0) (o : Option Need) → (o ≡ None → IsHeard answers (own slots J p) heard)
      → Noted (is_true_for answers slots J) (step_by slots J heard p o)
  truly_by answers None is = heard_note answers slots J p heard (is refl)
  truly_by answers (Some need) is = tt

  call_by : (o : Option Need) → call_of (step_by slots J heard p o) ≡ AnOrder
  call_by None = refl
  call_by (Some need) = refl

  turn_call : call_of (step_of slots J heard p) ≡ AnOrder
  turn_call = call_by (first_need (lone_world slots J) p)

  -- the turn as a whole, from what was entered
  pub turned : (answers : ℕ → ℕ → Type 0) → (first_need (lone_world slots J) p ≡ None → IsHeard answers (own slots J p) heard)
      → (x : Program) (table : List (Option Pending)) (entry : Option Entry) (K : List Entry)
      → IsTried slots J p around (outcome_of slots J heard p) ending x.registers x.bench table entry → x.p ≡ p → x.hold ≡ hold_left ending
      → K ≡ entered J p ending entry
      → IsTurned answers slots J p x table K
  turned answers is_heard x table entry K t p_is hold_is k = subst (IsTurned answers slots J p x table) (sym (k ∙ left.entered_is)) (record {
    goes_on = record {
      step = s';
      call = turn_call;
      heard = heard;
      meets = turn_meets;
      truly = truly_by answers (first_need (lone_world slots J) p) is_heard;
      entered = refl;
    };
    number = p_is;
    own_is = left.state;
    hold_is = hold_is ∙ left.hold;
    others = left.others;
    other_holds = left.other_holds;
    tells = left.tells;
  })
    where
      s' : JournalStep
      s' = step_of slots J heard p

      left : IsTurn slots J p ending x.registers x.bench table entry (added J s')
      left = turn_left x table entry t
