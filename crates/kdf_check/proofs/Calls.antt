-- Calls that are answered one after another.
use Rattle.std.specs.Prelude.{replicate}
use Rattle.std.proofs.Common.{◌≡◌, ℕ, zero, suc, ◌+◌, List, true, refl, sym, ◌∙◌, ap, subst, arith}
use Rattle.std.proofs.lemmas.Grind.{replicate_next}
use Rattle.kdf_journal.specs.declared.entry.Entry.{Entry}
use Rattle.kdf_journal.specs.Counts.{calls, clock, moves}
use Rattle.kdf_journal.specs.Steps.{JournalStep, Obeys, Holds, Waits, Moves, Ends, Sets, Swaps, steps}
use Rattle.kdf_journal.proofs.Added.{calls_by, calls-added, clock_by, clock-added, moves_by, moves-added}
use Rattle.kdf_transfer.specs.Slots.{Slot}
use Rattle.kdf_schedule.specs.Calls.{Call, AnOrder}
use Rattle.kdf_course.specs.Follows.{call_of, Reaches}
use Rattle.kdf_course.proofs.Reaching.{reach-added}
use Rattle.kdf_theory.specs.Legal.{IsLegal}
use Rattle.kdf_theory.specs.Next.{any_live, lone_dispatched}
use Rattle.kdf_check.specs.Keeps.{GoesOn, GoesOnFor}
use Rattle.kdf_theory.specs.Served.{IsTrueFor}
use Rattle.kdf_theory.proofs.Course.WorldsJudged.{legal_added}
use Rattle.kdf_theory.proofs.Course.OneJournal.{true_for_added}

-- ---- what a step that answers an order counts

counted : (s : JournalStep) → call_of s ≡ AnOrder → (calls_by s ≡ 1) × (moves_by s ≡ 0) × ((t : ℕ) → clock_by t s ≡ t)
counted (Obeys p note) is = (refl, refl, λ t. refl)
counted (Holds p by) is = (refl, refl, λ t. refl)
counted Waits is = (refl, refl, λ t. refl)
counted (Moves d n) is = cc
counted (Ends d) is = cc
counted (Sets t) is = cc
counted (Swaps p q) is = cc

module _ (answers : ℕ → ℕ → Type 0) (slots : List Slot) (J K : List Entry) (a : GoesOn answers slots J AnOrder K) where
  pub order-calls : calls K ≡ calls J + 1
  order-calls = ap calls a.entered ∙ calls-added J a.step ∙ ap (λ n. calls J + n) (counted a.step a.call).0

  pub order-moves : moves K ≡ moves J
  order-moves = omega (arith, ap moves a.entered, moves-added J a.step, (counted a.step a.call).1)

  pub order-time : clock K ≡ clock J
  order-time = ap clock a.entered ∙ clock-added J a.step ∙ (counted a.step a.call).2 (clock J)

  -- one order more
  pub order-on : (P : List JournalStep) (i : ℕ) → IsLegal slots J → any_live slots J ≡ true → Reaches (lone_dispatched slots) P (replicate i AnOrder) (steps J)
      → Reaches (lone_dispatched slots) P (replicate (i + 1) AnOrder) (steps K)
  order-on P i l live taken =
      subst (λ (cs : List Call). Reaches (lone_dispatched slots) P cs (steps K)) (sym (replicate_next i AnOrder))
      (reach-added (lone_dispatched slots) P J K (replicate i AnOrder) AnOrder a.step l.in_form taken live a.call a.entered)

-- ---- calls one after another
module _ (answers : ℕ → ℕ → Type 0) (slots : List Slot) (J : List Entry) where
  abbrev On : ℕ → List Entry → Type 0
  On n K = GoesOnFor answers slots n J K

  pub calls-on : (n : ℕ) (K : List Entry) → On n K → calls K ≡ calls J + n
  calls-on zero K same = omega (arith, ap calls same)
  calls-on (suc n) K on = omega (arith, calls-on n on.0 on.1, order-calls answers slots on.0 K on.3)

  pub moves-on : (n : ℕ) (K : List Entry) → On n K → moves K ≡ moves J
  moves-on zero K same = ap moves same
  moves-on (suc n) K on = order-moves answers slots on.0 K on.3 ∙ moves-on n on.0 on.1

  pub time-on : (n : ℕ) (K : List Entry) → On n K → clock K ≡ clock J
  time-on zero K same = ap clock same
  time-on (suc n) K on = order-time answers slots on.0 K on.3 ∙ time-on n on.0 on.1

  pub legal-on : (n : ℕ) (K : List Entry) → IsLegal slots J → On n K → IsLegal slots K
  legal-on zero K l same = subst (IsLegal slots) (sym same) l
  legal-on (suc n) K l on = let a = on.3 in subst (IsLegal slots) (sym a.entered) (legal_added slots on.0 a.heard a.step (legal-on n on.0 l on.1) a.meets)

  pub truly-on : (n : ℕ) (K : List Entry) → IsLegal slots J → IsTrueFor answers slots J → On n K → IsTrueFor answers slots K
  truly-on zero K l truly same = subst (IsTrueFor answers slots) (sym same) truly
  truly-on (suc n) K l truly on =
      let a = on.3 in
      subst (IsTrueFor answers slots) (sym a.entered) (true_for_added answers slots on.0 a.step (legal-on n on.0 l on.1) (truly-on n on.0 l truly on.1) a.truly)

  pub reach-on : (P : List JournalStep) (i n : ℕ) (K : List Entry) → IsLegal slots J → Reaches (lone_dispatched slots) P (replicate i AnOrder) (steps J)
      → On n K
      → Reaches (lone_dispatched slots) P (replicate (i + n) AnOrder) (steps K)
  reach-on P i zero K l taken same =
      let all : i ≡ i + 0 = omega arith in
      subst (λ (k : ℕ). Reaches (lone_dispatched slots) P (replicate k AnOrder) (steps K)) all
      (subst (λ (E : List Entry). Reaches (lone_dispatched slots) P (replicate i AnOrder) (steps E)) (sym same) taken)
  reach-on P i (suc n) K l taken on =
      let all : (i + n) + 1 ≡ i + suc n = omega arith in
      subst (λ (k : ℕ). Reaches (lone_dispatched slots) P (replicate k AnOrder) (steps K)) all
      (order-on answers slots on.0 K on.3 P (i + n) (legal-on n on.0 l on.1) on.2 (reach-on P i n on.0 l taken on.1))
