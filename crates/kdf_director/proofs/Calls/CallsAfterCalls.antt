-- Calls after others, each of which found a live program.
use Rattle.std.specs.Prelude.{replicate}
use Rattle.std.proofs.Common.{◌≡◌, ℕ, zero, suc, ◌+◌, inl, List, [], ◌∷◌, ◌++◌, true, refl, sym, ap, ap₂, ◌∙◌, append-nil, append_assoc, arith, subst}
use Rattle.std.proofs.lemmas.Bool.{true≢false}
use Rattle.std.proofs.lemmas.Grind.{replicate_next}
use Rattle.std.proofs.lemmas.List.{replicate-append-replicate}
use Rattle.kdf_journal.specs.declared.entry.Entry.{Entry}
use Rattle.kdf_journal.specs.Steps.{JournalStep, Obeys, Holds, Waits, added, journal_of, steps}
use Rattle.kdf_journal.proofs.Steps.{steps-added}
use Rattle.kdf_schedule.specs.Calls.{Call, AnOrder}
use Rattle.kdf_course.specs.Follows.{EachLive, Reaches, answered, call_of}
use Rattle.kdf_course.proofs.Reaching.{answered-append}
use Rattle.kdf_transfer.specs.Slots.{Slot}
use Rattle.kdf_director.specs.declared.machine.Progress.{Progress}
use Rattle.kdf_director.specs.declared.machine.Progress.TheVariants as progress
use Rattle.kdf_director.specs.Advance.{Advance, AdvanceWith}
use Rattle.kdf_theory.specs.Legal.{IsLegal, note_of}
use Rattle.kdf_theory.specs.Next.{any_live, lone_dispatched}
use Rattle.kdf_director.specs.Orders.{HasMade}
use Rattle.kdf_director.specs.Progressed.{found_live}
use Rattle.kdf_director.specs.Runs.{HasMadeOn, HasMadeSome}
use Rattle.kdf_theory.specs.Served.{IsAnswered, IsTrueFor}
use Rattle.kdf_theory.specs.MachineView.{MachineView, state_at, world_of}
use Rattle.kdf_theory.specs.True.{truth}
use Rattle.kdf_director.proofs.Calls.OneCall.{calls-took, clock-took}
use Rattle.kdf_theory.proofs.Course.OneJournal.{true_for_answered}
use Rattle.kdf_director.proofs.Calls.FoundLive.{found_is}

-- the step of a call that found a live program
record IsStep (J K : List Entry) : Type 0 where
  step : JournalStep
  order : call_of step ≡ AnOrder
  is : K ≡ added J step

step_of : (heard : ℕ) (m n : MachineView) (r : Progress) → Advance heard m n r → found_live r ≡ true → IsStep m.journal n.journal
step_of heard m n (progress.Ran p) took live = record {
  step = Obeys p (note_of (state_at m p) (truth (world_of m) m.journal p heard));
  order = refl;
  is =
      took.journal;
}
step_of heard m n (progress.Held p need) took live = record { step = Holds p need; order = refl; is = took.journal }
step_of heard m n progress.Idle took live = record { step = Waits; order = refl; is = took.journal }
step_of heard m n progress.AllEnded took live = absurd (true≢false (sym live))

module _ (answers : ℕ → ℕ → Type 0) where
  -- none yet
  pub made_none : (m : MachineView) → IsLegal m.slots m.journal → HasMadeOn answers 0 m m
  made_none m legal =
      record {
        made = refl;
        more = [];
        goes_on = refl;
        in_order = refl;
        lived = λ l. l;
        truthful = λ t. t;
        legal = legal;
        few = omega arith;
        time = refl;
        slots = refl;
        room = refl;
      }

  -- one more
  pub made_more : (n : ℕ) (old m new : MachineView) (r : Progress) → HasMadeOn answers n old m → AdvanceWith answers m new r → found_live r ≡ true
      → IsAnswered answers m.slots m.journal new.journal → IsLegal new.slots new.journal → new.slots ≡ m.slots → new.room ≡ m.room
      → HasMadeOn answers (suc n) old new
  made_more n old m new r h took found served legal slots room =
      let s = step_of took.heard m new r took.advance found in
      let on : steps new.journal ≡ s.step ∷ steps m.journal = ap steps s.is ∙ steps-added m.journal s.step in
      let count : n + 1 ≡ suc n = omega arith in
      let before : any_live old.slots (journal_of (steps m.journal)) ≡ true = ap₂ any_live (sym h.slots) h.legal.in_form
      ∙ found_is took.heard m new r took.advance ∙ found in
      record {
        made = (m, r, h.made, took, found);
        more = s.step ∷ h.more;
        goes_on = on ∙ ap (λ (P : List JournalStep). s.step ∷ P) h.goes_on;
        in_order = ap₂ (λ (cs : List Call) (c : Call). cs ++ c ∷ []) h.in_order s.order ∙ sym (replicate_next n AnOrder)
            ∙ ap (λ (i : ℕ). replicate i AnOrder) count;
        lived = λ l. subst (EachLive (lone_dispatched old.slots)) (sym on) (h.lived l, before);
        truthful = λ t.
            subst (λ (S : List Slot). IsTrueFor answers S new.journal) (sym slots)
            (true_for_answered answers m.slots m.journal new.journal h.legal (h.truthful t) served);
        legal = legal;
        few = (let e = calls-took took.heard m new r took.advance in let few = h.few in omega arith);
        time = clock-took took.heard m new r took.advance ∙ h.time;
        slots = slots ∙ h.slots;
        room = room ∙ h.room;
      }

  -- one by itself
  pub made_one : (m new : MachineView) (r : Progress) → IsLegal m.slots m.journal → AdvanceWith answers m new r
      → IsAnswered answers m.slots m.journal new.journal
      → (found_live r ≡ true → IsLegal new.slots new.journal × (new.slots ≡ m.slots) × (new.room ≡ m.room)) → HasMadeSome answers 1 m new r
  made_one m new r legal took served after =
      record {
        before = 0;
        between = m;
        earlier = made_none m legal;
        last = took;
        answered = served;
        count = refl;
        all_on = λ found. let then = after found in made_more 0 m m new r (made_none m legal) took found served then.0 then.1 then.2;
      }

  made_next : (n : ℕ) (old m new : MachineView) (r : Progress) → HasMade answers n old m → AdvanceWith answers m new r → found_live r ≡ true
      → HasMade answers (suc n) old new
  made_next n old m new r h took found = (m, r, h, took, found)

  made_both : (n k : ℕ) (old m new : MachineView) → HasMade answers n old m → HasMade answers k m new → HasMade answers (k + n) old new
  made_both n zero old m new h same =
      let count : n ≡ zero + n = omega arith in
      subst (λ i. HasMade answers i old new) count (subst (HasMade answers n old) (sym same) h)
  made_both n (suc k) old m new h x =
      let count : suc (k + n) ≡ suc k + n = omega arith in
      subst (λ i. HasMade answers i old new) count (made_next (k + n) old x.0 new x.1 (made_both n k old m x.0 h x.2) x.3 x.4)

  -- some after others
  pub made_then : (n k : ℕ) (old m new : MachineView) → HasMadeOn answers n old m → HasMadeOn answers k m new → HasMadeOn answers (k + n) old new
  made_then n k old m new h x =
      let count : n + k ≡ k + n = omega arith in
      record {
        made = made_both n k old m new h.made x.made;
        more = x.more ++ h.more;
        goes_on = x.goes_on ∙ ap (λ (P : List JournalStep). x.more ++ P) h.goes_on ∙ sym (append_assoc x.more h.more (steps old.journal));
        in_order =
            answered-append x.more h.more
            ∙ ap₂ (λ (xs ys : List Call). xs ++ ys) h.in_order x.in_order
            ∙ replicate-append-replicate n k AnOrder
            ∙ ap (λ (i : ℕ). replicate i AnOrder) count;
        lived = λ l.
            subst (λ (S : List Slot). EachLive (lone_dispatched S) (steps new.journal)) h.slots
            (x.lived (subst (λ (S : List Slot). EachLive (lone_dispatched S) (steps m.journal)) (sym h.slots) (h.lived l)));
        truthful = λ t. x.truthful (h.truthful t);
        legal = x.legal;
        few = (let a = h.few in let b = x.few in omega arith);
        time = x.time ∙ h.time;
        slots = x.slots ∙ h.slots;
        room = x.room ∙ h.room;
      }

  -- they answer so many calls
  pub made_reaches : (n : ℕ) (old new : MachineView) → HasMadeOn answers n old new
      → Reaches (lone_dispatched old.slots) (steps old.journal) (replicate n AnOrder)
      (steps new.journal)
  made_reaches n old new h =
      record {
        more = h.more;
        goes_on = h.goes_on;
        left = [];
        in_order = append-nil (answered h.more) ∙ h.in_order;
        lived = h.lived;
        at_end = inl refl;
      }
