-- The look after an order, and which programs are live.
use Rattle.std.specs.Prelude.{is_some}
use Rattle.std.specs.Option.{option_map}
use Rattle.std.proofs.Common.{◌≡◌, ◌≢◌, ℕ, zero, suc, ◌<◌, ◌≤◌, Bool, true, false, cond, ◌&&◌, List, [], ◌∷◌, map, Option, Some, None, ◌⊎◌, inl, inr, refl, sym}
use Rattle.std.proofs.Common.{◌∙◌, ap, subst, ⊎_elim, arith}
use Rattle.std.proofs.lemmas.Bool.{cases_eq, eq-eqb, ne_eqb}
use Rattle.kdf_journal.specs.declared.entry.Entry.{Entry}
use Rattle.kdf_journal.specs.Counts.{answers, calls, clock, ran}
use Rattle.kdf_journal.specs.Steps.{Note, JournalStep, Holds, Obeys, Waits}
use Rattle.kdf_journal.proofs.Bounds.{ran-le-calls}
use Rattle.kdf_course.specs.World as course
use Rattle.kdf_transfer.specs.Slots.{Slot}
use Rattle.kdf_processor.specs.declared.registers.Registers.{Registers}
use Rattle.kdf_journal.specs.declared.need.Need.{Need}
use Rattle.kdf_processor.specs.Lone.{is_live}
use Rattle.kdf_processor.specs.State.{State}
use Rattle.kdf_director.specs.declared.machine.Progress.{Progress}
use Rattle.kdf_director.specs.declared.machine.Progress.TheVariants as progress
use Rattle.kdf_director.specs.Advance.{Advance, AdvanceWith, HeldUp, Obeyed, Waited}
use Rattle.kdf_theory.specs.Legal.{IsLegal, note_of}
use Rattle.kdf_theory.specs.Next.{lives}
use Rattle.kdf_director.specs.Orders.{HasMade}
use Rattle.kdf_theory.specs.MachineView.{MachineView, ShowsSeen, state_at, state_in, state_of, world_of}
use Rattle.kdf_theory.specs.Slots.{slot_of, start, start_of}
use Rattle.kdf_theory.specs.ByJournal.{own, seen_of}
use Rattle.kdf_theory.specs.True.{truth}
use Rattle.kdf_director.proofs.Calls.OneCall.{calls-took, clock-took}
use Rattle.kdf_theory.proofs.Course.LegalFacts.{legal_alive}
use Rattle.kdf_director.proofs.Calls.FoundLive.{found_is}
use Rattle.kdf_theory.proofs.Course.NextLives.{next_four}
use Rattle.kdf_theory.proofs.Course.Worlds.{next_slot}
use Rattle.kdf_watch.specs.declared.look.Look.{Look}
use Rattle.kdf_watch.specs.Called.{IsBlind, Tells}
use Rattle.kdf_watch.specs.Looks.{look_at}
use Rattle.kdf_watch.specs.Rules.{IsLook}
use Rattle.kdf_watch.proofs.Placed.{lone_there}

-- ---- the place of its next order

begun : (o : Option Slot) → (start_of o).registers.at < 49152
begun None = omega arith
begun (Some s) = omega arith

own_there : (slots : List Slot) (J : List Entry) (p : ℕ) → (own slots J p).registers.at < 49152
unfolding own
own_there slots J p = lone_there (start slots p) (answers p J) (ran p J) (begun (slot_of slots p))

-- ---- what a machine shows of a program

state_is : (g : ℕ → State) (p : ℕ) (slots : List Slot) → state_in slots (map (λ (x : Slot). g x.p) slots) p ≡ option_map (λ (x : Slot). g p) (slot_of slots p)
state_is g p [] = refl
state_is g p (x ∷ slots) =
    ⊎_elim
    (λ (same : x.p ≡ p).
    ap (λ b. cond b (Some (g x.p)) (state_in slots (map (λ (y : Slot). g y.p) slots) p)) (eq-eqb x.p p same)
    ∙ (ap (λ k. Some (g k)) same ∙ sym (ap (λ b. option_map (λ (y : Slot). g p) (cond b (Some x) (slot_of slots p))) (eq-eqb x.p p same))))
    (λ (ne : x.p ≢ p).
    ap (λ b. cond b (Some (g x.p)) (state_in slots (map (λ (y : Slot). g y.p) slots) p)) (ne_eqb x.p p ne)
    ∙ (state_is g p slots ∙ sym (ap (λ b. option_map (λ (y : Slot). g p) (cond b (Some x) (slot_of slots p))) (ne_eqb x.p p ne))))
    (cases_eq x.p p)

-- its registers are those of its lone run
own_registers : (slots : List Slot) (J : List Entry) (p : ℕ) (o : Option Slot)
    → option_map (λ (s : State). s.registers) (option_map (λ (x : Slot). seen_of slots J p) o) ≡ option_map (λ (x : Slot). (own slots J p).registers) o
own_registers slots J p None = refl
own_registers slots J p (Some x) = refl

pub registers_are : (m : MachineView) (p : ℕ) → ShowsSeen m → option_map (λ (s : State). s.registers) (state_of m p) ≡ option_map
    (λ (x : Slot). (own m.slots m.journal p).registers) (slot_of m.slots p)
registers_are m p seen =
    ap (λ (xs : List State). option_map (λ (s : State). s.registers) (state_in m.slots xs p)) seen
    ∙ (ap (option_map (λ (s : State). s.registers)) (state_is (seen_of m.slots m.journal) p m.slots) ∙ own_registers m.slots m.journal p (slot_of m.slots p))

-- where there is a slot
there_by : (o : Option Slot) (r : Registers) (found : Option Registers) → is_some o ≡ true → found ≡ option_map (λ (x : Slot). r) o → found ≡ Some r
there_by None r found is same = cc
there_by (Some x) r found is same = same

pub registers_there : (m : MachineView) (p : ℕ) → ShowsSeen m → is_some (slot_of m.slots p) ≡ true → option_map (λ (s : State). s.registers) (state_of m p)
    ≡ Some (own m.slots m.journal p).registers
registers_there m p seen is = there_by (slot_of m.slots p) (own m.slots m.journal p).registers (option_map (λ (s : State). s.registers) (state_of m p)) is
    (registers_are m p seen)

-- ---- whether it is live

abbrev pub is_on : Option Registers → Bool
is_on None = false
is_on (Some r) = is_live r.state

on_by : (o : Option Slot) (r : Registers) → is_on (option_map (λ (x : Slot). r) o) ≡ (is_some o && is_live r.state)
on_by None r = refl
on_by (Some x) r = refl

pub lives_is : (m : MachineView) (p : ℕ) → ShowsSeen m → IsLegal m.slots m.journal → is_on (option_map (λ (s : State). s.registers) (state_of m p))
    ≡ lives m.slots m.journal p
unfolding course.lives
lives_is m p seen legal =
    ap is_on (registers_are m p seen)
    ∙ (on_by (slot_of m.slots p) (own m.slots m.journal p).registers ∙ ap (λ b. is_some (slot_of m.slots p) && b) (legal_alive m.slots m.journal legal p))

-- ---- the look

abbrev at_in : Option Registers → ℕ
at_in None = 0
at_in (Some r) = r.at

-- a program of a slot isn't absent
none_there : (r : Registers) (found : Option Registers) → found ≡ Some r → None ≡ found → ⊥
none_there r None is absent = cc
none_there r (Some x) is absent = cc

module _ (m : MachineView) (p : ℕ) (seen : ShowsSeen m) (is : is_some (slot_of m.slots p) ≡ true) where
  pub absent : None ≡ option_map (λ (s : State). s.registers) (state_of m p) → ⊥
  absent e = none_there (own m.slots m.journal p).registers (option_map (λ (s : State). s.registers) (state_of m p)) (registers_there m p seen is) e

  pub look_is : (r : Registers) (J : List Entry) (n t : ℕ) → Some r ≡ option_map (λ (s : State). s.registers) (state_of m p) → J ≡ m.journal → n ≡ ran p J
      → t ≡ clock J → record { p = p; ran = n; at = r.at; clock = t } ≡ look_at m.slots m.journal p
  look_is r J n t found same is_ran is_time =
      λ i. record { p = p; ran = (is_ran ∙ ap (ran p) same) i; at = ap at_in (found ∙ registers_there m p seen is) i; clock = (is_time ∙ ap clock same) i }

-- ---- a call

-- a program obeyed, and this is the look at it
abbrev pub Sighted : MachineView → MachineView → Look → Type 0
Sighted m w look = (note : Note) × Tells m w (Obeys look.p note) × (look ≡ look_at m.slots w.journal look.p) × IsLook look

-- or none did
abbrev pub Unsighted : MachineView → MachineView → Type 0
Unsighted m w = (s : JournalStep) × Tells m w s × IsBlind s

-- no call is none
pub at_once : (answers : ℕ → ℕ → Type 0) (k : ℕ) → k ≡ 0 → (old between : MachineView) → HasMade answers k old between → between ≡ old
at_once answers zero none old between made = made
at_once answers (suc k) none old between made = absurd cc

module _ (answers : ℕ → ℕ → Type 0) (m w : MachineView) (r : Progress) (took : AdvanceWith answers m w r) where
  obeyed : (p : ℕ) → r ≡ progress.Ran p → Obeyed took.heard m w p
  obeyed p is = subst (Advance took.heard m w) is took.advance

  pub slot_there : (p : ℕ) → r ≡ progress.Ran p → w.slots ≡ m.slots → is_some (slot_of w.slots p) ≡ true
  slot_there p is same = ap (λ (S : List Slot). is_some (slot_of S p)) same ∙ next_slot (world_of m) m.slots m.journal p (obeyed p is).was_next

  seen_by : (heard : ℕ) (p : ℕ) → Obeyed heard m w p → w.slots ≡ m.slots → calls m.journal < 20000000 → clock m.journal ≤ 140737488355327
      → Sighted m w (look_at w.slots w.journal p)
  seen_by heard p did same few time = (
    note_of (state_at m p) (truth (world_of m) m.journal p heard),
    record { live = found_is heard m w (progress.Ran p) did; journal = did.journal },
    ap (λ (S : List Slot). look_at S w.journal p) same,
    record {
      p = next_four (world_of m) m.slots m.journal p did.was_next;
      ran = omega (arith, ran-le-calls p w.journal, calls-took heard m w (progress.Ran p) did, few);
      at = own_there w.slots w.journal p;
      clock = omega (arith, clock-took heard m w (progress.Ran p) did, time);
    },
  )

  pub called_seen : (p : ℕ) → r ≡ progress.Ran p → w.slots ≡ m.slots → calls m.journal < 20000000 → clock m.journal ≤ 140737488355327 → (look : Look)
      → look ≡ look_at w.slots w.journal p → Sighted m w look
  called_seen p is same few time look look_is = subst (λ (x : Look). Sighted m w x) (sym look_is) (seen_by took.heard p (obeyed p is) same few time)

  held_by : (heard : ℕ) (p : ℕ) (need : Need) → HeldUp m w p need → Unsighted m w
  held_by heard p need did = (Holds p need, record { live = found_is heard m w (progress.Held p need) did; journal = did.journal }, λ slots J. refl)

  idle_by : Waited m w → Unsighted m w
  idle_by did = (Waits, record { live = did.live; journal = did.journal }, λ slots J. refl)

  pub called_unseen : ((p : ℕ) × (need : Need) × (r ≡ progress.Held p need)) ⊎ (r ≡ progress.Idle) → Unsighted m w
  called_unseen (inl held) = held_by took.heard held.0 held.1 (subst (Advance took.heard m w) held.2 took.advance)
  called_unseen (inr idle) = idle_by (subst (Advance took.heard m w) idle took.advance)
