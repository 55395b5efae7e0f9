-- The looks that calls passed by.
use Rattle.std.specs.Prelude.{is_some}
use Rattle.std.proofs.Common.{◌≡◌, ℕ, zero, suc, ◌+◌, ◌≤◌, ◌<◌, Bool, Some, true, false, inl, inr, refl, sym, ◌∙◌, ap, subst, arith}
use Rattle.kdf_journal.specs.Counts.{calls, clock}
use Rattle.kdf_processor.specs.declared.registers.Registers.{Registers}
use Rattle.kdf_director.specs.declared.halt.Halt.{Halt}
use Rattle.kdf_director.specs.declared.halt.Halt.TheVariants.{Never, Each, At}
use Rattle.kdf_director.specs.declared.machine.Progress.{Progress}
use Rattle.kdf_director.specs.declared.machine.Progress.TheVariants as progress
use Rattle.kdf_director.specs.Advance.{AdvanceWith}
use Rattle.kdf_director.specs.Halts.{halts, stops, ArePassed, HasPassed, IsPassed}
use Rattle.kdf_director.specs.Progressed.{found_live}
use Rattle.kdf_theory.specs.ByJournal.{own}
use Rattle.kdf_theory.specs.Legal.{IsLegal}
use Rattle.kdf_theory.specs.MachineView.{MachineView, ShowsSeen}
use Rattle.kdf_theory.specs.Slots.{slot_of}
use Rattle.kdf_watch.specs.declared.look.Look.{Look}
use Rattle.kdf_watch.specs.Looks.{look_at}
use Rattle.kdf_watch.specs.Rules.{is_halt, IsStopFor}
use Rattle.kdf_watch.specs.Stopped.{HasGone}
use Rattle.kdf_watch.proofs.Gone.{gone_blind, gone_look, gone_none}
use Rattle.kdf_watch.proofs.Looking.{at_once, called_seen, called_unseen, registers_there, slot_there, Sighted, Unsighted}

-- calls stop at a look exactly where they stop after the call
halt_is : (halt : Halt) (p n t : ℕ) (r : Registers) → halts halt p (Some r) ≡ is_halt halt (record { p = p; ran = n; at = r.at; clock = t })
halt_is Never p n t r = refl
halt_is Each p n t r = refl
halt_is (At k at) p n t r = refl

no_halt : (halt : Halt) (w : MachineView) (p : ℕ) (look : Look) → ShowsSeen w → is_some (slot_of w.slots p) ≡ true → look ≡ look_at w.slots w.journal p
    → stops halt w (progress.Ran p) ≡ false → is_halt halt look ≡ false
no_halt halt w p look seen there is goes_on =
    ap (is_halt halt) is
    ∙ sym (halt_is halt p (look_at w.slots w.journal p).ran (look_at w.slots w.journal p).clock (own w.slots w.journal p).registers)
    ∙ sym (ap (halts halt p) (registers_there w p seen there))
    ∙ goes_on

pub passed_of : (answers : ℕ → ℕ → Type 0) (halt : Halt) (n : ℕ) (m w : MachineView) → (halt ≡ Never → ⊥) → ArePassed answers halt n m w
    → HasPassed answers halt n m w
passed_of answers Never n m w may p = absurd (may refl)
passed_of answers Each n m w may p = p
passed_of answers (At k at) n m w may p = p

-- so many calls were passed by
pub record Passed (sees : Look → Bool → Type 0) (m w : MachineView) (n : ℕ) : Type 0 where
  pub gone : HasGone sees m w
  pub slots : w.slots ≡ m.slots
  pub legal : IsLegal w.slots w.journal
  pub few : calls w.journal ≤ calls m.journal + n
  pub time : clock w.journal ≡ clock m.journal

module _ (answers : ℕ → ℕ → Type 0) (sees : Look → Bool → Type 0) (halt : Halt) (stop : IsStopFor sees halt) where
  module _ (m b w : MachineView) (n : ℕ) (g : Passed sees m b n) (few : calls m.journal + n < 20000000) (time : clock m.journal ≤ 140737488355327)
      (same : w.slots ≡ b.slots) (seen : ShowsSeen w) where
    by_call : (r : Progress) → AdvanceWith answers b w r → found_live r ≡ true → stops halt w r ≡ false → HasGone sees m w
    by_call (progress.Ran p) took live goes_on =
        let look : Look = look_at w.slots w.journal p in
        let there = slot_there answers b w (progress.Ran p) took p refl same in
        let s : Sighted b w look = called_seen answers b w (progress.Ran p) took p refl same (omega (arith, g.few, few)) (omega (arith, g.time, time)) look
        refl in
        gone_look sees m b w g.gone g.slots look s.0 s.1 s.2 g.legal (stop.elsewhere look s.3 (no_halt halt w p look seen there refl goes_on))
    by_call (progress.Held p need) took live goes_on =
        let u : Unsighted b w = called_unseen answers b w (progress.Held p need) took (inl (p, need, refl)) in
        gone_blind sees m b w g.gone u.0 u.1 u.2
    by_call progress.Idle took live goes_on =
        let u : Unsighted b w = called_unseen answers b w progress.Idle took (inr refl) in
        gone_blind sees m b w g.gone u.0 u.1 u.2
    by_call progress.AllEnded took live goes_on = absurd cc

  pass_one : (m b w : MachineView) (n : ℕ) → Passed sees m b n → IsPassed answers halt b w → calls m.journal + n < 20000000 → clock m.journal ≤ 140737488355327
      → Passed sees m w (suc n)
  pass_one m b w n g p few time =
      let x = p.made in
      let h = x.all_on p.live in
      let none : x.before ≡ 0 = omega (arith, x.count) in
      record {
        gone = by_call m b w n g few time h.slots p.seen p.progress
            (subst (λ (z : MachineView). AdvanceWith answers z w p.progress) (at_once answers x.before none b x.between x.earlier.made) x.last) p.live
            p.goes_on;
        slots = h.slots ∙ g.slots;
        legal = h.legal;
        few = omega (arith, h.few, g.few);
        time = h.time ∙ g.time;
      }

  pub pass_all : (n : ℕ) (m w : MachineView) → HasPassed answers halt n m w → IsLegal m.slots m.journal → calls m.journal + n ≤ 20000000
      → clock m.journal ≤ 140737488355327 → Passed sees m w n
  pass_all zero m w same legal few time =
      subst (λ (z : MachineView). Passed sees m z 0) (sym same)
      (record { gone = gone_none sees m; slots = refl; legal = legal; few = omega arith; time = refl })
  pass_all (suc n) m w h legal few time =
      pass_one m h.0 w n (pass_all n m h.0 h.1 legal (omega (arith, few)) time) h.2 (omega (arith, few)) time
