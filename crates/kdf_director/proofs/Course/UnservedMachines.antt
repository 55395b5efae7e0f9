-- A machine none of whose programs is served does with one service what it does with each.
use Rattle.std.specs.Prelude.{unwrap_or}
use Rattle.std.proofs.Common.{◌≡◌, ℕ, Bool, true, false, cond, eqb, List, [], ◌∷◌, map, Option, Some, None, refl, ap, ◌∙◌}
use Rattle.kdf_transfer.specs.Slots.{Slot}
use Rattle.kdf_director.specs.Advance.{HasHeard, AdvanceWith}
use Rattle.kdf_theory.specs.Slots.{NoneServed, start_of}
use Rattle.kdf_theory.specs.ByJournal.{seen_of}
use Rattle.kdf_theory.proofs.Course.HeardWords.{none_heard}
use Rattle.kdf_theory.specs.MachineView.{MachineView, ShowsSeen, state_at, state_in}
use Rattle.kdf_director.specs.declared.machine.Progress.{Progress}
use Rattle.kdf_director.specs.declared.machine.Progress.TheVariants as progress
use Rattle.kdf_theory.proofs.Course.OneJournal.{own_unserved}
use Rattle.kdf_processor.specs.State.{State}

-- the states that a machine shows of such slots aren't those of served programs
unserved_state : (b : Bool) (x : State) (rest : Option State) → x.stock.claims.served ≡ false → (unwrap_or rest (start_of None)).stock.claims.served ≡ false
    → (unwrap_or (cond b (Some x) rest) (start_of None)).stock.claims.served ≡ false
unserved_state true x rest this others = this
unserved_state false x rest this others = others

unserved_in : (g : ℕ → State) → ((p : ℕ) → (g p).stock.claims.served ≡ false) → (slots : List Slot) (p : ℕ)
    → (unwrap_or (state_in slots (map (λ (x : Slot). g x.p) slots) p) (start_of None)).stock.claims.served ≡ false
unserved_in g each [] p = refl
unserved_in g each (x ∷ slots) p = unserved_state (eqb x.p p) (g x.p) (state_in slots (map (λ (y : Slot). g y.p) slots) p) (each x.p)
    (unserved_in g each slots p)

heard_unserved : (answers : ℕ → ℕ → Type 0) (m : MachineView) (heard : ℕ) (r : Progress) → NoneServed m.slots → ShowsSeen m → HasHeard answers m heard r
heard_unserved answers m heard (progress.Ran p) none seen =
    none_heard answers heard (state_at m p)
    (ap (λ (xs : List State). (unwrap_or (state_in m.slots xs p) (start_of None)).stock.claims.served) seen
    ∙ unserved_in (seen_of m.slots m.journal) (λ q. own_unserved m.slots none m.journal q) m.slots p)
heard_unserved answers m heard r none seen = tt

pub advance_unserved : (answers more : ℕ → ℕ → Type 0) (m n : MachineView) (r : Progress) → NoneServed m.slots → ShowsSeen m → AdvanceWith answers m n r
    → AdvanceWith more m n r
advance_unserved answers more m n r none seen took = record {
  heard = took.heard;
  is_heard = heard_unserved more m took.heard r none seen;
  advance =
      took.advance;
}
