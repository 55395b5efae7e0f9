-- What a command makes, from its text and the machine that it keeps.
use Rattle.std.proofs.Common.{◌≡◌, ℕ, List, Vec, Global, Option, Some, None, Result, Ok, Err, IfOk, true, sym, subst}
use Rattle.kdf_theory.specs.MachineView.{MachineView}
use Rattle.kdf_command.specs.declared.command.Command.{Command}
use Rattle.kdf_top.specs.declared.making.Produced.{Produced}
use Rattle.kdf_top.specs.Answers.{IsFaultless, IsMade, IsTrusted}
use Rattle.kdf_command.specs.Commands.{keeps_machine}
use Rattle.kdf_top.specs.Deck.{deck_fault}
use Rattle.kdf_top.specs.Due.{IsMachineOf, IsTextFrom, job_of}

pub map_ok : {A E : Type 0} (P Q : A → Type 0) (r : Result A E) → ((x : A) → P x → Q x) → IfOk r P → IfOk r Q
map_ok P Q (Ok x) f h = f x h
map_ok P Q (Err e) f h = tt {0}

-- a text without a machine
pub with_none : {E : Type 0} (r : Result Produced E) (t : Result (Vec ℕ Global) E) (due : List ℕ) (P : Produced → Type 0)
    → IfOk r (λ made. t ≡ Ok made.text) → IfOk r (λ made. made.machine ≡ None) → IfOk t (λ x. x.items ≡ due)
    → ((made : Produced) → made.text.items ≡ due → made.machine ≡ None → P made) → IfOk r P
with_none (Ok made) t due P is kept text f = f made (subst (λ x. IfOk x (λ (y : Vec ℕ Global). y.items ≡ due)) is text) kept
with_none (Err e) t due P is kept text f = tt {0}

-- a text with its machine
pub with_both : {E D : Type 0} (r : Result Produced E) (t : Result (Vec ℕ Global) D) (m : MachineView) (due : List ℕ) (P : Produced → Type 0)
    → IfOk r (λ made. t ≡ Ok made.text) → IfOk r (λ made. made.machine ≡ Some m) → IfOk t (λ x. x.items ≡ due)
    → ((made : Produced) → made.text.items ≡ due → made.machine ≡ Some m → P made) → IfOk r P
with_both (Ok made) t m due P is kept text f = f made (subst (λ x. IfOk x (λ (y : Vec ℕ Global). y.items ≡ due)) is text) kept
with_both (Err e) t m due P is kept text f = tt {0}

-- a text and a machine
module _ (answers : ℕ → ℕ → Type 0) (c : Command) (bytes : List ℕ) (faultless : IsFaultless c bytes) (assembles : deck_fault (job_of c bytes).slots ≡ None)
    (trusted : IsTrusted answers c bytes)
    (t : List ℕ) (kept : Option MachineView) where
  pub made_with : (m : MachineView) → kept ≡ Some m → keeps_machine c ≡ true → IsMachineOf answers (job_of c bytes) m → IsTextFrom answers c bytes m.journal t
      → IsMade answers c bytes t kept
  made_with m is runs machine text = subst (IsMade answers c bytes t) (sym is)
      (record { faultless = faultless; assembles = assembles; trusted = trusted; keeps = (runs, machine); text_is = text })
