-- The command of a name and the words after it, from what its name makes of them.
use Rattle.std.proofs.Common.{◌≡◌, List, [], ◌∷◌, ℕ, Option, Some, None, Result, Ok, Err, IfOk, cond, refl, sym, ap, ◌∙◌, subst}
use Rattle.std.specs.Prelude.{codes}
use Rattle.kdf_command.specs.Commands.{command}
use Rattle.kdf_command.specs.Values.{is_empty}
use Rattle.kdf_command.specs.declared.command.Command.{Command}
use Rattle.kdf_command.specs.declared.command.Command.TheVariants.{Run, Save, Resume, Check}

pub named : {E : Type 0} (name known : List ℕ) (words : List (List ℕ)) (r : Result (Option Command) E) → name ≡ known
    → IfOk r (λ c. c ≡ command (known ∷ words)) → IfOk r (λ c. c ≡ command (name ∷ words))
named name known words r is h = subst (λ n. IfOk r (λ c. c ≡ command (n ∷ words))) (sym is) h

-- a name alone is this command, and with a value or two it is none
pub record IsBare (name : List ℕ) (c : Command) : Type 0 where
  pub none : command (name ∷ []) ≡ Some c
  pub one : (value : List ℕ) → command (name ∷ value ∷ []) ≡ None
  pub two : (value second : List ℕ) → command (name ∷ value ∷ second ∷ []) ≡ None
  pub more : (value second third : List ℕ) (words : List (List ℕ)) → command (name ∷ value ∷ second ∷ third ∷ words) ≡ None

bare_words : (name : List ℕ) (c : Command) → IsBare name c → (words : List (List ℕ)) → cond (is_empty words) (Some c) None ≡ command (name ∷ words)
bare_words name c is [] = sym is.none
bare_words name c is (value ∷ []) = sym (is.one value)
bare_words name c is (value ∷ second ∷ []) = sym (is.two value second)
bare_words name c is (value ∷ second ∷ third ∷ words) = sym (is.more value second third words)

pub bare_is : {E : Type 0} (name known : List ℕ) (c : Command) (words : List (List ℕ)) (r : Result (Option Command) E) → name ≡ known → IsBare known c
    → IfOk r (λ x. x ≡ cond (is_empty words) (Some c) None) → IfOk r (λ x. x ≡ command (name ∷ words))
bare_is name known c words (Ok x) same is h = h ∙ bare_words known c is words ∙ ap (λ n. command (n ∷ words)) (sym same)
bare_is name known c words (Err e) same is h = tt {0}

pub run_is : IsBare (codes "run") Run
unfolding command
run_is = record { none = refl; one = λ v. refl; two = λ v w. refl; more = λ v w x ws. refl }

pub save_is : IsBare (codes "save") Save
unfolding command
save_is = record { none = refl; one = λ v. refl; two = λ v w. refl; more = λ v w x ws. refl }

pub resume_is : IsBare (codes "resume") Resume
unfolding command
resume_is = record { none = refl; one = λ v. refl; two = λ v w. refl; more = λ v w x ws. refl }

pub check_is : IsBare (codes "check") Check
unfolding command
check_is = record { none = refl; one = λ v. refl; two = λ v w. refl; more = λ v w x ws. refl }
