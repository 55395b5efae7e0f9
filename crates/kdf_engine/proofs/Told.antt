-- Facts are handed out whole, or their size is told.
use Rattle.std.proofs.Common.{◌≡◌, ◌≢◌, ℕ, ◌<◌, ◌≤◌, inl, inr, List, length, take, drop, Bool, true, false, Some, refl, sym, ap, subst, ◌∙◌}
use Rattle.kdf_facts.specs.Run.{IsRunTold}
use Rattle.kdf_facts.specs.Told.{IsAnswer, OfJob, TellsJob, called_over}
use Rattle.kdf_job.specs.Job.{ShownJob}
use Rattle.kdf_job.specs.Reading.{job}
use Rattle.kdf_top.specs.Answers.{IsCalledBy, IsCalledFor}
use Rattle.kdf_command.specs.Commands.{command, is_command}
use Rattle.kdf_command.specs.declared.command.Command.TheVariants.{Run}
use Rattle.kdf_top.specs.declared.status.Status.{Status}
use Rattle.kdf_top.specs.declared.status.Status.TheVariants as status
use Rattle.kdf_engine.specs.Service.{exchanged}
use Rattle.kdf_engine.specs.Told.{AreFacts, IsTold}
use Rattle.kdf_engine.proofs.Called.{answers_called}
use Rattle.kdf_engine.proofs.Handed.{either}
use Rattle.kdf_engine.proofs.More.{journal_more}

-- ---- nothing failed
pub other_answer : (is_command : Bool) (given bad : Status) → (is_command ≡ true → IsAnswer given) → (is_command ≡ false → given ≡ status.Usage)
    → (IsAnswer bad → ⊥) → status.Usage ≢ bad → given ≢ bad
other_answer true given bad answer usage none other e = none (subst IsAnswer e (answer refl))
other_answer false given bad answer usage none other e = other (sym (usage refl) ∙ e)

-- ---- what is told with a service is told with another that gives these answers, too
module _ (answers more : ℕ → ℕ → Type 0) (part : (n a : ℕ) → answers n a → more n a) where
  run_more : (j : ShownJob) (text : List ℕ) → IsRunTold answers j text → IsRunTold more j text
  run_more j text is = (is.0, journal_more answers more part _ _ is.0 is.1, is.2)

  pub tells_more : (bytes text : List ℕ) → OfJob (TellsJob answers) bytes text → OfJob (TellsJob more) bytes text
  tells_more bytes text is = λ few faultless assembles. run_more (job bytes) text (is few faultless assembles)

-- what is called for over a job is called for by the words that run it
pub called_by_run : (words : List (List ℕ)) (job : List ℕ) (given : Status) → command words ≡ Some Run → given ≡ called_over job
    → IsCalledFor exchanged words job given
called_by_run words job given run is = subst (λ c. IsCalledBy exchanged c job given) (sym run) is

module _ (words : List (List ℕ)) (job before after text : List ℕ) where
  -- where they fit
  told_out : (given : Status) → (command words ≡ Some Run → IsCalledFor exchanged words job given)
      → (is_command words ≡ true → given ≢ status.Usage) → given ≢ status.ReadFault
      → given ≢ status.WriteFault → given ≢ status.Memory → AreFacts words job text
      → take (length text) after ≡ text → drop (length text) after ≡ drop (length text) before
      → IsTold words job before after given (length text)
  told_out given called usage read write memory are front beyond = record {
    answer = λ run. answers_called (IsCalledFor exchanged words job) given _ _ (called run) read write;
    usage = usage;
    read = read;
    facts = λ h. (text, are, refl, λ k. front);
    short = λ is. absurd (write is);
    short_writes = λ is. absurd (write is);
    memory = λ is. absurd (memory is);
    beyond = beyond;
  }

  -- where they don't
  told_short : AreFacts words job text → length before < length text → after ≡ before
      → IsTold words job before after status.WriteFault (length text)
  told_short are short same = record {
    answer = λ run. short;
    usage = λ is e. absurd (cc);
    read = λ e. absurd (cc);
    facts = λ h. (text, are, refl, λ k. absurd (k refl));
    short = λ e. short;
    short_writes = λ e. same;
    memory = λ e. absurd (cc);
    beyond = ap (drop (length text)) same;
  }

-- in either case
pub told : (words : List (List ℕ)) (job before after text : List ℕ) (called given : Status) (size : ℕ)
    → (command words ≡ Some Run → IsCalledFor exchanged words job called) → (is_command words ≡ true → IsAnswer called)
    → (is_command words ≡ false → called ≡ status.Usage) → AreFacts words job text
    → size ≡ length text → (length text ≤ length before → given ≡ called) → (length text ≤ length before → take (length text) after ≡ text)
    → (length before < length text → given ≡ status.WriteFault) → (length before < length text → after ≡ before)
    → drop (length text) after ≡ drop (length text) before → IsTold words job before after given size
told words job before after text called given size asked answer usage are sized fits front short same beyond =
    let never : (bad : Status) → (IsAnswer bad → ⊥) → status.Usage ≢ bad → called ≢ bad = λ bad. other_answer (is_command words) called bad answer usage in
    subst (IsTold words job before after given) (sym sized) (elim (either (length text) (length before)) [
      | inl most ↦ subst (λ s. IsTold words job before after s (length text)) (sym (fits most))
          (told_out words job before after text called asked (λ is e. subst IsAnswer e (answer is)) (never status.ReadFault (λ x. x) (λ e. absurd (cc)))
          (never status.WriteFault (λ x. x) (λ e. absurd (cc))) (never status.Memory (λ x. x) (λ e. absurd (cc))) are (front most) beyond)
      | inr less ↦ subst (λ s. IsTold words job before after s (length text)) (sym (short less)) (told_short words job before after text are less (same less))
    ])
