-- A text that is due is handed out whole, or its size is told.
use Rattle.std.proofs.Common.{◌≡◌, ◌≢◌, ℕ, ◌<◌, ◌≤◌, ◌⊎◌, inl, inr, zero, suc, List, [], length, take, drop, true, Option, Some, refl, sym, ap, subst, ◌∙◌}
use Rattle.std.proofs.Common.{arith}
use Rattle.kdf_theory.specs.MachineView.{MachineView}
use Rattle.kdf_top.specs.declared.status.Status.{Status}
use Rattle.kdf_top.specs.declared.status.Status.TheVariants as status
use Rattle.kdf_top.specs.Answers.{IsCalledFor, IsDoneBy, IsDueFor}
use Rattle.kdf_command.specs.Commands.{command, is_command}
use Rattle.kdf_engine.specs.Answered.{IsAnswered}
use Rattle.kdf_engine.specs.Service.{exchanged}
use Rattle.kdf_engine.proofs.Called.{answers_called}
use Rattle.kdf_engine.proofs.Due.{one_due}

pub either : (a b : ℕ) → (a ≤ b) ⊎ (b < a)
either zero b = inl (omega arith)
either (suc a) zero = inr (omega arith)
either (suc a) (suc b) = elim (either a b) [ inl l ↦ inl (omega (l, arith)) | inr l ↦ inr (omega (l, arith)) ]

one_exchanged : (n a b : ℕ) → exchanged n a → exchanged n b → a ≡ b
one_exchanged n a b p q = p ∙ sym q

module _ (words : List (List ℕ)) (job before after text : List ℕ) where
  -- where it fits
  pub handed_out : (given : Status) → IsCalledFor exchanged words job given → (is_command words ≡ true → given ≢ status.Usage) → given ≢ status.ReadFault
      → given ≢ status.WriteFault → given ≢ status.Memory → IsDueFor exchanged words job text
      → (given ≡ status.Done → (kept : Option MachineView) × IsDoneBy exchanged (command words) job kept (Some []) (Some text))
      → take (length text) after ≡ text → drop (length text) after ≡ drop (length text) before
      → IsAnswered words job before after given (length text)
  handed_out given called usage read write memory due done front beyond = record {
    answer = answers_called (IsCalledFor exchanged words job) given _ _ called read write;
    usage = usage;
    read = read;
    due = λ h. (text, due, refl, λ k. front);
    done = λ is. let has = done is in
        (has.0, subst (λ xs. IsDoneBy exchanged (command words) job has.0 (Some []) (Some xs)) (sym front) has.1);
    short = λ is. absurd (write is);
    room = λ d is fits. write;
    short_writes = λ is. absurd (write is);
    memory = λ is. absurd (memory is);
    beyond = beyond;
  }

  -- where it doesn't
  pub only_told : IsDueFor exchanged words job text → length before < length text → after ≡ before
      → IsAnswered words job before after status.WriteFault (length text)
  only_told due short same = record {
    answer = short;
    usage = λ is e. absurd (cc);
    read = λ e. absurd (cc);
    due = λ h. (text, due, refl, λ k. absurd (k refl));
    done = λ e. absurd (cc);
    short = λ e. short;
    room = λ d is fits e. let same_size : length d ≡ length text =
        ap length (one_due exchanged (λ n a b below p q. one_exchanged n a b p q) (command words) job d text is due) in
        omega (short, fits, same_size, arith);
    short_writes = λ e. same;
    memory = λ e. absurd (cc);
    beyond = ap (drop (length text)) same;
  }

-- where there is none
pub no_text : (words : List (List ℕ)) (job room : List ℕ) → IsAnswered words job room room status.Memory 0
no_text words job room = record {
  answer = tt {0};
  usage = λ is e. absurd (cc);
  read = λ e. absurd (cc);
  due = λ h. absurd (h refl);
  done = λ e. absurd (cc);
  short = λ e. absurd (cc);
  room = λ d is fits e. absurd (cc);
  short_writes = λ e. absurd (cc);
  memory = λ e. (refl, refl);
  beyond = refl;
}

-- in either case
pub handed : (words : List (List ℕ)) (job before after text : List ℕ) (called given : Status) (size : ℕ) → IsCalledFor exchanged words job called
    → (is_command words ≡ true → called ≢ status.Usage) → called ≢ status.ReadFault → called ≢ status.WriteFault → called ≢ status.Memory
    → IsDueFor exchanged words job text
    → (called ≡ status.Done → (kept : Option MachineView) × IsDoneBy exchanged (command words) job kept (Some []) (Some text))
    → size ≡ length text → (length text ≤ length before → given ≡ called) → (length text ≤ length before → take (length text) after ≡ text)
    → (length before < length text → given ≡ status.WriteFault) → (length before < length text → after ≡ before)
    → drop (length text) after ≡ drop (length text) before → IsAnswered words job before after given size
handed words job before after text called given size asked usage read write memory due done told fits front short same beyond =
    subst (IsAnswered words job before after given) (sym told) (elim (either (length text) (length before)) [
      | inl most ↦ subst (λ s. IsAnswered words job before after s (length text)) (sym (fits most))
          (handed_out words job before after text called asked usage read write memory due done (front most) beyond)
      | inr less ↦ subst (λ s. IsAnswered words job before after s (length text)) (sym (short less))
          (only_told words job before after text due less (same less))
    ])
