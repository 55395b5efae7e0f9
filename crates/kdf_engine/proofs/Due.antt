-- What is written by a call that nothing failed in is due, and nothing else is due.
use Rattle.std.proofs.Common.{◌≡◌, ◌≢◌, ℕ, ◌<◌, ◌^◌, List, [], Option, Some, None, refl, sym, subst}
use Rattle.std.proofs.lemmas.Option.{same_Some}
use Rattle.kdf_io.specs.Outside.{Added}
use Rattle.kdf_theory.specs.MachineView.{MachineView}
use Rattle.kdf_command.specs.declared.command.Command.{Command}
use Rattle.kdf_top.specs.declared.status.Status.{Status}
use Rattle.kdf_top.specs.declared.status.Status.TheVariants as status
use Rattle.kdf_top.specs.Answers.{IsCalledBy, IsDoneBy, IsDueAt, IsDueBy, IsMade, IsTextOf, Wrote, called_by, job_text, text_by}
use Rattle.kdf_top.specs.Due.{IsText, IsTextFrom, journal_in}
use Rattle.kdf_top.proofs.Called.{journal_kept, one_called, one_due_at}

-- ---- what was written first is due

added_first : (due after : List ℕ) → Added (Some []) due (Some after) → after ≡ due
added_first due after is = same_Some after due is

made_text : (answers : ℕ → ℕ → Type 0) (c : Command) (bytes made after : List ℕ) (kept : Option MachineView) → IsMade answers c bytes made kept → after ≡ made
    → IsText answers c bytes after
made_text answers c bytes made after kept is same =
    (journal_in kept, journal_kept answers c bytes kept is.keeps, subst (λ xs. IsTextFrom answers c bytes (journal_in kept) xs) (sym same) is.text_is)

done_text : (answers : ℕ → ℕ → Type 0) (c : Option Command) (bytes after : List ℕ) (kept : Option MachineView)
    → IsDoneBy answers c bytes kept (Some []) (Some after) → IsTextOf answers c (text_by c bytes) after
done_text answers None bytes after kept is = absurd is
done_text answers (Some c) bytes after kept is = made_text answers c (job_text c bytes) is.0 after kept is.1 (added_first is.0 after is.2)

due_at : (answers : ℕ → ℕ → Type 0) (given : Status) (c : Option Command) (bytes after : List ℕ) (kept : Option MachineView)
    → (given ≡ status.Done → IsDoneBy answers c bytes kept (Some []) (Some after)) → Wrote c given (Some []) (Some after) → given ≢ status.WriteFault
    → IsDueAt answers given c (text_by c bytes) after
due_at answers status.Done c bytes after kept done wrote write = done_text answers c bytes after kept (done refl)
due_at answers status.WriteFault c bytes after kept done wrote write = absurd (write refl)
due_at answers status.Usage c bytes after kept done wrote write = added_first _ after wrote
due_at answers (status.Job fault line) c bytes after kept done wrote write = added_first _ after wrote
due_at answers (status.Deck slot fault place) c bytes after kept done wrote write = added_first _ after wrote
due_at answers status.Large c bytes after kept done wrote write = added_first _ after wrote
due_at answers status.ReadFault c bytes after kept done wrote write = added_first _ after wrote
due_at answers status.Memory c bytes after kept done wrote write = added_first _ after wrote
due_at answers (status.Snapshot fault line) c bytes after kept done wrote write = added_first _ after wrote

pub due_by : (answers : ℕ → ℕ → Type 0) (given : Status) (c : Option Command) (bytes after : List ℕ) (kept : Option MachineView)
    → IsCalledBy answers c bytes given
    → (given ≡ status.Done → IsDoneBy answers c bytes kept (Some []) (Some after)) → Wrote c given (Some []) (Some after) → given ≢ status.WriteFault
    → IsDueBy answers c bytes after
due_by answers given c bytes after kept called done wrote write = (given, called, due_at answers given c bytes after kept done wrote write)

-- ---- one text is due
module _ (answers : ℕ → ℕ → Type 0) (one : (n a b : ℕ) → n < 2 ^ 48 → answers n a → answers n b → a ≡ b) where
  pub one_due : (c : Option Command) (bytes d e : List ℕ) → IsDueBy answers c bytes d → IsDueBy answers c bytes e → d ≡ e
  one_due None bytes d e p q =
      one_due_at answers one status.Usage None bytes d e (subst (λ s. IsDueAt answers s None bytes d) p.1 p.2)
      (subst (λ s. IsDueAt answers s None bytes e) q.1 q.2)
  one_due (Some c) bytes d e p q =
      let same : q.0 ≡ p.0 = one_called answers one c (job_text c bytes) (called_by (Some c) bytes) q.0 p.0 q.1 p.1 in
      one_due_at answers one p.0 (Some c) (job_text c bytes) d e p.2 (subst (λ s. IsDueAt answers s (Some c) (job_text c bytes) e) same q.2)
