-- What is called for and done with the answers of one service is so with those of another that gives the same answers.
use Rattle.std.proofs.Common.{◌≡◌, ◌≢◌, ◌⊎◌, inl, inr, ℕ, ◌+◌, ◌≤◌, List, length, Bool, true, false, Option, Some, None, IfSome, subst}
use Rattle.kdf_text.specs.Lines.{is_text, line, lines}
use Rattle.kdf_journal.specs.declared.entry.Entry.{Entry}
use Rattle.kdf_schedule.specs.declared.event.Event.{Event}
use Rattle.kdf_transfer.specs.Slots.{Slot}
use Rattle.kdf_job.specs.Job.{ShownJob}
use Rattle.kdf_theory.specs.Served.{IsJournalFor}
use Rattle.kdf_theory.specs.MachineView.{MachineView}
use Rattle.kdf_theory.proofs.Course.OneJournal.{true_for_more}
use Rattle.kdf_check.specs.Report.{IsCheck, IsJudged, head_line, told_lines}
use Rattle.kdf_check.specs.Verdict.{CanGoOn, IsFirstWrong, IsVerdict, TellJournal}
use Rattle.kdf_check.specs.declared.verdict.Verdict.{Verdict}
use Rattle.kdf_check.specs.declared.verdict.Verdict.TheVariants.{Yes, No}
use Rattle.kdf_top.specs.Answers.{Answers, IsCalledBy, IsCalledIn, IsDoneBy, IsTrustedIn, called_by, job_text}
use Rattle.kdf_top.specs.Due.{IsMachineOf, IsTextBy, Keeps, job_of, journal_in, text_from}
use Rattle.kdf_top.specs.Snapshots.{IsComparedFor}
use Rattle.kdf_command.specs.declared.command.Command.{Command}
use Rattle.kdf_command.specs.Commands.{AJob, AReport, ASnapshot, TextForm, form_of}
use Rattle.kdf_top.specs.declared.status.Status.{Status}
use Rattle.kdf_top.specs.declared.status.Status.TheVariants as status
use Rattle.kdf_engine.specs.Service.{exchanged}
use Rattle.kdf_engine.proofs.Called.{called_for}

-- ---- where all answers of the one are answers of the other
module _ (answers more : ℕ → ℕ → Type 0) (part : (n a : ℕ) → answers n a → more n a) where
  pub journal_more : (slots : List Slot) (events : List Event) (J : List Entry) → IsJournalFor answers slots events J
      → IsJournalFor more slots events J
  journal_more slots events J is = record { legal = is.legal; truly = true_for_more answers more part slots J is.truly; whole = is.whole }

  pub tell_more : (slots : List Slot) (events : List Event) (ls : List (Option Entry)) → TellJournal answers slots events ls
      → TellJournal more slots events ls
  tell_more slots events ls is = (is.0, journal_more slots events is.0 is.1, is.2)

  pub on_more : (slots : List Slot) (events : List Event) (ls : List (Option Entry)) (k : ℕ) → CanGoOn answers slots events ls k
      → CanGoOn more slots events ls k
  on_more slots events ls k is = (is.0, journal_more slots events is.0 is.1, is.2)

-- ---- and the other way round
module _ (answers same : ℕ → ℕ → Type 0) (part : (n a : ℕ) → answers n a → same n a) (back : (n a : ℕ) → same n a → answers n a) where
  journal_same : (slots : List Slot) (events : List Event) (J : List Entry) → IsJournalFor answers slots events J → IsJournalFor same slots events J
  journal_same slots events J is = journal_more answers same part slots events J is

  -- ---- verdicts
  here_same : (slots : List Slot) (events : List Event) (ls : List (Option Entry)) (k : ℕ)
      → (k ≡ length ls + 1) ⊎ ((k ≤ length ls) × (CanGoOn answers slots events ls k → ⊥))
      → (k ≡ length ls + 1) ⊎ ((k ≤ length ls) × (CanGoOn same slots events ls k → ⊥))
  here_same slots events ls k (inl end) = inl end
  here_same slots events ls k (inr is) = inr (is.0, λ can. is.1 (on_more same answers back slots events ls k can))

  wrong_same : (slots : List Slot) (events : List Event) (ls : List (Option Entry)) (k : ℕ) → IsFirstWrong answers slots events ls k
      → IsFirstWrong same slots events ls k
  wrong_same slots events ls k is =
      record {
        counted = is.counted;
        before = λ j least below. ((is.before j least below).0, on_more answers same part slots events ls j (is.before j least below).1);
        here = here_same slots events ls k is.here;
      }

  verdict_same : (slots : List Slot) (events : List Event) (ls : List (Option Entry)) (v : Verdict) → IsVerdict answers slots events ls v
      → IsVerdict same slots events ls v
  verdict_same slots events ls Yes is = tell_more answers same part slots events ls is
  verdict_same slots events ls (No k) is = ((λ tell. is.0 (tell_more same answers back slots events ls tell)), wrong_same slots events ls k is.1)

  judged_same : (slots : List Slot) (events : List Event) (ls : List (Option Entry)) (b : Bool) (v : Verdict)
      → IsJudged b (IsVerdict answers slots events ls v) v → IsJudged b (IsVerdict same slots events ls v) v
  judged_same slots events ls true v is = verdict_same slots events ls v is
  judged_same slots events ls false v is = is

  check_same : (slots : List Slot) (events : List Event) (bytes : List ℕ) (v : Verdict) → IsCheck answers slots events bytes v
      → IsCheck same slots events bytes v
  check_same slots events bytes v is = judged_same slots events (told_lines (lines bytes)) (is_text head_line (line (lines bytes) 1)) v is

  -- ---- texts
  by_same : (made : Option (List ℕ)) (bytes due : List ℕ) → IsTextBy answers made bytes due → IsTextBy same made bytes due
  by_same (Some made) bytes due is = is
  by_same None bytes due is = (is.0, check_same _ _ _ is.0 is.1, is.2)

  -- ---- what is called for
  compared_same : (bytes : List ℕ) (called : Status) → IsComparedFor answers bytes called → IsComparedFor same bytes called
  compared_same bytes called is = (is.0, journal_same _ _ is.0 is.1, is.2)

  called_same : (form : TextForm) (bytes : List ℕ) (found called : Status) → IsCalledIn answers form bytes found called
      → IsCalledIn same form bytes found called
  called_same ASnapshot bytes status.Done called is = compared_same bytes called is
  called_same ASnapshot bytes status.Usage called is = is
  called_same ASnapshot bytes (status.Job fault at) called is = is
  called_same ASnapshot bytes (status.Deck slot fault place) called is = is
  called_same ASnapshot bytes status.Large called is = is
  called_same ASnapshot bytes status.ReadFault called is = is
  called_same ASnapshot bytes status.WriteFault called is = is
  called_same ASnapshot bytes status.Memory called is = is
  called_same ASnapshot bytes (status.Snapshot fault at) called is = is
  called_same AJob bytes found called is = is
  called_same AReport bytes found called is = is

  called_by_same : (c : Option Command) (bytes : List ℕ) (called : Status) → IsCalledBy answers c bytes called → IsCalledBy same c bytes called
  called_by_same None bytes called is = is
  called_by_same (Some c) bytes called is = called_same (form_of c) (job_text c bytes) (called_by (Some c) bytes) called is

  -- ---- what is done
  machine_same : (j : ShownJob) (m : MachineView) → IsMachineOf answers j m → IsMachineOf same j m
  machine_same j m is = record { slots = is.slots; journal = journal_same m.slots j.events m.journal is.journal; seen = is.seen; over = is.over }

  keeps_same : (c : Command) (bytes : List ℕ) (kept : Option MachineView) → Keeps answers c bytes kept → Keeps same c bytes kept
  keeps_same c bytes None is = is
  keeps_same c bytes (Some m) is = (is.0, machine_same (job_of c bytes) m is.1)

  trusted_same : (form : TextForm) (bytes : List ℕ) → IsTrustedIn answers form bytes → IsTrustedIn same form bytes
  trusted_same AJob bytes is = is
  trusted_same AReport bytes is = is
  trusted_same ASnapshot bytes is = compared_same bytes status.Done is

  done_same : (c : Option Command) (bytes : List ℕ) (kept : Option MachineView) (before after : Option (List ℕ))
      → IsDoneBy answers c bytes kept before after → IsDoneBy same c bytes kept before after
  done_same None bytes kept before after is = is
  done_same (Some c) bytes kept before after is = (
    is.0,
    record {
      faultless = is.1.faultless;
      assembles = is.1.assembles;
      trusted = trusted_same (form_of c) (job_text c bytes) is.1.trusted;
      keeps = keeps_same c (job_text c bytes) kept is.1.keeps;
      text_is = by_same (text_from c (job_text c bytes) (journal_in kept)) (job_text c bytes) is.0 is.1.text_is;
    },
    is.2,
  )

-- ---- with the exchange, over a source that tells its bytes
module _ (answers : ℕ → ℕ → Type 0) (part : (n a : ℕ) → answers n a → exchanged n a) (back : (n a : ℕ) → exchanged n a → answers n a) where
  pub done_told : (c : Option Command) (left : Option (List ℕ)) (bytes : List ℕ) (kept : Option MachineView) (before after : Option (List ℕ))
      → left ≡ Some bytes
      → IfSome left (λ b. IsDoneBy answers c b kept before after) → IsDoneBy exchanged c bytes kept before after
  done_told c left bytes kept before after told is =
      done_same answers exchanged part back c bytes kept before after
      (subst (λ (o : Option (List ℕ)). IfSome o (λ b. IsDoneBy answers c b kept before after)) told is)

  pub called_told : (c : Option Command) (left : Option (List ℕ)) (bytes : List ℕ) (given : Status) (read_failed write_failed : Type 0) → left ≡ Some bytes
      → IfSome left (λ b. Answers (IsCalledBy answers c b) given read_failed write_failed)
      → given ≢ status.ReadFault → given ≢ status.WriteFault → given ≢ status.Memory → IsCalledBy exchanged c bytes given
  called_told c left bytes given read_failed write_failed told is read write memory =
      let own = subst (λ (o : Option (List ℕ)). IfSome o (λ b. Answers (IsCalledBy answers c b) given read_failed write_failed)) told is in
      called_by_same answers exchanged part back c bytes given (called_for (IsCalledBy answers c bytes) given read_failed write_failed own read write memory)
