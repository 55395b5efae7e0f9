-- The answer that is called for, and the text that is due, where any two answers of the service to one word are equal.
use Rattle.std.proofs.Common.{◌≡◌, ℕ, ◌<◌, ◌^◌, inl, inr, List, [], Bool, true, false, Option, Some, None, refl, sym, ◌∙◌, ap, subst, arith}
use Rattle.kdf_journal.specs.declared.entry.Entry.{Entry}
use Rattle.kdf_job.specs.Front.{front_job}
use Rattle.kdf_job.specs.Job.{ShownJob}
use Rattle.kdf_theory.specs.Served.{IsJournalFor}
use Rattle.kdf_theory.specs.MachineView.{MachineView}
use Rattle.kdf_theory.proofs.Course.OneJournal.{one_for}
use Rattle.kdf_text.specs.Lines.{is_text, line, lines}
use Rattle.kdf_text.specs.Text.{text}
use Rattle.kdf_transfer.specs.Slots.{Slot}
use Rattle.kdf_schedule.specs.declared.event.Event.{Event}
use Rattle.kdf_check.specs.Report.{IsCheck, IsJudged, head_line, told_lines}
use Rattle.kdf_check.specs.Verdict.{IsVerdict}
use Rattle.kdf_check.specs.declared.verdict.Verdict.{Verdict}
use Rattle.kdf_check.proofs.Judging.{one_verdict_lem}
use Rattle.kdf_command.specs.declared.command.Command.{Command}
use Rattle.kdf_top.specs.declared.status.Status.{Status}
use Rattle.kdf_top.specs.declared.status.Status.TheVariants as status
use Rattle.kdf_top.specs.Answers.{IsCalled, IsCalledIn, IsCalledWhere, IsDueAt, IsFaultless, IsFaultlessIn, IsTextOf, IsTrusted, IsTrustedIn}
use Rattle.kdf_top.specs.Answers.{or_decks, status_in, status_of}
use Rattle.kdf_command.specs.Commands.{AJob, AReport, ASnapshot, TextForm, form_of, keeps_machine}
use Rattle.kdf_top.specs.Deck.{deck_fault}
use Rattle.kdf_top.specs.Due.{IsJournalOf, IsJournalWhere, IsTextBy, IsTextFrom, Keeps, job_of, journal_in, text_from, verdict_lines}
use Rattle.kdf_top.specs.Loaded.{slots_of}
use Rattle.kdf_top.specs.Snapshots.{after_job, IsCompared, IsComparedFor, IsSnapshot, status_of_front, status_of_line, status_of_parts, status_of_snapshot}
use Rattle.kdf_top.proofs.FirstPlaces.{not_same, one_place}

-- ---- the answers

-- where the journal is one, a snapshot that is compared with it has one answer
one_compared : (bytes : List ℕ) (J : List Entry) (x y : Status) → IsCompared bytes J x → IsCompared bytes J y → x ≡ y
one_compared bytes J x y (inl p) (inl q) = p.0 ∙ sym q.0
one_compared bytes J x y (inl p) (inr (inl q)) = absurd (not_same _ _ q.2.place q.2.differs p.1.entries)
one_compared bytes J x y (inl p) (inr (inr q)) = absurd (not_same _ _ q.2.place q.2.differs p.1.sealed)
one_compared bytes J x y (inr (inl p)) (inl q) = absurd (not_same _ _ p.2.place p.2.differs q.1.entries)
one_compared bytes J x y (inr (inl p)) (inr (inl q)) =
    let same = one_place _ _ p.2.place q.2.place p.2.differs q.2.differs in
    let line : p.0 ≡ q.0 = omega (arith, p.2.line_is, q.2.line_is, same) in
    p.1 ∙ ap (status.Snapshot _) line ∙ sym q.1
one_compared bytes J x y (inr (inl p)) (inr (inr q)) = absurd (not_same _ _ p.2.place p.2.differs q.2.entries)
one_compared bytes J x y (inr (inr p)) (inl q) = absurd (not_same _ _ p.2.place p.2.differs q.1.sealed)
one_compared bytes J x y (inr (inr p)) (inr (inl q)) = absurd (not_same _ _ q.2.place q.2.differs p.2.entries)
one_compared bytes J x y (inr (inr p)) (inr (inr q)) =
    let same = one_place _ _ p.2.place q.2.place p.2.differs q.2.differs in
    let line : p.0 ≡ q.0 = omega (arith, p.2.line_is, q.2.line_is, same) in
    p.1 ∙ ap (status.Snapshot _) line ∙ sym q.1

-- a text without a fault calls for Done
done_snapshot : (bytes : List ℕ) → IsSnapshot bytes → status_of_snapshot bytes ≡ status.Done
done_snapshot bytes is =
    ap (status_of_front bytes) is.front ∙ ap (status_of_parts bytes) is.split ∙ ap status_of_line is.further

done_in : (form : TextForm) (bytes : List ℕ) → IsFaultlessIn form bytes → status_in form bytes ≡ status.Done
done_in AJob bytes is = ap status_of_line is
done_in AReport bytes is = ap status_of_line is
done_in ASnapshot bytes is = done_snapshot bytes is

pub done_status : (c : Command) (bytes : List ℕ) → IsFaultless c bytes → deck_fault (job_of c bytes).slots ≡ None → status_of c bytes ≡ status.Done
done_status c bytes is assembles = ap (λ s. or_decks s (deck_fault (job_of c bytes).slots)) (done_in (form_of c) bytes is) ∙ ap (or_decks status.Done) assembles

called_in : (answers : ℕ → ℕ → Type 0) (form : TextForm) (bytes : List ℕ) → IsTrustedIn answers form bytes
    → IsCalledIn answers form bytes status.Done status.Done
called_in answers AJob bytes trusted = refl
called_in answers AReport bytes trusted = refl
called_in answers ASnapshot bytes trusted = trusted

pub called_done : (answers : ℕ → ℕ → Type 0) (c : Command) (bytes : List ℕ) → IsFaultless c bytes → deck_fault (job_of c bytes).slots ≡ None
    → IsTrusted answers c bytes
    → IsCalled answers c bytes status.Done
called_done answers c bytes is assembles trusted =
    subst (λ found. IsCalledWhere answers c bytes found status.Done) (sym (done_status c bytes is assembles)) (called_in answers (form_of c) bytes trusted)

-- ---- the machine that is kept has the journal

journal_where : (answers : ℕ → ℕ → Type 0) (keeps : Bool) (j : ShownJob) (m : MachineView) → keeps ≡ true → m.slots ≡ slots_of j
    → IsJournalFor answers m.slots j.events m.journal
    → IsJournalWhere answers keeps j m.journal
journal_where answers true j m is loaded journal = subst (λ slots. IsJournalFor answers slots j.events m.journal) loaded journal
journal_where answers false j m is loaded journal = absurd cc

no_journal : (answers : ℕ → ℕ → Type 0) (keeps : Bool) (j : ShownJob) → keeps ≡ false → IsJournalWhere answers keeps j []
no_journal answers true j is = absurd cc
no_journal answers false j is = refl

pub journal_kept : (answers : ℕ → ℕ → Type 0) (c : Command) (bytes : List ℕ) (kept : Option MachineView) → Keeps answers c bytes kept
    → IsJournalOf answers c bytes (journal_in kept)
journal_kept answers c bytes None keeps = no_journal answers (keeps_machine c) (job_of c bytes) keeps
journal_kept answers c bytes (Some m) keeps = journal_where answers (keeps_machine c) (job_of c bytes) m keeps.0 keeps.1.slots keeps.1.journal

-- ---- one verdict

one_judged : (answers : ℕ → ℕ → Type 0) (slots : List Slot) (events : List Event) (bytes : List ℕ) (v w : Verdict) → IsCheck answers slots events bytes v
    → IsCheck answers slots events bytes w → v ≡ w
one_judged answers slots events bytes v w p q = by (is_text head_line (line (lines bytes) 1)) p q
  where
    by : (b : Bool) → IsJudged b (IsVerdict answers slots events (told_lines (lines bytes)) v) v
        → IsJudged b (IsVerdict answers slots events (told_lines (lines bytes)) w) w → v ≡ w
    by true p q = one_verdict_lem answers slots events (told_lines (lines bytes)) v w p q
    by false p q = p ∙ sym q

-- ---- one journal

module _ (answers : ℕ → ℕ → Type 0) (one : (n a b : ℕ) → n < 2 ^ 48 → answers n a → answers n b → a ≡ b) where
  one_compared_for : (bytes : List ℕ) (x y : Status) → IsComparedFor answers bytes x → IsComparedFor answers bytes y → x ≡ y
  one_compared_for bytes x y p q =
      let same : q.0 ≡ p.0 = one_for answers (slots_of (front_job bytes)) one (front_job bytes).events q.0 p.0 q.1 p.1 in
      one_compared bytes p.0 x y p.2 (subst (λ J. IsCompared bytes J y) same q.2)

  -- one answer is called for
  one_called_in : (form : TextForm) (bytes : List ℕ) (found x y : Status) → IsCalledIn answers form bytes found x
      → IsCalledIn answers form bytes found y → x ≡ y
  one_called_in ASnapshot bytes status.Done x y p q = one_compared_for bytes x y p q
  one_called_in ASnapshot bytes status.Usage x y p q = p ∙ sym q
  one_called_in ASnapshot bytes (status.Job fault line) x y p q = p ∙ sym q
  one_called_in ASnapshot bytes (status.Deck slot fault place) x y p q = p ∙ sym q
  one_called_in ASnapshot bytes status.Large x y p q = p ∙ sym q
  one_called_in ASnapshot bytes status.ReadFault x y p q = p ∙ sym q
  one_called_in ASnapshot bytes status.WriteFault x y p q = p ∙ sym q
  one_called_in ASnapshot bytes status.Memory x y p q = p ∙ sym q
  one_called_in ASnapshot bytes (status.Snapshot fault line) x y p q = p ∙ sym q
  one_called_in AJob bytes found x y p q = p ∙ sym q
  one_called_in AReport bytes found x y p q = p ∙ sym q

  pub one_called : (c : Command) (bytes : List ℕ) (found x y : Status) → IsCalledWhere answers c bytes found x → IsCalledWhere answers c bytes found y → x ≡ y
  one_called c bytes found x y p q = one_called_in (form_of c) bytes found x y p q

  one_journal_where : (keeps : Bool) (j : ShownJob) (J K : List Entry) → IsJournalWhere answers keeps j J → IsJournalWhere answers keeps j K → J ≡ K
  one_journal_where true j J K p q = one_for answers (slots_of j) one j.events J K p q
  one_journal_where false j J K p q = p ∙ sym q

  -- a journal gives one text
  one_by : (made : Option (List ℕ)) (bytes d e : List ℕ) → IsTextBy answers made bytes d → IsTextBy answers made bytes e → d ≡ e
  one_by (Some made) bytes d e p q = p ∙ sym q
  one_by None bytes d e p q =
      p.2 ∙ ap (λ v. text (verdict_lines v)) (one_judged answers (slots_of (front_job bytes)) (front_job bytes).events (after_job bytes) p.0 q.0 p.1 q.1)
      ∙ sym q.2

  one_text : (c : Option Command) (bytes d e : List ℕ) → IsTextOf answers c bytes d → IsTextOf answers c bytes e → d ≡ e
  one_text None bytes d e p q = absurd p
  one_text (Some c) bytes d e p q =
      let same : q.0 ≡ p.0 = one_journal_where (keeps_machine c) (job_of c bytes) q.0 p.0 q.1 p.1 in
      one_by (text_from c bytes p.0) bytes d e p.2 (subst (λ J. IsTextFrom answers c bytes J e) same q.2)

  -- one text is due
  pub one_due_at : (called : Status) (c : Option Command) (bytes d e : List ℕ) → IsDueAt answers called c bytes d → IsDueAt answers called c bytes e → d ≡ e
  one_due_at status.Done c bytes d e p q = one_text c bytes d e p q
  one_due_at status.Usage c bytes d e p q = p ∙ sym q
  one_due_at (status.Job fault line) c bytes d e p q = p ∙ sym q
  one_due_at (status.Deck slot fault place) c bytes d e p q = p ∙ sym q
  one_due_at status.Large c bytes d e p q = p ∙ sym q
  one_due_at status.ReadFault c bytes d e p q = p ∙ sym q
  one_due_at status.WriteFault c bytes d e p q = p ∙ sym q
  one_due_at status.Memory c bytes d e p q = p ∙ sym q
  one_due_at (status.Snapshot fault line) c bytes d e p q = p ∙ sym q
