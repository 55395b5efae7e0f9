-- What comes of a snapshot that was read, from what its machine has run.
use Rattle.std.proofs.Common.{◌≡◌, ℕ, ◌+◌, ◌-◌, ◌≤◌, inl, inr, List, length, length-drop, length-take, take, drop, None, Ok, refl, sym, ap, ap₂, ◌∙◌, subst}
use Rattle.std.proofs.Common.{arith}
use Rattle.std.proofs.Math.Seq.{take-append_seam}
use Rattle.kdf_text.specs.Lines.{lines}
use Rattle.kdf_journal.specs.declared.entry.Entry.{Entry}
use Rattle.kdf_transfer.specs.Slots.{Slot}
use Rattle.kdf_schedule.specs.declared.event.Event.{Event}
use Rattle.kdf_job.specs.Front.{front_fault, front_job, front_length}
use Rattle.kdf_job.specs.Job.{ShownJob}
use Rattle.kdf_job.specs.More.{joined, more_events, more_fault}
use Rattle.kdf_job.specs.Shows.{shown_job}
use Rattle.kdf_job.specs.WellFormed.{IsJob}
use Rattle.kdf_job.specs.declared.job.TheConstants.{TEXT_LIMIT}
use Rattle.kdf_theory.specs.Served.{IsJournalFor}
use Rattle.kdf_theory.specs.MachineView.{MachineView}
use Rattle.kdf_snapshot.specs.Differs.{IsDifference}
use Rattle.kdf_snapshot.specs.Parts.{IsInside, shown_parts}
use Rattle.kdf_snapshot.specs.declared.parts.Parts.{Parts}
use Rattle.kdf_snapshot.specs.Snapshot.{ShownParts, parts_of}
use Rattle.kdf_snapshot.specs.declared.fault.SnapshotFault.TheVariants.{JournalDiffers, SealDiffers}
use Rattle.kdf_top.specs.Answered.{IsReason}
use Rattle.kdf_top.specs.Answers.{IsCalled, IsCalledWhere}
use Rattle.kdf_top.specs.Deck.{deck_fault}
use Rattle.kdf_top.specs.Loaded.{HasImages, slots_of}
use Rattle.kdf_top.specs.Resumed.{IsRead, IsSaved}
use Rattle.kdf_top.specs.Snapshots.{IsCompared, IsComparedFor, IsOf, IsSnapshot, further, parts, parts_in, parts_or_none, resumed_job, resumed_with}
use Rattle.kdf_top.specs.Snapshots.{sealed_lines, sealed_text}
use Rattle.kdf_command.specs.declared.command.Command.TheVariants.{Resume}
use Rattle.kdf_top.specs.declared.reason.MakeError.{MakeError}
use Rattle.kdf_top.specs.declared.reason.MakeError.TheVariants.{Refused, Memory}
use Rattle.kdf_top.specs.declared.resuming.Snapshot.{Snapshot}
use Rattle.kdf_top.specs.declared.status.Status.TheVariants as status
use Rattle.kdf_top.proofs.Called.{done_status}
use Rattle.kdf_top.proofs.Lines.{few_lines}

-- where the lines of a text are split, its parts are these
parts_read : (bytes : List ℕ) (end line : ℕ) (p : ShownParts) → end ≡ front_length bytes → line ≡ length (lines (take end bytes)) + 1
    → parts_of line (drop end bytes) ≡ Ok p → parts_in bytes ≡ Ok p
parts_read bytes end line p is_end is_line split =
    sym (ap₂ parts_of (is_line ∙ ap (λ n. length (lines (take n bytes)) + 1) is_end) (ap (λ n. drop n bytes) is_end)) ∙ split

module _ (bytes : List ℕ) (end line : ℕ) (p : Parts) (is_end : end ≡ front_length bytes) (is_line : line ≡ length (lines (take end bytes)) + 1)
    (split : parts_of line (drop end bytes) ≡ Ok (shown_parts p)) where
  has_parts : parts_in bytes ≡ Ok (shown_parts p)
  has_parts = parts_read bytes end line (shown_parts p) is_end is_line split

  are_parts : shown_parts p ≡ parts bytes
  are_parts = sym (ap parts_or_none has_parts)

  pub entries_read : p.entries.items ≡ (parts bytes).entries
  entries_read = ap (λ (q : ShownParts). q.entries) are_parts

  -- the lines that are sealed
  sealed_at : lines (take (p.more_from - p.seal_from) (drop p.seal_from (drop end bytes))) ≡ sealed_lines bytes (parts bytes)
  sealed_at =
      ap (λ n. lines (take (p.more_from - p.seal_from) (drop p.seal_from (drop n bytes)))) is_end
      ∙ ap (λ (q : ShownParts). sealed_lines bytes q) are_parts

  pub is_read : (s : Snapshot) (old : ShownJob) → length bytes ≤ TEXT_LIMIT → end ≤ length bytes → s.line ≡ line → front_fault bytes ≡ None
      → old ≡ front_job bytes
      → IsInside line (length (drop end bytes)) p → more_fault p.more_line old.events (drop p.more_from (drop end bytes)) ≡ None
      → shown_job s.job ≡ joined old (more_events (drop p.more_from (drop end bytes))) → s.first ≡ length old.events → IsJob (shown_job s.job)
      → HasImages (shown_job s.job).slots s.images.items → deck_fault (shown_job s.job).slots ≡ None
      → s.seal_line ≡ s.line + length p.entries.items + 2 → s.sealed.items ≡ take (p.more_from - p.seal_from) (drop p.seal_from (drop end bytes))
      → IsRead bytes s
  is_read s old within end_within line_told front is_old inside more is_joined first well images assembles is_seal is_sealed =
      let after : drop p.more_from (drop end bytes) ≡ further bytes (shown_parts p) = ap (λ n. drop p.more_from (drop n bytes)) is_end in
      let no_more : more_fault p.more_line (front_job bytes).events (further bytes (shown_parts p)) ≡ None =
      subst (λ (x : List ℕ). more_fault p.more_line (front_job bytes).events x ≡ None) after
      (subst (λ (j : ShownJob). more_fault p.more_line j.events (drop p.more_from (drop end bytes)) ≡ None) is_old more) in
      let told : shown_job s.job ≡ resumed_job bytes =
      is_joined ∙ ap₂ (λ (j : ShownJob) (x : List ℕ). joined j (more_events x)) is_old after ∙ ap (resumed_with bytes) are_parts in
      let many : length p.entries.items ≡ length (parts bytes).entries = ap length entries_read in
      let few : length p.entries.items ≤ TEXT_LIMIT = omega (arith, within, inside.entries, inside.seal, inside.more, inside.end, length-drop end bytes) in
      let most : s.line ≤ TEXT_LIMIT + 1 = omega (arith, within, line_told, is_line, few_lines (take end bytes), length-take end bytes) in
      let sealed_size : length s.sealed.items ≤ TEXT_LIMIT =
      omega (
        arith,
        within,
        ap length is_sealed,
        length-take (p.more_from - p.seal_from) (drop p.seal_from (drop end bytes)),
        inside.more,
        inside.end,
        length-drop end bytes,
      ) in
      record {
        snapshot = record {
          front = front;
          split = has_parts ∙ ap Ok are_parts;
          further =
              subst (λ (q : ShownParts). more_fault q.more_line (front_job bytes).events (further bytes q) ≡ None) are_parts no_more;
        };
        few = omega (arith, many, few);
        line = line_told ∙ is_line ∙ ap (λ n. length (lines (take n bytes)) + 1) is_end;
        line_most = most;
        seal_line = omega (arith, is_seal, many);
        sealed = ap lines is_sealed ∙ sealed_at;
        sealed_most = sealed_size;
        first = first ∙ ap (λ (j : ShownJob). length j.events) is_old;
        loaded = record { told = told; well_formed = well; images = images; assembles = subst (λ (j : ShownJob). deck_fault j.slots ≡ None) told assembles };
      }

-- why a run doesn't go on, from why the snapshot isn't that of its journal
pub reason_for : (answers : ℕ → ℕ → Type 0) (bytes : List ℕ) (J : List Entry) (e : MakeError)
    → IsJournalFor answers (slots_of (front_job bytes)) (front_job bytes).events J
    → IsReason (IsCompared bytes J) e → IsReason (IsComparedFor answers bytes) e
reason_for answers bytes J (Refused called) journal reason = (reason.0, (J, journal, reason.1))
reason_for answers bytes J Memory journal reason = tt {0}

-- and why nothing is made of a text whose lines and decks have no fault
pub reason_called : (answers : ℕ → ℕ → Type 0) (bytes : List ℕ) (e : MakeError) → IsSnapshot bytes → deck_fault (resumed_job bytes).slots ≡ None
    → IsReason (IsComparedFor answers bytes) e → IsReason (IsCalled answers Resume bytes) e
reason_called answers bytes e is assembles reason =
    subst (λ found. IsReason (IsCalledWhere answers Resume bytes found) e) (sym (done_status Resume bytes is assembles)) reason

module _ (bytes : List ℕ) (s : Snapshot) (is : IsRead bytes s) where
  -- its first events are those of the job at the front
  events_front : take s.first (shown_job s.job).events ≡ (front_job bytes).events
  events_front =
      ap (λ n. take n (shown_job s.job).events) is.first ∙ ap (λ (j : ShownJob). take (length (front_job bytes).events) j.events) is.loaded.told
      ∙ take-append_seam (front_job bytes).events (more_events (further bytes (parts bytes)))

  pub journal_front : (answers : ℕ → ℕ → Type 0) (slots : List Slot) (J : List Entry) → slots ≡ slots_of (shown_job s.job)
      → IsJournalFor answers slots (take s.first (shown_job s.job).events) J → IsJournalFor answers (slots_of (front_job bytes)) (front_job bytes).events J
  journal_front answers slots J loaded journal =
      subst (λ (events : List Event). IsJournalFor answers (slots_of (front_job bytes)) events J) events_front
      (subst (λ (xs : List Slot). IsJournalFor answers xs (take s.first (shown_job s.job).events) J) (loaded ∙ ap slots_of is.loaded.told) journal)

  -- the entries differ from the journal
  pub other_journal : (answers : ℕ → ℕ → Type 0) (slots : List Slot) (entries J : List Entry) (place line : ℕ) → entries ≡ (parts bytes).entries
      → slots ≡ slots_of (shown_job s.job)
      → IsJournalFor answers slots (take s.first (shown_job s.job).events) J → IsDifference entries J place → line ≡ s.line + 1 + place
      → IsComparedFor answers bytes (status.Snapshot JournalDiffers line)
  other_journal answers slots entries J place line are loaded journal differs is_line = (
    J,
    journal_front answers slots J loaded journal,
    inr (inl (
      line,
      refl,
      record {
        place = place;
        line_is = is_line ∙ ap (λ n. n + 1 + place) is.line;
        differs = subst (λ (es : List Entry). IsDifference es J place) are differs;
      },
    )),
  )

  -- what is sealed, and what it is compared with
  module _ (m : MachineView) (these those : List ℕ) (entries : m.journal ≡ (parts bytes).entries) (is_these : these ≡ s.sealed.items)
      (is_those : those ≡ sealed_text (front_job bytes) m.journal) where
    pub same_seal : lines these ≡ lines those → IsOf bytes m.journal
    same_seal same = record { entries = sym entries; sealed = sym (ap lines is_these ∙ is.sealed) ∙ same ∙ ap lines is_those }

    pub other_seal : (place line : ℕ) → IsDifference (lines these) (lines those) place → line ≡ s.seal_line + place
        → IsCompared bytes m.journal (status.Snapshot SealDiffers line)
    other_seal place line differs is_line =
        inr (inr (
          line,
          refl,
          record {
            entries = sym entries;
            place = place;
            line_is = omega (arith, is_line, is.seal_line, is.line, ap length entries);
            differs = subst (λ (ls : List (List ℕ)). IsDifference ls (lines (sealed_text (front_job bytes) m.journal)) place) (ap lines is_these ∙ is.sealed)
                (subst (λ (ls : List (List ℕ)). IsDifference (lines these) ls place) (ap lines is_those) differs);
          },
        ))

  -- where the snapshot is that of the journal, it is trusted
  pub trusted : (answers : ℕ → ℕ → Type 0) (m : MachineView) → IsSaved answers bytes s m → IsOf bytes m.journal → IsComparedFor answers bytes status.Done
  trusted answers m saved of = (m.journal, journal_front answers m.slots m.journal saved.slots saved.journal, inl (refl, of))
