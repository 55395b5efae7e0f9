-- The text of `save` with further lines, read as a snapshot.
use Rattle.std.proofs.Common.{◌≡◌, ℕ, suc, ◌+◌, ◌-◌, ◌<◌, ◌≤◌, true, false, cond, eqb, List, [], ◌∷◌, ◌++◌, length, get_or, take, drop, Option, Some, None}
use Rattle.std.proofs.Common.{Result, Ok, Err, refl, sym, ap, ap₂, ◌∙◌, subst, arith, ⊎_elim, append_assoc, length-append, length-take, All}
use Rattle.std.proofs.lemmas.Bool.{cases_Bool, eqb-true}
use Rattle.std.proofs.lemmas.List.{drop_at, take_at}
use Rattle.kdf_text.specs.Lines.{line_byte, lines}
use Rattle.kdf_journal.specs.declared.entry.Entry.{Entry}
use Rattle.kdf_journal.specs.Printed.{IsEntry}
use Rattle.kdf_schedule.specs.declared.event.Event.{Event}
use Rattle.kdf_job.specs.declared.fault.JobFault.{JobFault}
use Rattle.kdf_job.specs.Draft.{ShownDraft, blank, job_of}
use Rattle.kdf_job.specs.Front.{front, front_fault, front_job, front_length}
use Rattle.kdf_job.specs.Job.{ShownJob}
use Rattle.kdf_job.specs.More.{joined, more_events, more_fault, scheduled}
use Rattle.kdf_job.specs.Reading.{at_line, behind_line, draft_of, end_fault, fault_from, job, job_fault, read_line}
use Rattle.kdf_job.specs.declared.line_place.LinePlace.TheVariants.{InSchedule}
use Rattle.kdf_job.proofs.FrontLaws.{front_before}
use Rattle.kdf_snapshot.specs.Snapshot.{ShownParts, parts_of}
use Rattle.kdf_snapshot.specs.Written.{journal_text, parts_written, seal_text}
use Rattle.kdf_snapshot.proofs.WrittenParts.{parts_again}
use Rattle.kdf_top.specs.Snapshots.{IsOf, IsSnapshot, after_job, ended, further, is_ended, line_after_job, parts, parts_in, parts_or_none, resumed_job}
use Rattle.kdf_top.specs.Snapshots.{resumed_with, seal_lines, sealed_lines, sealed_text, snapshot_of}
use Rattle.kdf_top.specs.Loaded.{slots_of}
use Rattle.kdf_theory.specs.ByJournal.{seen_of}
use Rattle.kdf_top.proofs.SealLines.{seal_can}

-- ---- faults of lines don't hang on their numbers

at_any : (n m : ℕ) (o : Option JobFault) → at_line n o ≡ None → at_line m o ≡ None
at_any n m None none = refl
at_any n m (Some fault) none = absurd cc

behind_any : (n m : ℕ) (r : Result ShownDraft JobFault) (f g : ShownDraft → Option (JobFault × ℕ)) → ((e : ShownDraft) → f e ≡ None → g e ≡ None)
    → behind_line n r f ≡ None
    → behind_line m r g ≡ None
behind_any n m (Err fault) f g on none = absurd cc
behind_any n m (Ok e) f g on none = on e none

none_from : (n m : ℕ) (d : ShownDraft) (ls : List (List ℕ)) → fault_from n d ls ≡ None → fault_from m d ls ≡ None
none_from n m d [] none = at_any n m (end_fault d.place) none
none_from n m d (l ∷ ls) none =
    behind_any n m (read_line d l) (λ e. fault_from (n + 1) e ls) (λ e. fault_from (m + 1) e ls) (λ e. none_from (n + 1) (m + 1) e ls) none

pub any_number : (n m : ℕ) (events : List Event) (bytes : List ℕ) → more_fault n events bytes ≡ None → more_fault m events bytes ≡ None
unfolding more_fault
any_number n m events bytes none = none_from n m (scheduled InSchedule events) (lines bytes) none

-- ---- the bytes of a job, with the end of their last line

same_fault : (a b : List ℕ) → lines a ≡ lines b → job_fault a ≡ job_fault b
unfolding job_fault
same_fault a b same = ap (fault_from 1 blank) same

same_job : (a b : List ℕ) → lines a ≡ lines b → job a ≡ job b
unfolding job
same_job a b same = ap (λ ls. job_of (draft_of blank ls)) same

no_fault_some : (bytes : List ℕ) → job_fault bytes ≡ None → 0 < length bytes
unfolding job_fault lines
no_fault_some [] free = absurd cc
no_fault_some (b ∷ bytes) free = omega arith

-- the last byte
abbrev last_byte : List ℕ → ℕ
last_byte bytes = get_or bytes (length bytes - 1) 0

last_on : (a b : ℕ) (bytes : List ℕ) → last_byte (a ∷ b ∷ bytes) ≡ last_byte (b ∷ bytes)
last_on a b bytes = let e : length (a ∷ b ∷ bytes) - 1 ≡ suc (length (b ∷ bytes) - 1) = omega arith in ap (λ n. get_or (a ∷ b ∷ bytes) n 0) e

last_one : (a : ℕ) → last_byte (a ∷ []) ≡ a
last_one a = let e : length (a ∷ []) - 1 ≡ 0 = omega arith in ap (λ n. get_or (a ∷ []) n 0) e

-- a text whose last line has its end
split_last : (bytes : List ℕ) → 0 < length bytes → last_byte bytes ≡ 10 → (b : List ℕ) × (bytes ≡ b ++ 10 ∷ [])
split_last [] some is = absurd (omega arith)
split_last (a ∷ []) some is = ([], ap (λ x. x ∷ []) (sym (last_one a) ∙ is))
split_last (a ∷ b ∷ bytes) some is =
    let more = split_last (b ∷ bytes) (omega arith) (sym (last_on a b bytes) ∙ is) in
    (a ∷ more.0, ap (λ bs. a ∷ bs) more.1)

-- and one whose last line lacks it
lines_ended : (bytes : List ℕ) → 0 < length bytes → eqb (last_byte bytes) 10 ≡ false → lines (bytes ++ 10 ∷ []) ≡ lines bytes
unfolding lines
lines_ended [] some isnt = absurd (omega arith)
lines_ended (a ∷ []) some isnt =
    let other : eqb a 10 ≡ false = ap (λ n. eqb n 10) (sym (last_one a)) ∙ isnt in
    rw other refl
lines_ended (a ∷ b ∷ bytes) some isnt =
    ap (line_byte a) (lines_ended (b ∷ bytes) (omega arith) (ap (λ n. eqb n 10) (sym (last_on a b bytes)) ∙ isnt))

-- such a text with its end tells the same job
record HasEnd (bytes : List ℕ) : Type 0 where
  front : List ℕ
  is : ended bytes ≡ front ++ 10 ∷ []
  free : job_fault (front ++ 10 ∷ []) ≡ None
  told : job (front ++ 10 ∷ []) ≡ job bytes

has_end : (bytes : List ℕ) → job_fault bytes ≡ None → HasEnd bytes
has_end bytes free =
    let some = no_fault_some bytes free in
    ⊎_elim
    (λ (is : is_ended bytes ≡ true).
    let x = split_last bytes some (eqb-true (last_byte bytes) 10 is) in
    record {
      front = x.0;
      is = ap (λ b. cond b bytes (bytes ++ 10 ∷ [])) is ∙ x.1;
      free = ap job_fault (sym x.1) ∙ free;
      told = ap job (sym x.1);
    })
    (λ (isnt : is_ended bytes ≡ false).
    let same = lines_ended bytes some isnt in
    record {
      front = bytes;
      is = ap (λ b. cond b bytes (bytes ++ 10 ∷ [])) isnt;
      free = same_fault (bytes ++ 10 ∷ []) bytes same ∙ free;
      told = same_job (bytes ++ 10 ∷ []) bytes same;
    })
    (cases_Bool (is_ended bytes))

-- ---- a job and what stands after it

module _ (bytes rest : List ℕ) (free : job_fault bytes ≡ None) where
  abbrev whole : List ℕ
  whole = ended bytes ++ rest

  front_is : front whole ≡ ended bytes
  front_is =
      let h = has_end bytes free in
      ap (λ bs. front (bs ++ rest)) h.is ∙ ap front (append_assoc h.front (10 ∷ []) rest) ∙ front_before h.front rest h.free ∙ sym h.is

  pub front_told : front_job whole ≡ job bytes
  front_told = let h = has_end bytes free in ap job front_is ∙ ap job h.is ∙ h.told

  pub front_free : front_fault whole ≡ None
  front_free = let h = has_end bytes free in ap job_fault front_is ∙ ap job_fault h.is ∙ h.free

  within : front_length whole ≤ length whole
  unfolding front_length
  within = omega arith

  front_size : front_length whole ≡ length (ended bytes)
  front_size = let size = ap (λ (bs : List ℕ). length bs) front_is in omega (arith, size, length-take (front_length whole) whole, within)

  pub after_is : after_job whole ≡ rest
  after_is = ap (λ n. drop n whole) front_size ∙ drop_at (ended bytes) rest (length (ended bytes)) refl

-- ---- the parts after it

cut_more : (A B more : List ℕ) → drop (length A + length B) (A ++ (B ++ more)) ≡ more
cut_more A B more = ap (drop (length A + length B)) (sym (append_assoc A B more)) ∙ drop_at (A ++ B) more (length A + length B) (length-append A B)

cut_seal : (A B more : List ℕ) → take (length A + length B - length A) (drop (length A) (A ++ (B ++ more))) ≡ B
cut_seal A B more =
    let e : length B ≡ length A + length B - length A = omega arith in
    ap (take (length A + length B - length A)) (drop_at A (B ++ more) (length A) refl) ∙ take_at B more (length A + length B - length A) e

module _ (bytes more : List ℕ) (J : List Entry) (free : job_fault bytes ≡ None) (are : All IsEntry J)
    (further_free : more_fault 1 (job bytes).events more ≡ None) where
  abbrev sealed : List (List ℕ)
  sealed = seal_lines (job bytes) (seen_of (slots_of (job bytes)) J)

  abbrev rest_of : List ℕ
  rest_of = journal_text J ++ (seal_text sealed ++ more)

  abbrev saved_more : List ℕ
  saved_more = ended bytes ++ rest_of

  abbrev first : ℕ
  first = line_after_job saved_more

  abbrev split_to : ShownParts
  split_to = parts_written first J sealed

  has_parts : parts_in saved_more ≡ Ok split_to
  has_parts = ap (parts_of first) (after_is bytes rest_of free) ∙ parts_again first J sealed more are (seal_can (job bytes) (seen_of (slots_of (job bytes)) J))

  are_parts : parts saved_more ≡ split_to
  are_parts = ap parts_or_none has_parts

  further_is : further saved_more split_to ≡ more
  further_is = ap (drop split_to.more_from) (after_is bytes rest_of free) ∙ cut_more (journal_text J) (seal_text sealed) more

  sealed_is : sealed_lines saved_more split_to ≡ lines (seal_text sealed)
  sealed_is =
      ap (λ bs. lines (take (split_to.more_from - split_to.seal_from) (drop split_to.seal_from bs))) (after_is bytes rest_of free)
      ∙ ap lines (cut_seal (journal_text J) (seal_text sealed) more)

  saved_snapshot : IsSnapshot saved_more
  saved_snapshot = record {
    front = front_free bytes rest_of free;
    split = has_parts ∙ ap Ok (sym are_parts);
    further = ap (λ p. more_fault p.more_line (front_job saved_more).events (further saved_more p)) are_parts
        ∙ ap₂ (λ (j : ShownJob) bs. more_fault split_to.more_line j.events bs) (front_told bytes rest_of free) further_is
        ∙ any_number 1 split_to.more_line (job bytes).events more further_free;
  }

  saved_of : IsOf saved_more J
  saved_of = record {
    entries = ap (λ (p : ShownParts). p.entries) are_parts;
    sealed = ap (sealed_lines saved_more) are_parts ∙ sealed_is ∙ ap (λ j. lines (sealed_text j J)) (sym (front_told bytes rest_of free));
  }

  saved_job : resumed_job saved_more ≡ joined (job bytes) (more_events more)
  saved_job = ap (resumed_with saved_more) are_parts ∙ ap₂ (λ j bs. joined j (more_events bs)) (front_told bytes rest_of free) further_is

  -- the text of the snapshot and the further lines
  same_text : snapshot_of bytes J ++ more ≡ saved_more
  same_text =
      append_assoc (ended bytes ++ journal_text J) (seal_text sealed) more ∙ append_assoc (ended bytes) (journal_text J) (seal_text sealed ++ more)

  pub snapshot_again : IsSnapshot (snapshot_of bytes J ++ more)
  snapshot_again = subst IsSnapshot (sym same_text) saved_snapshot

  pub of_again : IsOf (snapshot_of bytes J ++ more) J
  of_again = subst (λ t. IsOf t J) (sym same_text) saved_of

  pub job_again : resumed_job (snapshot_of bytes J ++ more) ≡ joined (job bytes) (more_events more)
  job_again = ap resumed_job same_text ∙ saved_job

  pub front_again : front_job (snapshot_of bytes J ++ more) ≡ job bytes
  front_again = ap front_job same_text ∙ front_told bytes rest_of free
