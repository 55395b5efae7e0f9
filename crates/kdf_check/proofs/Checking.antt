-- What the checker starts from, and what its verdict says.
use Rattle.std.specs.List.{All}
use Rattle.std.proofs.Common.{◌≡◌, ℕ, zero, suc, ◌^◌, ◌<◌, Bool, true, false, not, List, [], ◌∷◌, length, get_or, drop, Option, Some, None, refl, sym, ap, ap₂}
use Rattle.std.proofs.Common.{◌∙◌, subst, arith}
use Rattle.std.specs.Prelude.{IfNone, IfSome, bytes_eq}
use Rattle.kdf_text.specs.Lines.{is_text, line, lines}
use Rattle.kdf_journal.specs.declared.entry.Entry.{Entry}
use Rattle.kdf_transfer.specs.Slots.{Slot}
use Rattle.kdf_schedule.specs.declared.event.Event.{Event}
use Rattle.kdf_schedule.specs.declared.event.Event.TheVariants.{Orders, Move, End, Clock, Swap}
use Rattle.kdf_schedule.specs.Events.{IsInRange}
use Rattle.kdf_job.specs.Job.{ShownSlot}
use Rattle.kdf_job.specs.WellFormed as job
use Rattle.kdf_theory.specs.Follows.{IsRising}
use Rattle.kdf_theory.specs.Loading.{HaveImages, loads, slots_of}
use Rattle.kdf_theory.specs.Served.{IsJournalFor}
use Rattle.kdf_theory.proofs.Course.OneJournal.{true_for_nil}
use Rattle.kdf_theory.proofs.Course.WorldsJudged.{legal_nil}
use Rattle.kdf_theory.proofs.JobsLoaded.{are_loads, are_slots}
use Rattle.kdf_check.specs.declared.table.Pending.{Pending}
use Rattle.kdf_check.specs.declared.program.Program.{Program}
use Rattle.kdf_check.specs.declared.verdict.Verdict.{Verdict}
use Rattle.kdf_check.specs.declared.verdict.Verdict.TheVariants.{No}
use Rattle.kdf_check.specs.Differs.{IsDifference}
use Rattle.kdf_check.specs.Keeps.{place_at, IsKeptAt, Keeps}
use Rattle.kdf_check.specs.Report.{head_line, told_from, told_lines, verdict_at, IsCheck, IsJudged}
use Rattle.kdf_check.specs.Tracks.{TellsAt}
use Rattle.kdf_check.specs.Verdict.{told, IsVerdict}
use Rattle.kdf_check.proofs.Judging.{no_lem}

-- ---- the start

-- no transfer is pending
abbrev pub nothing : List (Option Pending)
nothing = None ∷ None ∷ None ∷ None ∷ None ∷ None ∷ None ∷ None ∷ None ∷ None ∷ None ∷ None ∷ None ∷ None ∷ None ∷ None ∷ []

no_pending : (d : ℕ) → get_or nothing d None ≡ None
no_pending zero = refl
no_pending (suc zero) = refl
no_pending (suc (suc zero)) = refl
no_pending (suc (suc (suc zero))) = refl
no_pending (suc (suc (suc (suc zero)))) = refl
no_pending (suc (suc (suc (suc (suc zero))))) = refl
no_pending (suc (suc (suc (suc (suc (suc zero)))))) = refl
no_pending (suc (suc (suc (suc (suc (suc (suc zero))))))) = refl
no_pending (suc (suc (suc (suc (suc (suc (suc (suc zero)))))))) = refl
no_pending (suc (suc (suc (suc (suc (suc (suc (suc (suc zero))))))))) = refl
no_pending (suc (suc (suc (suc (suc (suc (suc (suc (suc (suc zero)))))))))) = refl
no_pending (suc (suc (suc (suc (suc (suc (suc (suc (suc (suc (suc zero))))))))))) = refl
no_pending (suc (suc (suc (suc (suc (suc (suc (suc (suc (suc (suc (suc zero)))))))))))) = refl
no_pending (suc (suc (suc (suc (suc (suc (suc (suc (suc (suc (suc (suc (suc zero))))))))))))) = refl
no_pending (suc (suc (suc (suc (suc (suc (suc (suc (suc (suc (suc (suc (suc (suc zero)))))))))))))) = refl
no_pending (suc (suc (suc (suc (suc (suc (suc (suc (suc (suc (suc (suc (suc (suc (suc zero))))))))))))))) = refl
no_pending (suc (suc (suc (suc (suc (suc (suc (suc (suc (suc (suc (suc (suc (suc (suc (suc d)))))))))))))))) = refl

module _ (answers : ℕ → ℕ → Type 0) (jobs : List ShownSlot) (images : List (List ℕ)) (are : job.AreSlots jobs) (have : HaveImages jobs images) where
  -- programs that are loaded keep to the empty journal
  pub start-keeps : (J : List Entry) (programs : List (Option Program)) → J ≡ [] → ((p : ℕ) → IsKeptAt (slots_of jobs images) [] p (place_at programs p))
      → length programs ≡ 4 → Keeps answers (slots_of jobs images) J nothing programs
  start-keeps J programs fresh each four = subst (λ (E : List Entry). Keeps answers (slots_of jobs images) E nothing programs) (sym fresh) (record {
    are = are_slots (loads jobs images) (are_loads jobs images are have);
    legal = legal_nil (slots_of jobs images);
    truly = true_for_nil answers (slots_of jobs images);
    tells = record { sixteen = refl; each = λ d. subst (TellsAt (slots_of jobs images) [] d) (sym (no_pending d)) refl };
    four = four;
    each = each;
  })

-- ---- the schedule

behind : (e : Event) (es : List Event) → All IsInRange (e ∷ es) → All IsInRange es
behind e es each = λ k d lt. each (suc k) d (omega arith)

-- a well-formed one doesn't set the clock back, and exchanges slots alone
pub rises : (t : ℕ) (es : List Event) → job.IsRising t es → All IsInRange es → IsRising t es
rises t [] rising each = tt
rises t (Clock u ∷ es) rising each = (rising.0, rises u es rising.1 (behind (Clock u) es each))
rises t (Orders n ∷ es) rising each = rises t es rising (behind (Orders n) es each)
rises t (Move d n ∷ es) rising each = rises t es rising (behind (Move d n) es each)
rises t (End d ∷ es) rising each = rises t es rising (behind (End d) es each)
rises t (Swap p q ∷ es) rising each =
    let range = each 0 (Swap p q) (omega arith) in
    (omega (arith, range.0), omega (arith, range.1), rises t es rising (behind (Swap p q) es each))

-- ---- the verdict

module _ (answers : ℕ → ℕ → Type 0) (slots : List Slot) (events : List Event) (bytes : List ℕ) where
  -- whether the text is a report, by its first line
  not_same : (a b : Bool) → not a ≡ not b → a ≡ b
  not_same true true e = refl
  not_same true false e = cc
  not_same false true e = cc
  not_same false false e = refl

  report-is : (start text head : List ℕ) (other b : Bool) → start ≡ bytes → text ≡ line (lines start) 1 → head ≡ head_line → other ≡ not (bytes_eq text head)
      → other ≡ not b → is_text head_line (line (lines bytes) 1) ≡ b
  report-is start text head other b same first is found so =
      ap (λ (bs : List ℕ). is_text head_line (line (lines bs) 1)) (sym same)
      ∙ ap₂ (λ (t h : List ℕ). bytes_eq t h) (sym first) (sym is)
      ∙ not_same (bytes_eq text head) b (sym found ∙ so)

  pub no-report : (start text head : List ℕ) (other : Bool) → start ≡ bytes → text ≡ line (lines start) 1 → head ≡ head_line → other ≡ not (bytes_eq text head)
      → other ≡ true → IsCheck answers slots events bytes (No 0)
  no-report start text head other same first is found so =
      subst (λ (b : Bool). IsJudged b (IsVerdict answers slots events (told_lines (lines bytes)) (No 0)) (No 0))
      (sym (report-is start text head other false same first is found so)) refl

  -- the verdict on lines that are compared with the journal
  verdict-on : (one : (n a b : ℕ) → n < 2 ^ 48 → answers n a → answers n b → a ≡ b) (ls : List (Option Entry)) (J : List Entry) (place : Option ℕ)
      → IsJournalFor answers slots events J
      → IfSome place (λ n. IsDifference ls (told J) n) → IfNone place (ls ≡ told J) → IsVerdict answers slots events ls (verdict_at place)
  verdict-on one ls J None j some none = (J, j, none)
  verdict-on one ls J (Some n) j some none = no_lem answers one slots events ls J j n some

  pub a-report : (one : (n a b : ℕ) → n < 2 ^ 48 → answers n a → answers n b → a ≡ b) (start text head : List ℕ) (other : Bool) (rest : List (List ℕ))
      (es J : List Entry) (place : Option ℕ) (v : Verdict)
      → start ≡ bytes → text ≡ line (lines start) 1 → head ≡ head_line → other ≡ not (bytes_eq text head) → other ≡ false → rest ≡ drop 1 (lines start)
      → es ≡ J → IsJournalFor answers slots events J
      → IfSome place (λ n. IsDifference (told_from rest) (told es) n) → IfNone place (told_from rest ≡ told es) → v ≡ verdict_at place
      → IsCheck answers slots events bytes v
  a-report one start text head other rest es J place v same first is found so behind entries j some none v-is =
      subst (λ (b : Bool). IsJudged b (IsVerdict answers slots events (told_lines (lines bytes)) v) v)
      (sym (report-is start text head other true same first is found so))
      (subst (IsVerdict answers slots events (told_lines (lines bytes))) (sym v-is)
      (subst (λ (ls : List (Option Entry)). IsVerdict answers slots events ls (verdict_at place))
      (ap told_from (behind ∙ ap (λ (bs : List ℕ). drop 1 (lines bs)) same))
      (verdict-on one (told_from rest) J place j
      (subst (λ (fs : List Entry). IfSome place (λ n. IsDifference (told_from rest) (told fs) n)) entries some)
      (subst (λ (fs : List Entry). IfNone place (told_from rest ≡ told fs)) entries none))))
