-- The first events of a schedule keep its rules.
use Rattle.std.proofs.Common.{◌≡◌, ℕ, zero, suc, ◌+◌, ◌≤◌, List, [], ◌∷◌, length, take, drop, sym, ap, ◌∙◌, subst, arith, All, length-take}
use Rattle.std.specs.Prelude.{sum_by, Result, Ok, Err, IfOk}
use Rattle.std.proofs.lemmas.List.{take-append-drop}
use Rattle.std.proofs.lemmas.List.Sums.{sum_by-append, sum_by-cons}
use Rattle.kdf_transfer.specs.Slots.{Slot}
use Rattle.kdf_journal.specs.declared.entry.Entry.{Entry}
use Rattle.kdf_schedule.specs.declared.event.Event.{Event}
use Rattle.kdf_schedule.specs.declared.event.Event.TheVariants.{Orders, Move, End, Clock, Swap}
use Rattle.kdf_schedule.specs.Calls.{order_count}
use Rattle.kdf_schedule.specs.Events.{IsInRange}
use Rattle.kdf_job.specs.WellFormed as job
use Rattle.kdf_theory.specs.Follows.{IsRising, entries_in}
use Rattle.kdf_theory.specs.Served.{IsJournalFor}
use Rattle.kdf_theory.specs.MachineView.{MachineView}
use Rattle.kdf_snapshot.specs.Rebuilt.{DiffersFrom, IsRefused}
use Rattle.kdf_snapshot.specs.declared.rebuilt.RebuildError.{RebuildError}
use Rattle.kdf_snapshot.specs.declared.rebuilt.RebuildError.TheVariants.{Differs, Memory}

pub few-orders : (i : ℕ) (es : List Event) → order_count (take i es) ≤ order_count es
few-orders zero es = omega arith
few-orders (suc i) [] = omega arith
few-orders (suc i) (e ∷ es) = omega (arith, few-orders i es)

one_entry : (e : Event) → entries_in e ≤ 1
one_entry (Orders n) = omega arith
one_entry (Move d n) = omega arith
one_entry (End d) = omega arith
one_entry (Clock t) = omega arith
one_entry (Swap p q) = omega arith

pub entries-bound : (es : List Event) → sum_by entries_in es ≤ length es
entries-bound [] = omega arith
entries-bound (e ∷ es) = let first = one_entry e in let others = entries-bound es in omega (arith, sum_by-cons entries_in e es)

-- those of the first events and of the others are those of all
pub entries-parts : (i : ℕ) (es : List Event) → sum_by entries_in (take i es) + sum_by entries_in (drop i es) ≡ sum_by entries_in es
entries-parts i es = sym (sum_by-append entries_in (take i es) (drop i es)) ∙ ap (sum_by entries_in) (take-append-drop i es)

later : (e : Event) (es : List Event) → All IsInRange (e ∷ es) → All IsInRange es
later e es each = λ k d lt. each (suc k) d (omega arith)

pub rising-front : (t i : ℕ) (es : List Event) → job.IsRising t es → All IsInRange es → IsRising t (take i es)
rising-front t zero es rising each = tt
rising-front t (suc i) [] rising each = tt
rising-front t (suc i) (Clock u ∷ es) rising each = (rising.0, rising-front u i es rising.1 (later (Clock u) es each))
rising-front t (suc i) (Orders n ∷ es) rising each = rising-front t i es rising (later (Orders n) es each)
rising-front t (suc i) (Move d n ∷ es) rising each = rising-front t i es rising (later (Move d n) es each)
rising-front t (suc i) (End d ∷ es) rising each = rising-front t i es rising (later (End d) es each)
rising-front t (suc i) (Swap p q ∷ es) rising each =
    let range = each 0 (Swap p q) (omega arith) in
    (omega (arith, range.0), omega (arith, range.1), rising-front t i es rising (later (Swap p q) es each))

pub in-range : (i : ℕ) (es : List Event) → All IsInRange es → All IsInRange (take i es)
in-range zero es each = λ k d lt. absurd (omega (arith, length-take 0 es))
in-range (suc i) [] each = each
in-range (suc i) (e ∷ es) each = all-cons e (take i es) (each 0 e (omega arith)) (in-range i es (λ k d lt. each (suc k) d (omega arith)))
  where
    all-cons : (e : Event) (fs : List Event) → IsInRange e → All IsInRange fs → All IsInRange (e ∷ fs)
    all-cons e fs first others zero d lt = first
    all-cons e fs first others (suc k) d lt = others k d (omega arith)

-- a machine that is given back as it was has its room
pub kept : {E : Type 0} (r : Result MachineView E) (m : MachineView) (n : ℕ) → IfOk r (λ x. x ≡ m) → n ≤ m.room → IfOk r (λ x. n ≤ x.room)
kept (Ok x) m n is le = subst (λ (y : MachineView). n ≤ y.room) (sym is) le
kept (Err e) m n is le = tt

-- and the journal that it had
pub kept-journal : {E : Type 0} (r : Result MachineView E) (m : MachineView) (J : List Entry) → IfOk r (λ x. x ≡ m) → IfOk r (λ _. m.journal ≡ J)
    → IfOk r (λ x. x.journal ≡ J)
kept-journal (Ok x) m J is e = ap (λ (y : MachineView). y.journal) is ∙ e
kept-journal (Err e) m J is le = tt

-- entries that differ from the journal of a run are refused
pub refused-as : (answers : ℕ → ℕ → Type 0) (slots given : List Slot) (events : List Event) (J entries : List Entry) (e : RebuildError)
    → slots ≡ given → IsJournalFor answers slots events J → DiffersFrom J entries e → IsRefused answers given events entries e
refused-as answers slots given events J entries (Differs n) same run d = (J, subst (λ ss. IsJournalFor answers ss events J) same run, d)
refused-as answers slots given events J entries Memory same run d = d
