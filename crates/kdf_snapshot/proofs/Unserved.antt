-- Where no slot is served, the journal with one service is that with any.
use Rattle.std.proofs.Common.{◌≡◌, ℕ, zero, suc, ◌<◌, ◌^◌, false, List, [], ◌∷◌, All, Result, Ok, Err, sym, subst, arith}
use Rattle.std.specs.Prelude.{IfErr, IfOk}
use Rattle.kdf_transfer.specs.Slots.{Slot}
use Rattle.kdf_journal.specs.declared.entry.Entry.{Entry}
use Rattle.kdf_schedule.specs.declared.event.Event.{Event}
use Rattle.kdf_job.specs.Job.{ShownSlot}
use Rattle.kdf_theory.specs.Follows.{IsRising}
use Rattle.kdf_theory.specs.Loading.{slots_of}
use Rattle.kdf_theory.specs.Served.{unasked, IsJournalFor}
use Rattle.kdf_theory.specs.MachineView.{MachineView}
use Rattle.kdf_theory.specs.Slots.{NoneServed}
use Rattle.kdf_theory.proofs.Course.OneJournal.{a_journal_for, one_for, true_for_more}
use Rattle.kdf_snapshot.specs.Rebuilt.{IsRefused}
use Rattle.kdf_snapshot.specs.declared.rebuilt.RebuildError.{RebuildError}
use Rattle.kdf_snapshot.specs.declared.rebuilt.RebuildError.TheVariants.{Differs, Memory}

-- any two answers to one word are equal
abbrev pub IsOne : (answers : ℕ → ℕ → Type 0) → Type 0
IsOne answers = (n a b : ℕ) → n < 2 ^ 48 → answers n a → answers n b → a ≡ b

-- a slot of a job that isn't served is loaded so
pub unserved-loaded : (slots : List ShownSlot) (images : List (List ℕ)) → All (λ (slot : ShownSlot). slot.served ≡ false) slots
    → NoneServed (slots_of slots images)
unserved-loaded [] images all k d lt = absurd (omega arith)
unserved-loaded (slot ∷ slots) [] all k d lt = absurd (omega arith)
unserved-loaded (slot ∷ slots) (words ∷ images) all zero d lt = all 0 slot (omega arith)
unserved-loaded (slot ∷ slots) (words ∷ images) all (suc k) d lt = unserved-loaded slots images (λ j e l. all (suc j) e (omega arith)) k d (omega arith)

unserved-journal : (answers : ℕ → ℕ → Type 0) → IsOne answers → (slots : List Slot) → NoneServed slots → (events : List Event) → IsRising 0 events
    → (J : List Entry) → IsJournalFor answers slots events J → IsJournalFor unasked slots events J
unserved-journal answers one slots none events rises J j =
    let k = a_journal_for unasked slots none events rises in
    let also : IsJournalFor answers slots events k.0 =
    record { legal = k.1.legal; truly = true_for_more unasked answers (λ word answer is. absurd is) slots k.0 k.1.truly; whole = k.1.whole } in
    subst (IsJournalFor unasked slots events) (one_for answers slots one events k.0 J also j) k.1

pub unserved-ok : (answers : ℕ → ℕ → Type 0) (slots : List Slot) → NoneServed slots → (events : List Event) → IsRising 0 events
    → (r : Result MachineView RebuildError)
    → IfOk r (λ m. m.slots ≡ slots) → IfOk r (λ m. IsJournalFor answers m.slots events m.journal) → IsOne answers
    → IfOk r (λ m. IsJournalFor unasked m.slots events m.journal)
unserved-ok answers slots none events rises (Ok m) same j one =
    unserved-journal answers one m.slots (subst NoneServed (sym same) none) events rises m.journal j
unserved-ok answers slots none events rises (Err e) same j one = tt

pub unserved-err : (answers : ℕ → ℕ → Type 0) (slots : List Slot) → NoneServed slots → (events : List Event) → IsRising 0 events → (entries : List Entry)
    → (r : Result MachineView RebuildError)
    → IfErr r (IsRefused answers slots events entries) → IsOne answers → IfErr r (IsRefused unasked slots events entries)
unserved-err answers slots none events rises entries (Ok m) j one = tt
unserved-err answers slots none events rises entries (Err (Differs n)) j one = (j.0, unserved-journal answers one slots none events rises j.0 j.1, j.2)
unserved-err answers slots none events rises entries (Err Memory) j one = tt
