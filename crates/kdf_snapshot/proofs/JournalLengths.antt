-- How many entries the journal of a schedule has.
use Rattle.std.proofs.Common.{ℕ, ◌+◌, ◌*◌, ◌<◌, ◌≤◌, ◌^◌, Bool, true, false, cond, eqb, List, [], ◌∷◌, length, ap, arith, length-append}
use Rattle.std.proofs.lemmas.List.{length-replicate}
use Rattle.kdf_journal.specs.declared.need.Need.TheVariants.{Group, Device, Pool}
use Rattle.kdf_journal.specs.declared.entry.Entry.{Entry}
use Rattle.kdf_journal.specs.declared.entry.Entry.TheVariants.{Ran, Start, Answer, Take, Give, Fail, Ended, Lov, Busy, Wait, Idle}
use Rattle.kdf_journal.specs.declared.entry.Entry.TheVariants as entry
use Rattle.kdf_journal.specs.Joined.{joined, pushed}
use Rattle.kdf_journal.specs.Steps.{Note, Quiet, Began, Answered, Took, Gave, Failed, Finished, JournalStep, Obeys, Holds, Waits, Moves, Ends, Sets, Swaps}
use Rattle.kdf_journal.specs.Steps.{added}
use Rattle.kdf_journal.specs.Steps.{journal_of, noted, steps}
use Rattle.kdf_schedule.specs.declared.event.Event.{Event}
use Rattle.kdf_schedule.specs.declared.event.Event.TheVariants.{Orders, Move, End, Clock, Swap}
use Rattle.kdf_schedule.specs.Calls.{Call, AnOrder, calls_made, calls_of, order_count, orders_in}
use Rattle.kdf_schedule.proofs.Schedules.{calls_made-nil}
use Rattle.kdf_course.specs.Follows.{answered}
use Rattle.kdf_course.proofs.Fronts.{length-answered}
use Rattle.kdf_course.proofs.OneJournal.{calls-after}
use Rattle.kdf_transfer.specs.Slots.{Slot}
use Rattle.kdf_theory.specs.Served.{IsJournalFor}

one_or_two : (b : Bool) (x y z : Entry) → length (cond b (x ∷ []) (y ∷ z ∷ [])) ≤ 2
one_or_two true x y z = omega arith
one_or_two false x y z = omega arith

joined_length : (x y : Entry) → length (joined x y) ≤ 2
joined_length (Ran p n) (Ran q m) = one_or_two (eqb p q) _ _ _
joined_length (Idle n) (Idle m) = omega arith
joined_length x y = omega arith

pushed_length : (J : List Entry) (e : Entry) → length (pushed J e) ≤ length J + 1
pushed_length [] e = omega arith
pushed_length (x ∷ []) e = omega (arith, joined_length x e)
pushed_length (x ∷ y ∷ es) e = omega (arith, pushed_length (y ∷ es) e)

noted_length : (J : List Entry) (p : ℕ) (note : Note) → length (noted J p note) ≤ length J + 1
noted_length J p Quiet = omega arith
noted_length J p (Began d k) = pushed_length J (Start p d k)
noted_length J p (Answered v) = pushed_length J (Answer p v)
noted_length J p (Took d) = pushed_length J (Take p d)
noted_length J p (Gave d) = pushed_length J (Give p d)
noted_length J p (Failed kind) = pushed_length J (Fail p kind)
noted_length J p Finished = pushed_length J (Ended p)

added_length : (J : List Entry) (s : JournalStep) → length (added J s) ≤ length J + 2
added_length J (Obeys p note) = omega (arith, noted_length (pushed J (Ran p 1)) p note, pushed_length J (Ran p 1))
added_length J (Holds p (Group group)) = omega (arith, pushed_length J (Lov p group))
added_length J (Holds p (Device d)) = omega (arith, pushed_length J (Busy p d))
added_length J (Holds p (Pool kind)) = omega (arith, pushed_length J (Wait p kind))
added_length J Waits = omega (arith, pushed_length J (Idle 1))
added_length J (Moves d n) = omega (arith, pushed_length J (entry.Move d n))
added_length J (Ends d) = omega (arith, pushed_length J (entry.End d))
added_length J (Sets t) = omega (arith, pushed_length J (entry.Clock t))
added_length J (Swaps p q) = omega (arith, pushed_length J (entry.Swap p q))

journal_length : (P : List JournalStep) → length (journal_of P) ≤ 2 * length P
journal_length [] = omega arith
journal_length (s ∷ P) = omega (arith, added_length (journal_of P) s, journal_length P)

event_calls : (e : Event) → length (calls_of e) ≤ orders_in e + 1
event_calls (Orders n) = omega (arith, length-replicate n AnOrder)
event_calls (Move d n) = omega arith
event_calls (End d) = omega arith
event_calls (Clock t) = omega arith
event_calls (Swap p q) = omega arith

calls_length : (es : List Event) → length (calls_made es) ≤ order_count es + length es
calls_length [] = omega (arith, ap (λ (cs : List Call). length cs) calls_made-nil)
calls_length (e ∷ es) =
    omega (arith, ap (λ (cs : List Call). length cs) (calls-after e es), length-append (calls_of e) (calls_made es), event_calls e, calls_length es)

pub few_entries : (answers : ℕ → ℕ → Type 0) (slots : List Slot) (events : List Event) (J : List Entry) → IsJournalFor answers slots events J
    → order_count events ≤ 20000000 → length events ≤ 500000 → length J < 2 ^ 32
few_entries answers slots events J j orders many =
    let all = ap (λ (cs : List Call). length cs) j.whole.follows.in_order in
    let parts = length-append (answered (steps J)) j.whole.left in
    let size = ap (λ (es : List Entry). length es) j.legal.in_form in
    omega (arith, all, parts, size, journal_length (steps J), length-answered (steps J), calls_length events)
