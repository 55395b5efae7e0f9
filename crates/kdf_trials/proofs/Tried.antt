-- What the slots of a job are.
use Rattle.std.proofs.Common.{◌≡◌, ℕ, zero, suc, ◌<◌, ◌∙◌, false, List, [], ◌∷◌, All, map, length, sym, ap, subst, arith}
use Rattle.std.specs.Prelude.{slice_index_or}
use Rattle.std.proofs.lemmas.List.{get_or-map, length-map}
use Rattle.kdf_job.specs.declared.job.Job.{Job}
use Rattle.kdf_job.specs.declared.job.SlotJob.{SlotJob}
use Rattle.kdf_job.specs.Job.{ShownSlot}
use Rattle.kdf_alone.specs.Program.{IsApart}
use Rattle.kdf_alone.proofs.Apart.{slot_apart}
use Rattle.kdf_job.specs.Shows.{shown_job, shown_slot}
use Rattle.kdf_job.specs.WellFormed.{IsJob, IsSchedule, IsSlot}
use Rattle.kdf_schedule.specs.declared.event.Event.{Event}
use Rattle.kdf_top.proofs.Schedules.{rises}
use Rattle.kdf_watch.specs.Cursors.{KeepsLimits}
use Rattle.kdf_theory.specs.Loading.{slots_of}
use Rattle.kdf_theory.specs.Slots.{NoneServed}

-- each of the slots is well formed
pub slot_at : (j : Job) (k : ℕ) (s : SlotJob) → IsJob (shown_job j) → k < length j.slots.items → s ≡ slice_index_or j.slots.items k s
    → IsSlot (shown_slot s)
slot_at j k s is inside at =
    let there : k < length (map shown_slot j.slots.items) = omega (arith, length-map j.slots.items shown_slot) in
    subst IsSlot (get_or-map shown_slot j.slots.items k s (shown_slot s) inside ∙ ap shown_slot (sym at)) (is.slots.each k (shown_slot s) there)

pub apart_at : (j : Job) (k : ℕ) (s : SlotJob) → IsJob (shown_job j) → k < length j.slots.items → s ≡ slice_index_or j.slots.items k s
    → IsApart (shown_slot s)
apart_at j k s is inside at =
    let slots : List ShownSlot = map shown_slot j.slots.items in
    let there : k < length slots = omega (arith, length-map j.slots.items shown_slot) in
    subst IsApart (get_or-map shown_slot j.slots.items k s (shown_slot s) inside ∙ ap shown_slot (sym at)) (slot_apart slots k (shown_slot s) there is.slots)

-- slots of which none is served are shown so
pub shown_unserved : (slots : List SlotJob) → All (λ (slot : SlotJob). slot.served ≡ false) slots
    → All (λ (slot : ShownSlot). slot.served ≡ false) (map shown_slot slots)
shown_unserved [] all k d lt = absurd (omega arith)
shown_unserved (slot ∷ slots) all zero d lt = all 0 slot (omega arith)
shown_unserved (slot ∷ slots) all (suc k) d lt = shown_unserved slots (λ j e l. all (suc j) e (omega arith)) k d (omega arith)

-- nor is one of those that are loaded of them
pub none_served : (slots : List ShownSlot) (images : List (List ℕ)) → All (λ (slot : ShownSlot). slot.served ≡ false) slots → NoneServed (slots_of slots images)
none_served [] images all k d lt = absurd (omega arith)
none_served (slot ∷ slots) [] all k d lt = absurd (omega arith)
none_served (slot ∷ slots) (words ∷ images) all zero d lt = all 0 slot (omega arith)
none_served (slot ∷ slots) (words ∷ images) all (suc k) d lt = none_served slots images (λ j e l. all (suc j) e (omega arith)) k d (omega arith)

-- the events of a job keep what is asked of a schedule that is watched
pub keeps_limits : (events : List Event) → IsSchedule events → KeepsLimits events
keeps_limits events is = record { short = is.few; few = is.few_orders; rises = rises 0 events is.rising is.each; in_range = is.each }
