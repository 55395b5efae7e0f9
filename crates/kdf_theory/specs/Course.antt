-- The one course that the programs in the slots take under a schedule where they are truly answered, as a function of
-- what is heard of the service each time.
use Rattle.std.specs.Prelude.{ℕ, List}
use Rattle.kdf_transfer.specs.Slots.{Slot}
use Rattle.kdf_journal.specs.declared.entry.Entry.{Entry}
use Rattle.kdf_journal.specs.Steps.{JournalStep}
use Rattle.kdf_schedule.specs.Calls.{Call}
use Rattle.kdf_course.specs.Course as any
use Rattle.kdf_theory.specs.Legal.{lone_note, true_note}
use Rattle.kdf_theory.specs.Next.{dispatched, lone_dispatched}
use Rattle.kdf_theory.specs.World.{World}

-- the step that a call makes in this world, after the journal J, where a program is live and this is heard of the
-- service
abbrev pub step_at : World → List Slot → List Entry → (heard : ℕ) → Call → JournalStep
step_at w slots J heard c = any.step_at (dispatched slots w) (true_note w J heard) J c

-- the step that a call makes in the world of lone runs, after the journal J, where a program is live
abbrev pub lone_step_at : List Slot → List Entry → (heard : ℕ) → Call → JournalStep
lone_step_at slots J heard c = any.step_after (lone_dispatched slots) (lone_note slots heard) J c

-- the steps, the newest first, with those that these calls make; where no program is live, they make none
abbrev pub course : List Slot → (heard : ℕ) → List JournalStep → List Call → List JournalStep
course slots heard P cs = any.course (lone_dispatched slots) (lone_note slots heard) P cs
