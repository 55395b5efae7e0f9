-- Which program is next, as kdf_course has it over any programs. J is the journal so far, oldest entry first.
use Rattle.std.specs.Prelude.{ℕ, List, Bool, Option, is_some}
use Rattle.kdf_journal.specs.declared.entry.Entry.{Entry}
use Rattle.kdf_transfer.specs.Slots.{Slot}
use Rattle.kdf_course.specs.World as course
use Rattle.kdf_theory.specs.Slots.{slot_of}
use Rattle.kdf_theory.specs.ByJournal.{lone_world}
use Rattle.kdf_theory.specs.World.{World, first_need}

-- the programs that there are
abbrev pub there_in : List Slot → ℕ → Bool
there_in slots p = is_some (slot_of slots p)

-- what dispatching reads of a world: a need is told as a hold
abbrev pub dispatched : List Slot → World → course.Dispatch
dispatched slots w =
    record {
      there = there_in slots;
      pending = λ p by. w.pending p by;
      held = λ p. first_need w p;
    }

-- what dispatching reads of the world of lone runs
abbrev pub lone_dispatched : List Slot → List Entry → course.Dispatch
lone_dispatched slots J = dispatched slots (lone_world slots J)

-- a program is live until it has ended or failed
abbrev pub lives : List Slot → List Entry → ℕ → Bool
lives slots J p = course.lives (there_in slots) J p

-- the live program of highest priority that has no standing hold
abbrev pub next : World → List Slot → List Entry → Option ℕ
next w slots J = course.next (dispatched slots w) J

abbrev pub any_live : List Slot → List Entry → Bool
any_live slots J = course.any_live (there_in slots) J
