-- What it is for a journal to follow the calls of a schedule.
use Rattle.std.specs.Prelude.{ℕ, List}
use Rattle.kdf_transfer.specs.Slots.{Slot}
use Rattle.kdf_journal.specs.declared.entry.Entry.{Entry}
use Rattle.kdf_schedule.specs.declared.event.Event.{Event}
use Rattle.kdf_schedule.specs.declared.event.Event.TheVariants.{Orders, Move, End, Clock, Swap}
use Rattle.kdf_schedule.specs.Calls.{Call}
use Rattle.kdf_course.specs.Follows as course
use Rattle.kdf_theory.specs.Next.{lone_dispatched}

-- the journal answers the calls one for one, from the first, and stops only at their end, or where no program is live
abbrev pub IsWhole : List Slot → List Call → List Entry → Type 0
IsWhole slots calls J = course.IsWhole (lone_dispatched slots) calls J

-- the journal answers the calls one for one, from the first, up to these that are left
abbrev pub Follows : List Slot → (calls left : List Call) → List Entry → Type 0
Follows slots calls left J = course.Follows (lone_dispatched slots) calls left J

-- where the time is t, no event sets it back, and each exchange is one of two slots
abbrev pub IsRising : ℕ → List Event → Type 0
IsRising t es = course.IsRising t es

-- an event that isn't one of orders is an entry itself
abbrev pub entries_in : Event → ℕ
entries_in (Orders n) = 0
entries_in (Move d n) = 1
entries_in (End d) = 1
entries_in (Clock t) = 1
entries_in (Swap p q) = 1

-- the time after an event
abbrev pub time_behind : ℕ → Event → ℕ
time_behind t (Orders n) = t
time_behind t (Move d n) = t
time_behind t (End d) = t
time_behind t (Clock u) = u
time_behind t (Swap p q) = t
