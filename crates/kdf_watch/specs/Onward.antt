-- What the events that are left after a cursor keep.
use Rattle.std.specs.Prelude.{◌+◌, ◌≤◌, List, length, drop, sum_by}
use Rattle.kdf_journal.specs.Counts.{calls, clock}
use Rattle.kdf_schedule.specs.declared.event.Event.{Event}
use Rattle.kdf_schedule.specs.Calls.{calls_made, orders_in, order_count}
use Rattle.kdf_theory.specs.Follows.{Follows, IsRising, entries_in}
use Rattle.kdf_theory.specs.MachineView.{MachineView}
use Rattle.kdf_watch.specs.declared.cursor.Cursor.{Cursor}
use Rattle.kdf_watch.specs.Cursors.{calls_left, event_at}

-- the machine's journal follows the events just up to the cursor, and those that are left keep what the machine asks
pub record IsAt (events : List Event) (c : Cursor) (m : MachineView) : Type 0 where
  pub place : c.event ≤ length events
  pub within : c.calls ≤ orders_in (event_at events c.event)
  pub follows : Follows m.slots (calls_made events) (calls_left events c) m.journal
  pub few : calls m.journal + order_count (drop c.event events) ≤ 20000000 + c.calls
  pub room : sum_by entries_in (drop c.event events) ≤ m.room
  pub rises : IsRising (clock m.journal) (drop c.event events)
  pub time : clock m.journal ≤ 140737488355327

-- after the next call of the ORDERS there, and after the event there
abbrev pub called : Cursor → Cursor
called c = record { event = c.event; calls = c.calls + 1 }

abbrev pub passed : Cursor → Cursor
passed c = record { event = c.event + 1; calls = 0 }
