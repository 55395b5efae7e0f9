-- How far a run has come in its schedule.
use Rattle.std.specs.Prelude.{ℕ, ◌≤◌, List, length, drop, slice_index_or, sum_by}
use Rattle.std.specs.List.{All}
use Rattle.kdf_schedule.specs.declared.event.Event.{Event}
use Rattle.kdf_schedule.specs.declared.event.Event.TheVariants.{Orders}
use Rattle.kdf_schedule.specs.Events.{IsInRange}
use Rattle.kdf_schedule.specs.Calls.{Call, calls_made, orders_in, order_count}
use Rattle.kdf_theory.specs.Follows.{Follows, IsRising, entries_in}
use Rattle.kdf_theory.specs.MachineView.{MachineView}
use Rattle.kdf_watch.specs.declared.cursor.Cursor.{Cursor}

-- the event of this number; after the last one, one of no orders
abbrev pub event_at : List Event → ℕ → Event
event_at events i = slice_index_or events i (Orders 0)

-- the calls that are left after the cursor
abbrev pub calls_left : List Event → Cursor → List Call
calls_left events c = drop c.calls (calls_made (drop c.event events))

-- the events keep the rules and limits of a schedule
pub record KeepsLimits (events : List Event) : Type 0 where
  pub short : length events ≤ 500000
  pub few : order_count events ≤ 20000000
  pub rises : IsRising 0 events
  pub in_range : All IsInRange events

-- the machine's journal follows the events just up to the cursor, and it has room for those that are left
pub record IsUpTo (events : List Event) (c : Cursor) (m : MachineView) : Type 0 where
  pub place : c.event ≤ length events
  pub within : c.calls ≤ orders_in (event_at events c.event)
  pub follows : Follows m.slots (calls_made events) (calls_left events c) m.journal
  pub room : sum_by entries_in (drop c.event events) ≤ m.room
