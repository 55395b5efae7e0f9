-- What it is for an event to be entered, and passed.
use Rattle.std.specs.Prelude.{◌≡◌, List, Bool, true, false}
use Rattle.kdf_journal.specs.Steps.{Moves, Ends, Sets, Swaps}
use Rattle.kdf_schedule.specs.declared.event.Event.{Event}
use Rattle.kdf_schedule.specs.declared.event.Event.TheVariants.{Orders, Move, End, Clock, Swap}
use Rattle.kdf_director.specs.Advance.{Enters}
use Rattle.kdf_theory.specs.Legal.{IsLegal}
use Rattle.kdf_theory.specs.Next.{any_live}
use Rattle.kdf_theory.specs.MachineView.{MachineView}
use Rattle.kdf_watch.specs.declared.cursor.Cursor.{Cursor}
use Rattle.kdf_watch.specs.Cursors.{event_at}
use Rattle.kdf_watch.specs.Onward.{passed}

-- the event was entered, unless it is one of orders
abbrev pub HasEntered : MachineView → MachineView → Event → Type 0
HasEntered old new (Orders n) = new ≡ old
HasEntered old new (Move d n) = Enters old new (Moves d n)
HasEntered old new (End d) = Enters old new (Ends d)
HasEntered old new (Clock t) = Enters old new (Sets t)
HasEntered old new (Swap p q) = Enters old new (Swaps p q)

-- so was the event at the cursor, which went on, where a program was live; else nothing changed
abbrev pub HasPassed : List Event → Cursor → MachineView → Cursor → MachineView → Bool → Type 0
HasPassed events c old d new true =
    (any_live old.slots old.journal ≡ true) × IsLegal old.slots old.journal
    × HasEntered old new (event_at events c.event) × (d ≡ passed c)
HasPassed events c old d new false =
    (any_live old.slots old.journal ≡ false) × (new ≡ old) × (d ≡ c)
