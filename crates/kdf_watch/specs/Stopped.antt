-- How a watched run stops. `sees look b` says that b is one of the watch's answers to the look.
use Rattle.std.specs.Prelude.{◌≡◌, List, ◌∷◌, ◌++◌, Bool, true, Option, Some, None}
use Rattle.kdf_journal.specs.Steps.{Note, JournalStep, Obeys, journal_of, steps}
use Rattle.kdf_schedule.specs.declared.event.Event.{Event}
use Rattle.kdf_schedule.specs.Calls.{calls_made}
use Rattle.kdf_theory.specs.Follows.{IsWhole}
use Rattle.kdf_theory.specs.MachineView.{MachineView}
use Rattle.kdf_watch.specs.declared.stop.Stop.{Stop}
use Rattle.kdf_watch.specs.declared.stop.Stop.TheVariants.{Watched, Finished}
use Rattle.kdf_watch.specs.declared.look.Look.{Look}
use Rattle.kdf_watch.specs.Looks.{look_at, looks}
use Rattle.kdf_watch.specs.Rules.{AreUnseen}

-- the machine has gone on by some steps, and the watch answered false of every look
pub record HasGone (sees : Look → Bool → Type 0) (old new : MachineView) : Type 0 where
  pub later : List JournalStep
  pub is : steps new.journal ≡ later ++ steps old.journal
  pub unseen : AreUnseen sees (looks old.slots later (steps old.journal))

-- and by one order more, whose look this is, and of which the watch answered true
pub record HasSeen (sees : Look → Bool → Type 0) (old new : MachineView) (look : Look) : Type 0 where
  pub later : List JournalStep
  pub note : Note
  pub is : steps new.journal ≡ Obeys look.p note ∷ later ++ steps old.journal
  pub form : journal_of (steps new.journal) ≡ new.journal
  pub look_is : look ≡ look_at old.slots new.journal look.p
  pub seen : sees look true
  pub unseen : AreUnseen sees (looks old.slots later (steps old.journal))

-- the run stopped at a look that was seen, or it is at its end
abbrev pub HasStopped : (Look → Bool → Type 0) → List Event → MachineView → MachineView → Stop → Type 0
HasStopped sees events old new (Watched look) = HasSeen sees old new look
HasStopped sees events old new Finished =
    HasGone sees old new × IsWhole new.slots (calls_made events) new.journal

-- or it hasn't stopped yet
abbrev pub HasPaused : (Look → Bool → Type 0) → List Event → MachineView → MachineView → Option Stop → Type 0
HasPaused sees events old new None = HasGone sees old new
HasPaused sees events old new (Some stop) = HasStopped sees events old new stop
