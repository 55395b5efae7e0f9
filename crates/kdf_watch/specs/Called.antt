-- What calls of the machine come to.
use Rattle.std.specs.Prelude.{ℕ, ◌≡◌, ◌+◌, ◌<◌, ◌≤◌, List, [], Bool, true, false}
use Rattle.kdf_journal.specs.declared.entry.Entry.{Entry}
use Rattle.kdf_journal.specs.Steps.{Note, JournalStep, Obeys, added}
use Rattle.kdf_transfer.specs.Slots.{Slot}
use Rattle.kdf_director.specs.Runs.{HasMadeOn}
use Rattle.kdf_theory.specs.Legal.{IsLegal}
use Rattle.kdf_theory.specs.Next.{any_live}
use Rattle.kdf_theory.specs.MachineView.{MachineView}
use Rattle.kdf_watch.specs.declared.call.Called.{Called}
use Rattle.kdf_watch.specs.declared.call.Called.TheVariants.{Seen, Unseen, Over}
use Rattle.kdf_watch.specs.declared.look.Look.{Look}
use Rattle.kdf_watch.specs.Looks.{look_at, looks_in}
use Rattle.kdf_watch.specs.Rules.{IsLook}
use Rattle.kdf_watch.specs.Stopped.{HasGone}

-- the journal tells this step more, before which a program was live
pub record Tells (old new : MachineView) (s : JournalStep) : Type 0 where
  pub live : any_live old.slots old.journal ≡ true
  pub journal : new.journal ≡ added old.journal s

-- the step is no order of a program
abbrev pub IsBlind : JournalStep → Type 0
IsBlind s = (slots : List Slot) (J : List Entry) → looks_in slots J s ≡ []

-- the machine has gone on, and by one order more, whose look this is
pub record HasLooked (sees : Look → Bool → Type 0) (old new : MachineView) (look : Look) : Type 0 where
  pub between : MachineView
  pub gone : HasGone sees old between
  pub same : between.slots ≡ old.slots
  pub legal : IsLegal between.slots between.journal
  pub note : Note
  pub tells : Tells between new (Obeys look.p note)
  pub look_is : look ≡ look_at between.slots new.journal look.p
  pub is_look : IsLook look

-- calls were answered: a program obeyed, and this is the look at it; or the last of them obeyed none; or no program is
-- live
abbrev pub HasCalled : (Look → Bool → Type 0) → MachineView → MachineView → Called → Type 0
HasCalled sees old new (Seen look) = HasLooked sees old new look
HasCalled sees old new Unseen = HasGone sees old new
HasCalled sees old new Over = HasGone sees old new × (any_live new.slots new.journal ≡ false)

-- so many calls of a line were made before, and so many after, each of which found a live program
pub record HasMoved (answers : ℕ → ℕ → Type 0) (before after : ℕ) (old new : MachineView) : Type 0 where
  pub made : ℕ
  pub on : HasMadeOn answers made old new
  pub count : before + made ≡ after

-- so they are more after calls that were answered so
abbrev pub IsFurther : (before after : ℕ) → Called → Type 0
IsFurther before after (Seen look) = before < after
IsFurther before after Unseen = before < after
IsFurther before after Over = before ≤ after
