-- What a call comes to that asks for facts: its answer, and what is handed out.
use Rattle.std.specs.Prelude.{◌≡◌, ◌≢◌, ℕ, ◌<◌, List, true, length, take, drop, Some}
use Rattle.kdf_facts.specs.Told.{OfJob, TellsDeck, TellsFault, TellsJob}
use Rattle.kdf_top.specs.Answers.{Answers, IsCalledFor}
use Rattle.kdf_command.specs.Commands.{command, is_command}
use Rattle.kdf_command.specs.declared.command.Command.TheVariants.{Run}
use Rattle.kdf_top.specs.declared.status.Status.{Status}
use Rattle.kdf_top.specs.declared.status.Status.TheVariants as status
use Rattle.kdf_engine.specs.Service.{exchanged}

-- a text has the facts of a run: its first fault, or else the first of a deck, or else the journal and what became of each call
pub record TellsRun (job text : List ℕ) : Type 0 where
  pub fault : TellsFault job text
  pub deck : OfJob TellsDeck job text
  pub run : OfJob (TellsJob exchanged) job text

-- a text has the facts that words ask for over a job
abbrev pub AreFacts : List (List ℕ) → List ℕ → List ℕ → Type 0
AreFacts words job text = command words ≡ Some Run → TellsRun job text

-- such a text has this size, and here it is, unless the room is too small
abbrev pub AreHandedOut : (words : List (List ℕ)) → (job text : List ℕ) → Status → ℕ → Type 0
AreHandedOut words job text given size =
    (told : List ℕ) × AreFacts words job told × (size ≡ length told) × (given ≢ status.WriteFault → take size text ≡ told)

-- words that ask for facts over a job were given this answer and a text of this size, where the caller's room held `before`, and now
-- holds `after`
pub record IsTold (words : List (List ℕ)) (job before after : List ℕ) (given : Status) (size : ℕ) : Type 0 where
  pub answer : command words ≡ Some Run → Answers (IsCalledFor exchanged words job) given ⊥ (length before < size)
  pub usage : is_command words ≡ true → given ≢ status.Usage
  pub read : given ≢ status.ReadFault
  pub facts : given ≢ status.Memory → AreHandedOut words job after given size
  pub short : given ≡ status.WriteFault → length before < size
  pub short_writes : given ≡ status.WriteFault → after ≡ before
  pub memory : given ≡ status.Memory → (size ≡ 0) × (after ≡ before)
  pub beyond : drop size after ≡ drop size before
