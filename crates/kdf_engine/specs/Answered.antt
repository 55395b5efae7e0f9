-- What a call comes to: its answer, and what is handed out.
use Rattle.std.specs.Prelude.{◌≡◌, ◌≢◌, ℕ, ◌<◌, ◌≤◌, List, [], true, length, take, drop, Option, Some}
use Rattle.kdf_theory.specs.MachineView.{MachineView}
use Rattle.kdf_top.specs.Answers.{Answers, IsCalledFor, IsDoneBy, IsDueFor}
use Rattle.kdf_command.specs.Commands.{command, is_command}
use Rattle.kdf_top.specs.declared.status.Status.{Status}
use Rattle.kdf_top.specs.declared.status.Status.TheVariants as status
use Rattle.kdf_engine.specs.Service.{exchanged}

-- a text of this size is due to words over a job, and here it is, unless the room is too small
abbrev pub IsHandedOut : (words : List (List ℕ)) → (job text : List ℕ) → Status → ℕ → Type 0
IsHandedOut words job text given size =
    (due : List ℕ) × IsDueFor exchanged words job due × (size ≡ length due) × (given ≢ status.WriteFault → take size text ≡ due)

-- words over a job were given this answer and a text of this size, where the caller's room held `before`, and now holds `after`
pub record IsAnswered (words : List (List ℕ)) (job before after : List ℕ) (given : Status) (size : ℕ) : Type 0 where
  pub answer : Answers (IsCalledFor exchanged words job) given ⊥ (length before < size)
  pub usage : is_command words ≡ true → given ≢ status.Usage
  pub read : given ≢ status.ReadFault
  pub due : given ≢ status.Memory → IsHandedOut words job after given size
  pub done : given ≡ status.Done → (kept : Option MachineView) × IsDoneBy exchanged (command words) job kept (Some []) (Some (take size after))
  pub short : given ≡ status.WriteFault → length before < size
  pub room : (due : List ℕ) → IsDueFor exchanged words job due → length due ≤ length before → given ≢ status.WriteFault
  pub short_writes : given ≡ status.WriteFault → after ≡ before
  pub memory : given ≡ status.Memory → (size ≡ 0) × (after ≡ before)
  pub beyond : drop size after ≡ drop size before
