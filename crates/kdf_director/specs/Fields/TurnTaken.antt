-- What a call makes of the program whose turn it is.
use Rattle.std.specs.Prelude.{◌≡◌, ℕ, List, Option, slice_set, unwrap_or}
use Rattle.kdf_journal.specs.declared.entry.Entry.{Entry}
use Rattle.kdf_journal.specs.Counts.{clock}
use Rattle.kdf_journal.specs.Steps.{JournalStep, Obeys, Holds, added}
use Rattle.kdf_journal.specs.declared.need.Need.{Need}
use Rattle.kdf_processor.specs.declared.step.Step.{Step}
use Rattle.kdf_processor.specs.declared.step.Step.TheVariants as ending
use Rattle.kdf_director.specs.declared.machine.Progress.{Progress}
use Rattle.kdf_director.specs.declared.machine.Progress.TheVariants as progress
use Rattle.kdf_yard.specs.declared.remark.Remark.{Remark}
use Rattle.kdf_director.specs.Advance.{note_told}
use Rattle.kdf_yard.specs.Fields.Parts.{Reach, Seat}
use Rattle.kdf_places.specs.Shared.{Shared}
use Rattle.kdf_yard.specs.Fields.Running.{reach_at, seat_at}
use Rattle.kdf_yard.specs.Fields.Shared.{moment}
use Rattle.kdf_yard.specs.Fields.Turned.{word_over, HasTurned}
use Rattle.kdf_theory.specs.World.{hold_left}
use Rattle.kdf_theory.specs.Asked.{HasAsked}

-- the step of program p that is entered: that it was held, or that it obeyed its own order k, with the note
abbrev pub step_told : ℕ → ℕ → Step → Remark → JournalStep
step_told p k (ending.Held need) beside = Holds p need
step_told p k ended beside = Obeys p (note_told k ended beside)

-- what a call answers in which program p had its turn
abbrev pub progress_of : ℕ → Step → Progress
progress_of p (ending.Held need) = progress.Held p need
progress_of p ended = progress.Ran p

-- program i of all had its turn, at a moment at which the service was heard where its order asked it, and the journal
-- and its hold tell how that ended
pub record HasTaken (answers : ℕ → ℕ → Type 0) (reaches : List Reach) (i : ℕ) (before : List Seat) (s : Shared)
    (holds : List (Option Need)) (J : List Entry) (after : List Seat) (left : Shared) (held : List (Option Need))
    (K : List Entry) (answer : Progress) : Type 0 where
  pub heard : Option ℕ
  pub asked : HasAsked answers (word_over (seat_at before i) (reach_at reaches i) s) heard
  pub ended : Step
  pub noted : Remark
  pub turned : HasTurned reaches (moment (clock J) (unwrap_or heard 0)) i before s after left ended noted
  pub left_held : held ≡ slice_set holds i (hold_left ended)
  pub entered : K
      ≡ added J (step_told (seat_at after i).p (seat_at after i).registers.ran ended noted)
  pub answered : answer ≡ progress_of (seat_at after i).p ended
