-- What a journal is judged by.
use Rattle.std.specs.Prelude.{ℕ, List, Bool, Option, find, Some, None}
use Rattle.kdf_journal.specs.declared.kind.Kind.{Kind}
use Rattle.kdf_journal.specs.declared.need.Need.{Need}
use Rattle.kdf_processor.specs.Needs.{needs}
use Rattle.kdf_processor.specs.State.{State}
use Rattle.kdf_processor.specs.declared.step.Step.{Step}
use Rattle.kdf_processor.specs.declared.step.Step.TheVariants as ending

-- the state of each program, what of it is pending, the devices on which it has a transfer, rising, and the least
-- device of a kind in the pool that no program has
pub record World : Type 0 where
  pub state : ℕ → State
  pub pending : ℕ → Need → Bool
  pub mine : ℕ → List ℕ
  pub free : ℕ → Kind → Option ℕ

-- what holds program p up: the first need of its next order that is pending
unfoldable pub first_need : World → ℕ → Option Need
first_need w p = find (w.pending p) (needs (w.state p) (w.mine p))

-- what holds a program whose turn ended so
abbrev pub hold_left : Step → Option Need
hold_left (ending.Held need) = Some need
hold_left ended = None
