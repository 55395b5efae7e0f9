-- What an order does, and what is done to a program beside its registers.
use Rattle.std.specs.Prelude.{◌≡◌, ℕ, Bool, Result, MatchResult}
use Rattle.kdf_journal.specs.declared.failure.Failure.{Failure}
use Rattle.kdf_journal.specs.declared.kind.Kind.{Kind}
use Rattle.kdf_transfer.specs.declared.order.TransferOrder.{TransferOrder}
use Rattle.kdf_processor.specs.declared.registers.Registers.{Registers}
use Rattle.kdf_transfer.specs.declared.test.Test.{Test}

-- What an order asks the machine: whether a device has a transfer, whether a group of an area is locked out, the time,
-- which device of a kind in the pool it may take, and what the installation's service answers to a word.
pub data Question : Type 0 where
  IsBusy : (device : ℕ) → Question
  IsOut : (first last : ℕ) → Question
  Time : Question
  FreeOf : (kind : Kind) → Question
  OfService : (word : ℕ) → Question

-- What an order does that reads and changes registers alone.
pub data Change : Type 0 where
  Refused : (kind : Failure) → Change
  Going : (after : Registers) → Change

-- What the condition of a jump decides: it fails, or the jump is taken or not, with these registers.
pub data Decision : Type 0 where
  Undecided : (kind : Failure) → Decision
  Decided : (jumps : Bool) (after : Registers) → Decision

-- Registers after an order that isn't counted yet.
abbrev pub IsUncounted : (old new : Registers) → Type 0
IsUncounted old new = (new.ran ≡ old.ran) × (new.state ≡ old.state)

-- A change comes out so: it went to these registers, or it was refused, and they are as they were.
abbrev pub Comes : Change → (old new : Registers) → Result (Unit {0}) Failure → Type 0
Comes change old new result =
    MatchResult result (λ _. (change ≡ Going new) × IsUncounted old new)
    (λ kind. (change ≡ Refused kind) × (new ≡ old))

-- A decision comes out so: it was made, with these registers, or it was refused, and they are as they were.
abbrev pub Decides : Decision → (old new : Registers) → Result Bool Failure → Type 0
Decides decision old new result =
    MatchResult result (λ jumps. (decision ≡ Decided jumps new) × IsUncounted old new)
    (λ kind. (decision ≡ Undecided kind) × (new ≡ old))

-- What an order does. The registers that a constructor carries are those after it, not yet counted.
-- Where they depend on a word of the store, on a device or on an answer, it carries a function.
pub data Effect : Type 0 where
  Failing : (kind : Failure) → Effect
  Ending : (after : Registers) → Effect
  Changing : (after : Registers) → Effect
  Fetching : (address : ℕ) (after : ℕ → Registers) → Effect
  -- the word that is kept, from the one that was there
  Keeping : (address : ℕ) (word : ℕ → ℕ) (after : Registers) → Effect
  Testing : (device : ℕ) (what : Test) (after : Bool → Registers) → Effect
  Starting : (device : ℕ) (order : TransferOrder) (first last : ℕ) (after : Registers) → Effect
  Asking : (question : Question) (after : ℕ → Registers) → Effect
  Claiming : (device : ℕ) (after : Registers) → Effect
  -- to the pool, or to the program's own
  Returning : (pooled : Bool) (device : ℕ) (after : Registers) → Effect
  Spooling : (stream first last : ℕ) (after : Registers) → Effect

-- such a change as an effect
abbrev pub of_change : Change → Effect
of_change (Refused kind) = Failing kind
of_change (Going after) = Changing after

-- The one thing that an order does beside changing registers.
pub data Act : Type 0 where
  Nothing : Act
  Writes : (address word : ℕ) → Act
  Starts : (device : ℕ) (order : TransferOrder) (first last : ℕ) → Act
  Asks : (question : Question) (answer : ℕ) → Act
  Acquires : (device : ℕ) → Act
  Releases : (pooled : Bool) (device : ℕ) → Act
  Spools : (stream first last : ℕ) → Act
