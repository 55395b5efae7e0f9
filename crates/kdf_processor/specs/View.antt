-- What a port shows of one program.
use Rattle.std.specs.Prelude.{ℕ, ◌+◌, ◌-◌, ◌/◌, Bool, false, Option, Some, None, List, [], ◌∷◌, find, if◌then◌else◌}
use Rattle.std.specs.List.{range_with_len}
use Rattle.kdf_journal.specs.declared.kind.Kind.{Kind}
use Rattle.kdf_transfer.specs.AtOnce.{has_area}
use Rattle.kdf_transfer.specs.Devices.{test_of}
use Rattle.kdf_transfer.specs.declared.order.TransferOrder.{TransferOrder}
use Rattle.kdf_journal.specs.declared.need.Need.{Need}
use Rattle.kdf_journal.specs.declared.need.Need.TheVariants.{Group, Device, Pool}
use Rattle.kdf_transfer.specs.declared.test.Test.{Test}
use Rattle.kdf_processor.specs.State.{Claims, Stock, word_in, device_in}
use Rattle.kdf_processor.specs.Effect.{Question}

-- what a program has, and what of it is out of its reach: its claims, its words, what a test of a device tells, what an order that asks is answered, which
-- groups are locked out, which devices are busy, of which kinds every device in the pool has a holder, and on which devices it has a transfer itself
pub record View : Type 0 where
  pub claims : Claims
  -- the word at an address, also where its group is out
  pub word : ℕ → ℕ
  -- what a test of a device tells
  pub test : ℕ → Test → Bool
  -- what an order that asks is answered
  pub answer : Question → ℕ
  -- a group is locked out
  pub is_out : ℕ → Bool
  -- a device has a transfer
  pub is_busy : ℕ → Bool
  -- every device of a kind in the pool has a holder
  pub is_taken : Kind → Bool
  -- the devices on which the program has a transfer, rising
  pub mine : List ℕ

-- the groups that an area touches, rising
abbrev pub groups_of : ℕ → ℕ → List ℕ
groups_of first last = range_with_len (first / 32) (last / 32 + 1 - first / 32)

-- the groups that the area of an order touches, where it has one
abbrev pub order_groups : TransferOrder → ℕ → ℕ → List ℕ
order_groups o first last = if has_area o then groups_of first last else []

-- a need is pending
abbrev pub is_pending : View → Need → Bool
is_pending v (Group g) = v.is_out g
is_pending v (Device d) = v.is_busy d
is_pending v (Pool kind) = v.is_taken kind

-- the first need of a list that is pending
abbrev pub first_pending : View → List Need → Option Need
first_pending v ns = find (is_pending v) ns

-- the first of some numbers
abbrev pub head : List ℕ → Option ℕ
head [] = None
head (n ∷ ns) = Some n

-- a program by itself, which is answered so: nothing is out, busy or taken
abbrev pub by_itself : (Question → ℕ) → Stock → View
by_itself answer k =
    record {
      claims = k.claims;
      word = word_in k;
      test = λ d what. test_of what (device_in k d);
      answer = answer;
      is_out = λ _. false;
      is_busy = λ _. false;
      is_taken = λ _. false;
      mine = [];
    }
