-- The state of a program by itself.
use Rattle.std.specs.Prelude.{ℕ, ◌-◌, List, [], ◌++◌, Bool, false, Option, Some, None, is_some, length, map, replicate, slice_index, slice_index_or, unwrap_or}
use Rattle.kdf_qstore.specs.Triples.{zero_triples}
use Rattle.kdf_journal.specs.declared.kind.Kind.{Kind}
use Rattle.kdf_journal.specs.declared.kind.Kind.TheVariants.{Tp}
use Rattle.kdf_transfer.specs.Devices.{Fixture, DeviceProgress, blank_fixture, new_progress}
use Rattle.kdf_transfer.specs.Slots.{Slot}
use Rattle.kdf_processor.specs.declared.registers.Life.TheVariants.{Live}
use Rattle.kdf_processor.specs.declared.registers.Registers.{Registers}
use Rattle.kdf_processor.specs.declared.spooled.Spooled.{Spooled}

-- devices have numbers below this
abbrev pub device_limit : ℕ
device_limit = 16

-- what an order is checked against, and no transfer hides: the size of the store, by number the program's own
-- devices, the kinds of those in the pool, and which of both are claimed, and whether a service answers the program
pub record Claims : Type 0 where
  pub size : ℕ
  pub claimed : List Bool
  pub fixtures : List (Option Fixture)
  pub pool : List (Option Kind)
  pub served : Bool

-- a stint: that a device of the pool was taken. Until it is given back, the device of its number tells how far it has come;
-- then the stint keeps that
pub record StintState : Type 0 where
  pub device : ℕ
  pub left : Option DeviceProgress

-- what a program has beside its registers: that; what it spooled; how many answers it took; its stints, in the order in which the devices were taken; its
-- words; and by number how far each device has come
pub record Stock : Type 0 where
  pub claims : Claims
  pub spooled : List Spooled
  -- how many answers it took
  pub asked : ℕ
  -- its stints, in the order in which the devices were taken
  pub stints : List StintState
  -- what a transfer may hide: the words, and by number how far each device has come
  pub store : List ℕ
  pub devices : List DeviceProgress

-- a program by itself
pub record State : Type 0 where
  pub registers : Registers
  pub stock : Stock

-- the word at an address
abbrev pub word_in : Stock → ℕ → ℕ
word_in k a = slice_index k.store a

abbrev pub word_at : State → ℕ → ℕ
word_at s a = word_in s.stock a

-- how far a device has come
abbrev pub device_in : Stock → ℕ → DeviceProgress
device_in k d = slice_index_or k.devices d new_progress

abbrev pub device_at : State → ℕ → DeviceProgress
device_at s d = device_in s.stock d

-- what a device of the program's own is, where it has one of this number
abbrev pub own_fixture_at : Claims → ℕ → Option Fixture
own_fixture_at c d = slice_index_or c.fixtures d None

-- the kind of a device of the pool, where it has one of this number
abbrev pub pool_kind_at : Claims → ℕ → Option Kind
pool_kind_at c d = slice_index_or c.pool d None

abbrev pub is_pooled : Claims → ℕ → Bool
is_pooled c d = is_some (pool_kind_at c d)

-- a device of the pool, or else this one
abbrev pub pooled_or : Option Kind → Option Fixture → Option Fixture
pooled_or (Some kind) own = Some (blank_fixture kind)
pooled_or None own = own

-- what a device is, where the program or the pool has one of this number; no number is both's
abbrev pub fixture_at : Claims → ℕ → Option Fixture
fixture_at c d = pooled_or (pool_kind_at c d) (own_fixture_at c d)

-- a stint as it is seen: the number and the kind of its device, how far that has come, and whether it was given back
pub record Lending : Type 0 where
  pub device : ℕ
  pub kind : Kind
  pub progress : DeviceProgress
  pub given : Bool

abbrev pub lending_of : Stock → StintState → Lending
lending_of k x =
    record {
      device = x.device;
      kind = unwrap_or (pool_kind_at k.claims x.device) Tp;
      progress = unwrap_or x.left (device_in k x.device);
      given = is_some x.left;
    }

-- the stints of a program, in the order in which the devices were taken
unfoldable pub lendings : Stock → List Lending
lendings k = map (lending_of k) k.stints

-- a live program that has obeyed no order: its next is at syllable 0 of word 0
abbrev pub new_registers : Registers
new_registers =
    record {
      nest = [];
      links = [];
      q = zero_triples;
      flags = record { v = false; tr = false };
      at = 0;
      ran = 0;
      state = Live;
    }

-- the image in a store of so many words, with zeros after
abbrev pub filled : ℕ → List ℕ → List ℕ
filled size image = image ++ replicate (size - length image) 0

-- no device is claimed
unfoldable pub unclaimed : List Bool
unclaimed = replicate device_limit false

-- what a program has at first: its store, with the image at its front, and its devices and those of the pool, none of them
-- claimed
abbrev pub stocked : Slot → Stock
stocked s =
    record {
      claims = record {
        size = s.size;
        claimed = unclaimed;
        fixtures = s.fixtures;
        pool = s.pool;
        served = s.served;
      };
      spooled = [];
      asked = 0;
      stints = [];
      store = filled s.size s.words;
      devices = s.devices;
    }

-- the program of a slot at its start
abbrev pub begin : Slot → State
begin s = record { registers = new_registers; stock = stocked s }
