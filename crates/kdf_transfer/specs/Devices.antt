-- A device as what it is, and how far it has come.
use Rattle.std.specs.Prelude.{ℕ, ◌&&◌, ◌==◌, Bool, true, false, List, [], length, Option, Some, None}
use Rattle.std.specs.Option.{option_map}
use Rattle.kdf_journal.specs.declared.kind.Kind.{Kind}
use Rattle.kdf_journal.specs.declared.kind.Kind.TheVariants as kind
use Rattle.kdf_media.specs.Media.{ReaderState, CardsState, BlocksState}
use Rattle.kdf_tape.specs.Tape.{Recorded, TapeState}
use Rattle.kdf_transfer.specs.declared.device.Device.{Device}
use Rattle.kdf_transfer.specs.declared.device.Device.TheVariants.{Tr, Tp, Cr, Lp, Mt}
use Rattle.kdf_transfer.specs.declared.test.Test.{Test}
use Rattle.kdf_transfer.specs.declared.test.Test.TheVariants.{Flag, Start, Mark}
use Rattle.kdf_transfer.specs.declared.wanted.Wanted.{Wanted}
use Rattle.kdf_transfer.specs.declared.wanted.Wanted.TheVariants.{Kinded, Labelled}

-- what a device is, which no order changes: its kind, a tape's label, a reader's characters and the characters of cards
pub record Fixture : Type 0 where
  pub kind : Kind
  pub label : ℕ
  pub codes : List ℕ
  pub cards : List (List ℕ)

-- how far a device has come: the characters of its finished blocks, or the blocks of its tape
pub record DeviceProgress : Type 0 where
  pub place : ℕ
  pub flag : Bool
  pub mark : Bool
  pub blocks : List (List ℕ)
  pub recorded : List Recorded

-- a device that has moved nothing
abbrev pub new_progress : DeviceProgress
new_progress = record { place = 0; flag = false; mark = false; blocks = []; recorded = [] }

-- what a device of a kind is that has no medium and no label
abbrev pub blank_fixture : Kind → Fixture
blank_fixture kind = record { kind = kind; label = 0; codes = []; cards = [] }

-- devices of each kind
abbrev pub reader : ReaderState → Device
reader r = Tr r

abbrev pub punch : BlocksState → Device
punch d = Tp d

abbrev pub cards : CardsState → Device
cards c = Cr c

abbrev pub printer : BlocksState → Device
printer d = Lp d

abbrev pub tape : TapeState → Device
tape t = Mt t

abbrev pub fixture_of : Device → Fixture
fixture_of (Tr r) = record { kind = kind.Tr; label = 0; codes = r.codes; cards = [] }
fixture_of (Tp d) = record { kind = kind.Tp; label = 0; codes = []; cards = [] }
fixture_of (Cr c) = record { kind = kind.Cr; label = 0; codes = []; cards = c.cards }
fixture_of (Lp d) = record { kind = kind.Lp; label = 0; codes = []; cards = [] }
fixture_of (Mt t) = record { kind = kind.Mt; label = t.label; codes = []; cards = [] }

abbrev pub progress_of : Device → DeviceProgress
progress_of (Tr r) = record { place = r.place; flag = r.flag; mark = false; blocks = []; recorded = [] }
progress_of (Tp d) = record { place = length d.blocks; flag = false; mark = false; blocks = d.blocks; recorded = [] }
progress_of (Cr c) = record { place = c.place; flag = c.flag; mark = false; blocks = []; recorded = [] }
progress_of (Lp d) = record { place = length d.blocks; flag = false; mark = false; blocks = d.blocks; recorded = [] }
progress_of (Mt t) = record { place = t.place; flag = t.flag; mark = t.mark; blocks = []; recorded = t.blocks }

-- for how many blocks more it has memory; a device that keeps none always has some
abbrev pub room_of : Device → ℕ
room_of (Tr r) = 1
room_of (Tp d) = d.room
room_of (Cr c) = 1
room_of (Lp d) = d.room
room_of (Mt t) = t.room

-- the kind of a device, where there is one
abbrev pub kind_in : Option Fixture → Option Kind
kind_in fixture = option_map (λ (f : Fixture). f.kind) fixture

-- two kinds are the same
abbrev pub same_kind : Kind → Kind → Bool
same_kind kind.Tr kind.Tr = true
same_kind kind.Tp kind.Tp = true
same_kind kind.Cr kind.Cr = true
same_kind kind.Lp kind.Lp = true
same_kind kind.Mt kind.Mt = true
same_kind _ _ = false

-- there is a kind, and it is this one
abbrev pub is_kind : Kind → Option Kind → Bool
is_kind wanted None = false
is_kind wanted (Some kind) = same_kind wanted kind

-- there is a device, and it is a tape with this label
abbrev pub has_label : ℕ → Option Fixture → Bool
has_label label None = false
has_label label (Some f) = is_kind kind.Mt (Some f.kind) && f.label == label

-- there is a device, and it is what a claim wants
abbrev pub is_wanted : Wanted → Option Fixture → Bool
is_wanted (Kinded k) fixture = is_kind k (kind_in fixture)
is_wanted (Labelled label) fixture = has_label label fixture

-- a device's flag, whether it stands at its start, and its mark
abbrev pub test_of : Test → DeviceProgress → Bool
test_of Flag p = p.flag
test_of Start p = p.place == 0
test_of Mark p = p.mark
