-- Devices on which the definitions are worked, and orders over an area from place 4 on.
use Rattle.std.specs.Prelude.{ℕ, ◌+◌, Bool, false, List, [], ◌++◌, length, replicate}
use Rattle.kdf_journal.specs.declared.kind.Kind.{Kind}
use Rattle.kdf_journal.specs.declared.kind.Kind.TheVariants.{Tr, Cr, Mt}
use Rattle.kdf_media.specs.Examples.{letters}
use Rattle.kdf_tape.specs.Tape.{Recorded}
use Rattle.kdf_transfer.specs.AtOnce.{device_after, moves}
use Rattle.kdf_transfer.specs.Devices.{Fixture, DeviceProgress}
use Rattle.kdf_transfer.specs.declared.order.TransferOrder.{TransferOrder}

-- the word of eight letters A, and that of eight letters B
abbrev pub all_a : ℕ
all_a = 0o4141414141414141

abbrev pub all_b : ℕ
all_b = 0o4242424242424242

-- eight letters A and eight letters B
abbrev pub ab : List ℕ
ab = letters 8 ++ replicate 8 34

-- a paper tape of these characters
abbrev pub paper : List ℕ → Fixture
paper codes = record { kind = Tr; label = 0; codes = codes; cards = [] }

-- these cards
abbrev pub deck : List (List ℕ) → Fixture
deck cards = record { kind = Cr; label = 0; codes = []; cards = cards }

-- a card of 80 letters A, and one of eight letters A and 72 letters B
abbrev pub card_a : List ℕ
card_a = letters 80

abbrev pub card_ab : List ℕ
card_ab = letters 8 ++ replicate 72 34

-- a punch or a printer, of which nothing stays
abbrev pub writer : Kind → Fixture
writer kind = record { kind = kind; label = 0; codes = []; cards = [] }

-- a tape with label 7
abbrev pub reel : Fixture
reel = record { kind = Mt; label = 7; codes = []; cards = [] }

-- a reader or a card reader that has come to a place
abbrev pub placed : ℕ → Bool → DeviceProgress
placed place flag = record { place = place; flag = flag; mark = false; blocks = []; recorded = [] }

-- a punch or a printer with these blocks
abbrev pub having : List (List ℕ) → DeviceProgress
having blocks = record { place = length blocks; flag = false; mark = false; blocks = blocks; recorded = [] }

-- a tape at a place between these blocks, with its flag and its mark
abbrev pub winding : List Recorded → ℕ → Bool → Bool → DeviceProgress
winding recorded place flag mark =
    record { place = place; flag = flag; mark = mark; blocks = []; recorded = recorded }

-- the words that an order moved, in their sequence and each with its place, and the device after it
pub record Behind : Type 0 where
  pub moved : List (ℕ × ℕ)
  pub device : DeviceProgress

-- these words moved, and the device stands so
abbrev pub leaves : List (ℕ × ℕ) → DeviceProgress → Behind
leaves moved device = record { moved = moved; device = device }

-- an order over the places from one to another with these words
abbrev pub over : ℕ → ℕ → List ℕ → TransferOrder → Fixture → DeviceProgress → Behind
over first last words o f p =
    record { moved = moves o first last words f p; device = device_after o first last words f p }

-- an order that reads to an area of so many words
abbrev pub reads : TransferOrder → ℕ → Fixture → DeviceProgress → Behind
reads o n f p = over 4 (3 + n) [] o f p

-- an order that writes an area of these words
abbrev pub writes : TransferOrder → List ℕ → Fixture → DeviceProgress → Behind
writes o words f p = over 4 (3 + length words) words o f p

-- an order of a tape that has no area
abbrev pub winds : TransferOrder → DeviceProgress → Behind
winds o p = over 4 5 [] o reel p
