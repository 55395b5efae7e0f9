-- The lines of a program's devices and of its stints, each without the byte that ends it.
use Rattle.std.specs.Prelude.{ℕ, ◌==◌, not, List, [], ◌∷◌, ◌++◌, map, Bool, if◌then◌else◌, Option, Some, None, codes, decimal}
use Rattle.std.specs.List.{filter, list_any, range_with_len}
use Rattle.kdf_word.specs.Characters.{codes_of_all}
use Rattle.kdf_code.specs.Code.{host_of}
use Rattle.kdf_journal.specs.Kinds.{kind_name}
use Rattle.kdf_journal.specs.declared.kind.Kind.{Kind}
use Rattle.kdf_journal.specs.declared.kind.Kind.TheVariants.{Tr, Tp, Cr, Lp, Mt}
use Rattle.kdf_tape.specs.Tape.{Recorded}
use Rattle.kdf_transfer.specs.Devices.{Fixture, DeviceProgress}
use Rattle.kdf_processor.specs.Claims.{is_claimed}
use Rattle.kdf_processor.specs.State.{Lending, State, device_at, device_limit, own_fixture_at}
use Rattle.kdf_job.specs.Job.{JobDevice, ShownSlot}

-- characters, as the host has them
abbrev pub host_text : List ℕ → List ℕ
host_text characters = map host_of characters

abbrev pub bit : Bool → List ℕ
bit b = if b then codes "1" else codes "0"

-- whether the program holds the device
abbrev pub holding : Bool → List ℕ
holding held = if held then codes "HELD" else codes "FREE"

-- after a word that says whose it is: its number and kind, whether it is held, how far it has come, and its flag
abbrev pub device_line : List ℕ → ℕ → Bool → Kind → DeviceProgress → List ℕ
device_line word d held kind x =
    word ++ codes " " ++ decimal d ++ codes " " ++ kind_name kind ++ codes " " ++ holding held
    ++ codes " PLACE " ++ decimal x.place ++ codes " FLAG " ++ bit x.flag

-- a finished block of a punch or a printer
abbrev pub block_line : List ℕ → List ℕ
block_line characters = codes "BLOCK " ++ host_text characters

-- a block of a tape, which is named LAST where it has its mark
abbrev pub block_name : Bool → List ℕ
block_name mark = if mark then codes "LAST" else codes "BLOCK"

abbrev pub tape_line : Recorded → List ℕ
tape_line block = block_name block.mark ++ codes " " ++ host_text (codes_of_all block.words)

-- the blocks of a device; readers have none
abbrev pub block_lines : Kind → DeviceProgress → List (List ℕ)
block_lines Tr x = []
block_lines Tp x = map block_line x.blocks
block_lines Cr x = []
block_lines Lp x = map block_line x.blocks
block_lines Mt x = map tape_line x.recorded

-- a device, and its blocks
abbrev pub described : List ℕ → ℕ → Bool → Kind → DeviceProgress → List (List ℕ)
described word d held kind x = device_line word d held kind x ∷ block_lines kind x

-- a device of the program's own that is such; it is held where it is claimed
abbrev pub own_lines : ℕ → Bool → Option Fixture → DeviceProgress → List (List ℕ)
own_lines d claimed None x = []
own_lines d claimed (Some f) x = described (codes "DEVICE") d claimed f.kind x

-- device d of a program's own; nothing where it has none of this number
unfoldable pub device_lines : State → ℕ → List (List ℕ)
device_lines s d =
    own_lines d (is_claimed s.stock.claims d) (own_fixture_at s.stock.claims d) (device_at s d)

-- a stint: its device is held until it is given back
abbrev pub stint_lines : Lending → List (List ℕ)
stint_lines x = described (codes "POOL") x.device (not x.given) x.kind x.progress

-- the slot has a device of this number
abbrev pub has_device : ShownSlot → ℕ → Bool
has_device slot d = list_any (λ (x : JobDevice). x.d == d) slot.devices

-- the numbers of the slot's devices, rising, in whatever order their lines stand
unfoldable pub device_numbers : ShownSlot → List ℕ
device_numbers slot = filter (has_device slot) (range_with_len 0 device_limit)
