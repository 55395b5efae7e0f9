-- Programs with devices that are worked out: their decks as bytes, their media, and what is looked at of a state.
use Rattle.std.specs.Prelude.{ℕ, ◌+◌, ◌-◌, Bool, true, false, List, [], ◌∷◌, ◌++◌, codes, Some, None, replicate, slice_set, take, drop}
use Rattle.std.specs.List.{range_with_len}
use Rattle.kdf_journal.specs.declared.kind.Kind.TheVariants.{Tr, Lp, Mt}
use Rattle.kdf_tape.specs.Tape.{Recorded}
use Rattle.kdf_transfer.specs.Devices.{Fixture, DeviceProgress, new_progress}
use Rattle.kdf_place.specs.Assembled.{image_words}
use Rattle.kdf_processor.specs.declared.registers.Life.{Life}
use Rattle.kdf_processor.specs.Claims.{is_claimed}
use Rattle.kdf_processor.specs.Lone.{lone}
use Rattle.kdf_transfer.specs.Slots.{Slot}
use Rattle.kdf_processor.specs.State.{State, begin, device_at, device_limit}

-- the decks
abbrev pub reading : List ℕ
reading =
    codes "PROGRAM V0; V0=Q0/32/33; SET 2; SET 5; OUT; V0; =Q1; =C1; PRQ1; E32; ZERO; OUT; FINISH;" ++ 10 ∷ []

abbrev pub printing : List ℕ
printing =
    codes "PROGRAM V1; V0=Q0/32/62; V1=P~A|B; SET 3; SET 5; OUT; V0; =Q1; =C1; V1; =E33; LPEQ1; ZERO; OUT; FINISH;" ++ 10 ∷ []

abbrev pub writing : List ℕ
writing =
    codes "PROGRAM V1; V0=Q0/32/33; V1=PT; V1; SET 4; OUT; V0; =Q1; =C1; MFRQ1; MLWQ1; MLBQ1; ZERO; OUT; FINISH;" ++ 10 ∷ []

-- a store of this size with this image, and one device
abbrev pub with_device : ℕ → ℕ → Fixture → DeviceProgress → List ℕ → Slot
with_device size d fixture progress image =
    record {
      p = 0;
      size = size;
      words = image;
      fixtures = slice_set (replicate device_limit None) d (Some fixture);
      devices = slice_set (replicate device_limit new_progress) d progress;
      pool = [];
      served = false;
    }

-- paper tape with the letters A to P
abbrev pub with_reader : List ℕ → Slot
with_reader image =
    with_device 64 3 (record { kind = Tr; label = 0; codes = range_with_len 33 16; cards = [] }) new_progress image

-- a printer
abbrev pub with_printer : List ℕ → Slot
with_printer image =
    with_device 64 5 (record { kind = Lp; label = 0; codes = []; cards = [] }) new_progress image

-- a tape with the label T and three blocks: three words of letters A, B and C, one of D, and two of E and F with the mark
abbrev pub three_blocks : List Recorded
three_blocks =
    record { words = 0o4141414141414141 ∷ 0o4242424242424242 ∷ 0o4343434343434343 ∷ []; mark = false }
    ∷ record { words = 0o4444444444444444 ∷ []; mark = false }
    ∷ record { words = 0o4545454545454545 ∷ 0o4646464646464646 ∷ []; mark = true } ∷ []

abbrev pub with_tape : List ℕ → Slot
with_tape image =
    with_device 64 6 (record { kind = Mt; label = 0o6400000000000000; codes = []; cards = [] })
    (record new_progress { recorded = three_blocks }) image

-- the programs after n orders
abbrev pub reads : ℕ → State
reads n = lone (begin (with_reader (image_words 64 reading))) [] n

abbrev pub prints : ℕ → State
prints n = lone (begin (with_printer (image_words 64 printing))) [] n

abbrev pub writes : ℕ → State
writes n = lone (begin (with_tape (image_words 64 writing))) [] n

-- what is looked at: the life, the orders obeyed, the next syllable, TR, the nest, the words of an area, and a device
pub record Seen : Type 0 where
  pub life : Life
  pub ran : ℕ
  pub at : ℕ
  pub tr : Bool
  pub nest : List ℕ
  pub words : List ℕ
  pub claimed : Bool
  pub device : DeviceProgress

abbrev pub seen : ℕ → ℕ → ℕ → State → Seen
seen d first last s =
    record {
      life = s.registers.state;
      ran = s.registers.ran;
      at = s.registers.at;
      tr = s.registers.flags.tr;
      nest = s.registers.nest;
      words = take (last + 1 - first) (drop first s.stock.store);
      claimed = is_claimed s.stock.claims d;
      device = device_at s d;
    }
