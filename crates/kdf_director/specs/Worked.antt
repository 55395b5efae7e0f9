-- Programs with devices that are worked out under schedules.
use Rattle.std.specs.Prelude.{ℕ, List, [], ◌∷◌, Option, Some, None, false, map, replicate, slice_set}
use Rattle.std.specs.List.{range_with_len}
use Rattle.kdf_journal.specs.declared.entry.Entry.{Entry}
use Rattle.kdf_journal.specs.declared.kind.Kind.TheVariants.{Lp, Tp}
use Rattle.kdf_journal.specs.Steps.{journal_of}
use Rattle.kdf_schedule.specs.declared.event.Event.{Event}
use Rattle.kdf_schedule.specs.declared.event.Event.TheVariants.{Orders, End}
use Rattle.kdf_schedule.specs.Calls.{calls_made}
use Rattle.kdf_transfer.specs.Devices.{Fixture, DeviceProgress, new_progress}
use Rattle.kdf_transfer.specs.Examples.{having, paper, writer}
use Rattle.kdf_transfer.specs.Slots.{Slot}
use Rattle.kdf_transfer.specs.ByNumber.{device_count}
use Rattle.kdf_processor.specs.State.{Lending, device_at, lendings, word_at}
use Rattle.kdf_theory.specs.Course.{course}
use Rattle.kdf_theory.specs.ByJournal.{seen_of}

-- the journal of slots under a schedule
abbrev pub journal_under : List Slot → List Event → List Entry
journal_under slots events = journal_of (course slots 0 [] (calls_made events))

-- a slot with these devices
abbrev pub slot_with : (p size : ℕ) → List ℕ → List (Option Fixture) → Slot
slot_with p size words fixtures =
    record {
      p = p;
      size = size;
      words = words;
      fixtures = fixtures;
      devices = replicate device_count new_progress;
      pool = [];
      served = false;
    }

-- no device, and one device
abbrev pub no_devices : List (Option Fixture)
no_devices = replicate device_count None

abbrev pub one_device : ℕ → Fixture → List (Option Fixture)
one_device d f = slice_set no_devices d (Some f)

-- the letters A to P on a paper tape
abbrev pub tape : Fixture
tape = paper (range_with_len 0o41 16)

-- V0=Q0/32/33; SET 2; SET 5; OUT; V0; =Q1; =C1; PRQ1; E32; ZERO; OUT;
abbrev pub reads : Slot
reads =
    slot_with 0 64
    (0xa00002010101 ∷ 0x200021 ∷ 0xe00002e00005 ∷ 0x21c000015410 ∷ 0x55107010c000 ∷ 0x200921010101 ∷ [])
    (one_device 3 tape)

-- the same, but for E32: BUSYQ1; SET 9; OUT; INTQ1; BUSYQ1; SET 9; OUT;
abbrev pub asks : Slot
asks =
    slot_with 0 64
    (0xa00002010101 ∷ 0x200021 ∷ 0xe00002e00005 ∷ 0x21c000015410 ∷ 0x551070107e10 ∷ 0xe00009217e15
    ∷ 0x7e10e0000921 ∷ 0x092101010101 ∷ [])
    (one_device 3 tape)

-- the same, but for E32: ZERO; =E40;
abbrev pub keeps : Slot
keeps =
    slot_with 0 64
    (0xa00002010101 ∷ 0x200021 ∷ 0xe00002e00005 ∷ 0x21c000015410 ∷ 0x5510701009d0 ∷ 0x002809210101 ∷ [])
    (one_device 3 tape)

-- the same, but for E32: TLOQ1;
abbrev pub looks : Slot
looks =
    slot_with 0 64
    (0xa00002010101 ∷ 0x200021 ∷ 0xe00002e00005 ∷ 0x21c000015410 ∷ 0x551070107e11 ∷ 0x092101010101 ∷ [])
    (one_device 3 tape)

-- V0=Q0/32/32; SET 1; SET 5; OUT; V0; =Q1; =C1; PWQ1; ZERO; OUT;
abbrev pub punches : Slot
punches =
    slot_with 0 64
    (0xa00002010101 ∷ 0x200020 ∷ 0xe00001e00005 ∷ 0x21c000015410 ∷ 0x551072100921 ∷ [])
    (one_device 1 (writer Tp))

-- the same, but for ZERO; OUT: E64;
abbrev pub overruns : Slot
overruns =
    slot_with 0 64
    (0xa00002010101 ∷ 0x200020 ∷ 0xe00001e00005 ∷ 0x21c000015410 ∷ 0x55107210c000 ∷ 0x400101010101 ∷ [])
    (one_device 1 (writer Tp))

-- V0=Q0/32/32; V1=PHELLO; V1; =E32; SET 3; SET 5; OUT; V0; =Q1; =C1; LPQ1; ZERO; =E32; ZERO; OUT;
abbrev pub prints : Slot
prints =
    slot_with 0 64
    (0xa00003010101 ∷ 0x200020 ∷ 0o5045545457000000 ∷ 0xc00002d00020 ∷ 0xe00003e00005 ∷ 0x21c000015410
    ∷ 0x5510751009d0 ∷ 0x002009210101 ∷ [])
    (one_device 2 (writer Lp))

-- 1; J1;
abbrev pub loops : Slot
loops = slot_with 1 32 (0xa00001010101 ∷ 0xa00001010101 ∷ []) no_devices

-- the journal of the first of these under ORDERS 12, END 3 and ORDERS 5
abbrev pub reads_journal : List Entry
reads_journal = journal_under (reads ∷ []) (Orders 12 ∷ End 3 ∷ Orders 5 ∷ [])

-- what is seen of program 0 after a journal: words 32 and 33, and how far a device has come
abbrev pub words_seen : List Slot → List Entry → List ℕ
words_seen slots J = map (word_at (seen_of slots J 0)) (32 ∷ 33 ∷ [])

abbrev pub device_seen : List Slot → List Entry → ℕ → DeviceProgress
device_seen slots J d = device_at (seen_of slots J 0) d

-- two programs with the orders of `punches`, no devices of their own, and a pool of one punch, device 9
abbrev pub borrows : ℕ → Slot
borrows p =
    record (slot_with p 64
    (0xa00002010101 ∷ 0x200020 ∷ 0xe00001e00005 ∷ 0x21c000015410 ∷ 0x551072100921 ∷ [])
    no_devices) { pool = slice_set (replicate device_count None) 9 (Some Tp) }

abbrev pub borrowers : List Slot
borrowers = borrows 0 ∷ borrows 1 ∷ []

-- the schedule under which each has the punch in turn
abbrev pub borrowing : List Event
borrowing = Orders 20 ∷ End 9 ∷ Orders 20 ∷ End 9 ∷ Orders 5 ∷ []

-- the stints of a program that are seen after a journal
abbrev pub stints_seen : List Slot → List Entry → ℕ → List Lending
stints_seen slots J p = lendings (seen_of slots J p).stock

-- that device 9 was taken and has one block of eight spaces
abbrev pub one_stint : List Lending
one_stint = record { device = 9; kind = Tp; progress = having (replicate 8 0 ∷ []); given = false } ∷ []

-- two programs of 1; J1;
abbrev pub loops_two : List Slot
loops_two = record loops { p = 0 } ∷ loops ∷ []
