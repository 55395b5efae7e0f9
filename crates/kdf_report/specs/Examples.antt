-- What the examples are computed of.
use Rattle.std.specs.Prelude.{ℕ, Bool, true, false, List, [], ◌∷◌, None, Some}
use Rattle.kdf_journal.specs.declared.kind.Kind.{Kind}
use Rattle.kdf_journal.specs.declared.kind.Kind.TheVariants.{Tr, Tp, Cr, Lp, Mt}
use Rattle.kdf_tape.specs.Tape.{Recorded}
use Rattle.kdf_transfer.specs.Devices.{Fixture, DeviceProgress, new_progress}
use Rattle.kdf_processor.specs.State.{State, new_registers}
use Rattle.kdf_job.specs.Job.{JobDevice, ShownSlot}

-- a device of a kind
abbrev pub of_kind : Kind → Fixture
of_kind kind = record { kind = kind; label = 0; codes = []; cards = [] }

-- a device that has come so far
abbrev pub come : ℕ → Bool → DeviceProgress
come place flag = record new_progress { place = place; flag = flag }

-- a punch or a printer with these finished blocks
abbrev pub wrote : ℕ → List (List ℕ) → DeviceProgress
wrote place blocks = record new_progress { place = place; blocks = blocks }

-- a tape of two blocks, the second with its mark, with the first of them passed
abbrev pub two_blocks : List Recorded
two_blocks =
    record { words = 0o4142434445464750 ∷ []; mark = false }
    ∷ record { words = 0o2021000000000002 ∷ 0o7500000000000077 ∷ []; mark = true } ∷ []

abbrev pub on_tape : DeviceProgress
on_tape = record new_progress { place = 1; mark = false; recorded = two_blocks }

-- a slot with devices of these numbers, of which the words from the second to the third address are to be shown
abbrev pub a_device : ℕ → JobDevice
a_device d = record { d = d; fixture = of_kind Tr; progress = new_progress }

abbrev pub a_slot : ShownSlot
a_slot =
    record {
      p = 2;
      size = 4;
      deck = [];
      devices = a_device 2 ∷ a_device 0 ∷ a_device 1 ∷ [];
      shows = (2, 3) ∷ (0, 0) ∷ [];
      pool = [];
      served = false;
    }

-- its program: a tape is claimed, a card reader is not, and a punch is; another punch it took and gave back, and a printer it
-- has still
abbrev pub a_program : State
a_program =
    record {
      registers = record new_registers { at = 11; ran = 7; nest = 1 ∷ 0o7777777777777777 ∷ [] };
      stock = record {
        claims = record {
          size = 4;
          claimed = true ∷ false ∷ true ∷ false ∷ true ∷ [];
          fixtures = Some (of_kind Mt) ∷ Some (of_kind Cr) ∷ Some (of_kind Tp) ∷ [];
          pool = None ∷ None ∷ None ∷ Some Tp ∷ Some Lp ∷ [];
          served = false;
        };
        spooled = record { stream = 7; text = 33 ∷ 34 ∷ 61 ∷ [] } ∷ record { stream = 0; text = [] } ∷ [];
        asked = 0;
        stints =
            record { device = 3; left = Some (wrote 1 ((36 ∷ []) ∷ [])) } ∷ record { device = 4; left = None } ∷ [];
        store = 10 ∷ 11 ∷ 12 ∷ 13 ∷ [];
        devices =
            on_tape ∷ come 5 true ∷ wrote 1 ((35 ∷ []) ∷ []) ∷ new_progress ∷ wrote 1 ((37 ∷ []) ∷ []) ∷ [];
      };
    }
