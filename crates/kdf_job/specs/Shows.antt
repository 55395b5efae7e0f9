-- What the types of the code show: the definitions' records.
use Rattle.std.specs.Prelude.{ℕ, List, [], map, Option, Some, None, Result, Ok}
use Rattle.kdf_job.specs.declared.fault.JobFault.{JobFault}
use Rattle.kdf_job.specs.declared.forms.DeviceLine.{DeviceLine}
use Rattle.kdf_job.specs.declared.forms.MediumLine.{MediumLine}
use Rattle.kdf_job.specs.Forms.{ADevice, AMedium, Told, told}
use Rattle.std.specs.Option.{option_map}
use Rattle.kdf_transfer.specs.declared.device.Device.{Device}
use Rattle.kdf_transfer.specs.Devices.{Fixture, fixture_of, progress_of}
use Rattle.kdf_tape.specs.Tape.{Recorded}
use Rattle.kdf_journal.specs.declared.kind.Kind.TheVariants as kind
use Rattle.kdf_job.specs.declared.device_draft.Medium.{Medium}
use Rattle.kdf_job.specs.declared.device_draft.Medium.TheVariants as medium
use Rattle.kdf_job.specs.declared.device_draft.DeviceDraft.{DeviceDraft}
use Rattle.kdf_job.specs.declared.slot_draft.SlotDraft.{SlotDraft}
use Rattle.kdf_job.specs.declared.draft.Draft.{Draft}
use Rattle.kdf_job.specs.Draft.{ShownSlotDraft, ShownDraft}
use Rattle.kdf_job.specs.Media.{at_start}
use Rattle.kdf_job.specs.declared.job.Job.{Job}
use Rattle.kdf_job.specs.declared.job.SlotJob.{SlotJob}
use Rattle.kdf_job.specs.Job.{JobDevice, ShownSlot, ShownJob}

abbrev pub shown_device : ℕ × Device → JobDevice
shown_device x = record { d = x.0; fixture = fixture_of x.1; progress = progress_of x.1 }

-- a device whose medium is being read
abbrev pub fixture_in : Medium → Fixture
fixture_in (medium.Tr paper) =
    record { kind = kind.Tr; label = 0; codes = paper.codes.items; cards = [] }
fixture_in medium.Tp = record { kind = kind.Tp; label = 0; codes = []; cards = [] }
fixture_in (medium.Cr stack) =
    record { kind = kind.Cr; label = 0; codes = []; cards = stack.cards }
fixture_in medium.Lp = record { kind = kind.Lp; label = 0; codes = []; cards = [] }
fixture_in (medium.Mt label tape) =
    record { kind = kind.Mt; label = label; codes = []; cards = [] }

abbrev pub blocks_in : Medium → List Recorded
blocks_in (medium.Mt label tape) = tape.blocks.items
blocks_in _ = []

abbrev pub shown_device_draft : DeviceDraft → JobDevice
shown_device_draft x =
    record { d = x.d; fixture = fixture_in x.medium; progress = at_start (blocks_in x.medium) }

-- a slot that is being read
abbrev pub shown_slot_draft : SlotDraft → ShownSlotDraft
shown_slot_draft s =
    record {
      p = s.p;
      size = s.size;
      deck = s.deck.items;
      devices = map shown_device s.devices.items;
      device = option_map shown_device_draft s.device;
      labels = s.labels.items;
      shows = s.shows.items;
      served = s.served;
    }

abbrev pub shown_slot : SlotJob → ShownSlot
shown_slot s =
    record {
      p = s.p;
      size = s.size;
      deck = s.deck.items;
      devices = map shown_device s.devices.items;
      shows = s.shows.items;
      pool = s.pool.items;
      served = s.served;
    }

abbrev pub shown_job : Job → ShownJob
shown_job j =
    record {
      slots = map shown_slot j.slots.items;
      events = j.events.items;
      pool = j.pool.items;
    }

-- what a line of a device tells
abbrev pub told_device : Option (Result DeviceLine JobFault) → Told
told_device line = told (λ (x : DeviceLine). ADevice x.d x.kind x.label.now) line

-- what a line of a medium tells
abbrev pub told_line : Option MediumLine → Told
told_line None = None
told_line (Some x) = Some (Ok (AMedium x.marked x.text.now))

-- what the lines so far tell
abbrev pub shown_draft : Draft → ShownDraft
shown_draft d =
    record {
      place = d.place;
      slots = map shown_slot d.slots.items;
      slot = option_map shown_slot_draft d.slot;
      pool = d.pool.items;
      events = d.schedule.events.items;
    }
