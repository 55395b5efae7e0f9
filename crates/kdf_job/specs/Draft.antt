-- What the lines so far tell of a job, and what is wrong with a line after them.
use Rattle.std.specs.Prelude.{ℕ, ◌+◌, ◌%◌, ◌==◌, ◌&&◌, not, nat_le, nat_lt, Bool, true, false, List, [], ◌∷◌, ◌++◌, length, map, fold, sum_by, Option, Some}
use Rattle.std.specs.Prelude.{None, is_none, if◌then◌else◌}
use Rattle.std.specs.List.{list_any, flat_map}
use Rattle.std.specs.Option.{option_map, option_to_list}
use Rattle.kdf_text.specs.declared.lines.TheConstants.{LINE_END}
use Rattle.kdf_journal.specs.declared.kind.Kind.{Kind}
use Rattle.kdf_journal.specs.declared.kind.Kind.TheVariants.{Tp, Lp, Mt}
use Rattle.kdf_schedule.specs.declared.event.Event.{Event}
use Rattle.kdf_schedule.specs.declared.event.Event.TheVariants.{Orders, Clock}
use Rattle.kdf_schedule.specs.Calls.{order_count}
use Rattle.kdf_job.specs.declared.line_place.LinePlace.{LinePlace}
use Rattle.kdf_job.specs.declared.line_place.LinePlace.TheVariants.{First, BehindSlot}
use Rattle.kdf_job.specs.declared.fault.JobFault.{JobFault}
use Rattle.kdf_job.specs.declared.fault.JobFault.TheVariants.{SlotOrder, SizeNotGroups, StoreFull, DeviceTwice, BadLabel, LabelTwice, BadMedium, ShowRange}
use Rattle.kdf_job.specs.declared.fault.JobFault.TheVariants.{ClockFalls, TooManyOrders, TooManyEvents, PoolKind}
use Rattle.kdf_job.specs.Forms.{Form, ASlot, AStore, AService, ADeckLine, ADevice, AMedium, AShow, APoolDevice, AnEvent, next_place}
use Rattle.kdf_job.specs.Job.{JobDevice, ShownSlot, ShownJob}
use Rattle.kdf_job.specs.Limits.{group, most_words_together, most_orders, most_events}
use Rattle.kdf_job.specs.Media.{is_label, word_of_text, new_device, with_medium}

-- the slot that is being read: the device whose medium may go on stands after the others, and it has the labels
-- of its tapes
pub record ShownSlotDraft : Type 0 where
  pub p : ℕ
  pub size : ℕ
  pub deck : List ℕ
  pub devices : List JobDevice
  pub device : Option JobDevice
  pub labels : List ℕ
  pub shows : List (ℕ × ℕ)
  pub served : Bool

-- what the lines so far tell, and where the next line stands
pub record ShownDraft : Type 0 where
  pub place : LinePlace
  pub slots : List ShownSlot
  pub slot : Option ShownSlotDraft
  pub pool : List (ℕ × Kind)
  pub events : List Event

abbrev pub blank : ShownDraft
blank = record { place = First; slots = []; slot = None; pool = []; events = [] }

-- a slot of which the number and the size are known
abbrev pub new_slot : ℕ → ℕ → ShownSlotDraft
new_slot p n =
    record {
      p = p;
      size = n;
      deck = [];
      devices = [];
      device = None;
      labels = [];
      shows = [];
      served = false;
    }

abbrev pub all_devices : ShownSlotDraft → List JobDevice
all_devices s = s.devices ++ option_to_list s.device

abbrev pub slot_of : ShownSlotDraft → ShownSlot
slot_of s =
    record {
      p = s.p;
      size = s.size;
      deck = s.deck;
      devices = all_devices s;
      shows = s.shows;
      pool = [];
      served = s.served;
    }

-- all slots so far
abbrev pub slots_told : ShownDraft → List ShownSlot
slots_told d = d.slots ++ option_to_list (option_map slot_of d.slot)

-- ---- what a line tells

-- the number of the slot that was begun by the line before
abbrev pub number_at : LinePlace → ℕ
number_at (BehindSlot p) = p
number_at _ = 0

abbrev pub labels_with : Kind → ℕ → List ℕ → List ℕ
labels_with Mt label labels = labels ++ label ∷ []
labels_with _ label labels = labels

-- the device with a medium line more; none where there is no device, or the line is no medium of it
abbrev pub with_line_of_medium : Bool → List ℕ → Option JobDevice → Option JobDevice
with_line_of_medium marked text None = None
with_line_of_medium marked text (Some x) = with_medium marked text x

-- of the slot in which the line stands
abbrev pub tells : Form → ShownSlotDraft → ShownSlotDraft
tells AService s = record s { served = true }
tells (ADeckLine text) s = record s { deck = s.deck ++ text ++ LINE_END ∷ [] }
tells (ADevice d kind label) s =
    record s {
      devices = all_devices s;
      device = Some (new_device d kind (word_of_text label));
      labels = labels_with kind (word_of_text label) s.labels;
    }
tells (AMedium marked text) s = record s { device = with_line_of_medium marked text s.device }
tells (AShow a b) s = record s { shows = s.shows ++ (a, b) ∷ [] }
tells _ s = s

abbrev pub slots_with : Form → ShownDraft → List ShownSlot
slots_with (AStore n) d = slots_told d
slots_with _ d = d.slots

abbrev pub slot_with : Form → ShownDraft → Option ShownSlotDraft
slot_with (AStore n) d = Some (new_slot (number_at d.place) n)
slot_with form d = option_map (tells form) d.slot

abbrev pub pool_with : Form → List (ℕ × Kind) → List (ℕ × Kind)
pool_with (APoolDevice n kind label) pool = pool ++ (n, kind) ∷ []
pool_with _ pool = pool

abbrev pub events_with : Form → List Event → List Event
events_with (AnEvent what) events = events ++ what ∷ []
events_with _ events = events

-- the draft with a line more
abbrev pub with_line : Form → ShownDraft → ShownDraft
with_line form d =
    record {
      place = next_place form;
      slots = slots_with form d;
      slot = slot_with form d;
      pool = pool_with form d.pool;
      events = events_with form d.events;
    }

-- a slot that knows the pool of its job
abbrev pub with_pool : List (ℕ × Kind) → ShownSlot → ShownSlot
with_pool pool s = record s { pool = pool }

-- the job that the lines tell
abbrev pub job_of : ShownDraft → ShownJob
job_of d =
    record {
      slots = map (with_pool d.pool) (slots_told d);
      events = d.events;
      pool = d.pool;
    }

-- ---- what is wrong with a line

-- the numbers of the devices of slots, and of a pool
abbrev pub numbers_of : List ShownSlot → List ℕ
numbers_of slots = map (λ (x : JobDevice). x.d) (flat_map (λ (s : ShownSlot). s.devices) slots)

abbrev pub pool_numbers : List (ℕ × Kind) → List ℕ
pool_numbers pool = map (λ (x : ℕ × Kind). x.0) pool

-- the numbers of all devices so far
abbrev pub numbers_told : ShownDraft → List ℕ
numbers_told d = numbers_of (slots_told d) ++ pool_numbers d.pool

-- the words of all stores so far
abbrev pub words_in : List ShownSlot → ℕ
words_in slots = sum_by (λ (s : ShownSlot). s.size) slots

-- the number is above that of the slot before
abbrev pub slot_fault : ℕ → Option ShownSlotDraft → Option JobFault
slot_fault p None = None
slot_fault p (Some s) = if nat_lt s.p p then None else Some SlotOrder

abbrev pub store_fault : ℕ → List ShownSlot → Option JobFault
store_fault n slots =
    if not (n % group == 0) then Some SizeNotGroups
    else (if nat_lt most_words_together (words_in slots + n) then Some StoreFull
    else None)

abbrev pub labels_so_far : Option ShownSlotDraft → List ℕ
labels_so_far None = []
labels_so_far (Some s) = s.labels

abbrev pub tape_fault : List ℕ → List ℕ → Option JobFault
tape_fault label labels =
    if not (is_label label) then Some BadLabel
    else (if list_any (λ other. word_of_text label == other) labels then Some LabelTwice
    else None)

abbrev pub label_fault : Kind → List ℕ → List ℕ → Option JobFault
label_fault Mt label labels = tape_fault label labels
label_fault _ label labels = None

abbrev pub device_fault : ℕ → Kind → List ℕ → ShownDraft → Option JobFault
device_fault n kind label d =
    if list_any (λ other. n == other) (numbers_told d) then Some DeviceTwice
    else label_fault kind label (labels_so_far d.slot)

-- a punch or a printer
abbrev pub is_writer : Kind → Bool
is_writer Tp = true
is_writer Lp = true
is_writer _ = false

-- what is wrong with lending out a device that is neither; labels are told apart within a slot alone, and the pool is in none
abbrev pub no_writer_fault : Kind → List ℕ → JobFault
no_writer_fault Mt label = if is_label label then PoolKind else BadLabel
no_writer_fault _ label = PoolKind

-- what is wrong with lending out a device
abbrev pub lent_fault : Kind → List ℕ → Option JobFault
lent_fault kind label = if is_writer kind then None else Some (no_writer_fault kind label)

abbrev pub pool_fault : ℕ → Kind → List ℕ → ShownDraft → Option JobFault
pool_fault n kind label d =
    if list_any (λ other. n == other) (numbers_told d) then Some DeviceTwice
    else lent_fault kind label

abbrev pub device_so_far : Option ShownSlotDraft → Option JobDevice
device_so_far None = None
device_so_far (Some s) = s.device

abbrev pub medium_fault : Bool → List ℕ → Option ShownSlotDraft → Option JobFault
medium_fault marked text slot =
    if is_none (with_line_of_medium marked text (device_so_far slot)) then Some BadMedium else None

abbrev pub size_so_far : Option ShownSlotDraft → ℕ
size_so_far None = 0
size_so_far (Some s) = s.size

abbrev pub show_fault : ℕ → ℕ → ℕ → Option JobFault
show_fault a b size = if nat_le a b && nat_lt b size then None else Some ShowRange

-- the time that was set last, or 0
abbrev pub clock_behind : ℕ → Event → ℕ
clock_behind t (Clock u) = u
clock_behind t _ = t

abbrev pub clock_of : List Event → ℕ
clock_of events = fold clock_behind 0 events

abbrev pub count_fault : List Event → Option JobFault
count_fault events = if nat_lt (length events) most_events then None else Some TooManyEvents

abbrev pub event_fault : Event → List Event → Option JobFault
event_fault (Clock t) events =
    if nat_lt t (clock_of events) then Some ClockFalls else count_fault events
event_fault (Orders n) events =
    if nat_lt most_orders (order_count events + n) then Some TooManyOrders else count_fault events
event_fault _ events = count_fault events

-- what is wrong with a line of this form after the lines of a draft: the least of its faults
abbrev pub fault_of : Form → ShownDraft → Option JobFault
fault_of (ASlot p) d = slot_fault p d.slot
fault_of (AStore n) d = store_fault n (slots_told d)
fault_of (ADevice n kind label) d = device_fault n kind label d
fault_of (APoolDevice n kind label) d = pool_fault n kind label d
fault_of (AMedium marked text) d = medium_fault marked text d.slot
fault_of (AShow a b) d = show_fault a b (size_so_far d.slot)
fault_of (AnEvent what) d = event_fault what d.events
fault_of _ d = None
