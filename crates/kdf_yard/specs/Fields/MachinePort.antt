-- What a machine port shows, and what an acting call does to it.
use Rattle.std.specs.Prelude.{◌≡◌, ◌+◌, ◌-◌, ◌*◌, ◌<◌, ◌≤◌, [], true, ℕ, Option, map, slice_index_or, vec_len}
use Rattle.std.specs.Vec.{vec_capacity}
use Rattle.kdf_transfer.specs.AtOnce.{is_output}
use Rattle.kdf_transfer.specs.declared.order.TransferOrder.{TransferOrder}
use Rattle.kdf_processor.specs.declared.registers.Registers.{Registers}
use Rattle.kdf_processor.specs.Effect.{Act}
use Rattle.kdf_processor.specs.Room.{RoomFor}
use Rattle.kdf_processor.specs.View.{View}
use Rattle.kdf_places.specs.declared.place.Place.TheVariants.{Absent}
use Rattle.kdf_yard.specs.declared.machine_port.MachinePort.{MachinePort}
use Rattle.kdf_theory.specs.Holders.{held_by}
use Rattle.kdf_yard.specs.Fields.Remarks.{note_after}
use Rattle.kdf_yard.specs.Fields.Parts.{Part, Reach, Seat, part_after, part_with, reach, seat}
use Rattle.kdf_places.specs.Shared.{Shared, shared_in}
use Rattle.kdf_yard.specs.Fields.Shared.{is_taken_by, setting, view, after_act}
use Rattle.kdf_yard.specs.Fields.Stints.{keeping_of}
use Rattle.kdf_places.specs.Spots.{IsReady}

abbrev pub part_of : MachinePort → Part
part_of t =
    part_with t.p t.window t.slot.now t.claimed.now t.spooled.now.items t.stints.now.items

-- what a machine port shares
abbrev pub shared : MachinePort → Shared
shared t = shared_in t.store.now t.places.now.items

-- who has the devices of the pool, as the journal tells
abbrev pub held_in : MachinePort → ℕ → Option ℕ
held_in t = held_by t.journal.now.entries

abbrev pub shown : MachinePort → View
shown t = view (part_of t) (setting (is_taken_by t.claimed.now (held_in t)) t.moment) (shared t)

-- the program, when these are its registers
abbrev pub seat_in : MachinePort → Registers → Seat
seat_in t r = seat t.p r t.claimed.now t.spooled.now.items (map keeping_of t.stints.now.items)

-- what it reaches
abbrev pub reach_in : MachinePort → Reach
reach_in t = reach t.window t.slot.now

-- it is a machine port over the same machine, at the same moment
pub record SameTurn (old new : MachinePort) : Type 0 where
  pub moment : new.moment ≡ old.moment
  pub journal : new.journal.now.entries ≡ old.journal.now.entries
  pub claimed : new.claimed.ghost_name ≡ old.claimed.ghost_name
  pub spooled : new.spooled.ghost_name ≡ old.spooled.ghost_name
  pub stints : new.stints.ghost_name ≡ old.stints.ghost_name
  pub store : new.store.ghost_name ≡ old.store.ghost_name
  pub places : new.places.ghost_name ≡ old.places.ghost_name
  pub block : new.block.ghost_name ≡ old.block.ghost_name

-- it is one of the same program, in its slot and over its window
pub record SameProgram (old new : MachinePort) : Type 0 where
  pub same : SameTurn old new
  pub p : new.p ≡ old.p
  pub reach : reach_in new ≡ reach_in old

-- an acting call does what it does to the program's part and to what is shared, and is noted
pub record Acts (old : MachinePort) (act : Act) (new : MachinePort) : Type 0 where
  pub same : SameTurn old new
  pub part : part_of new ≡ part_after (part_of old) (shared old) act
  pub shared : shared new ≡ after_act (part_of old) (shared old) act
  pub note : new.note ≡ note_after act old.note

-- nothing but its spare memory changes
pub record Stays (old new : MachinePort) : Type 0 where
  pub same : SameTurn old new
  pub part : part_of new ≡ part_of old
  pub shared : shared new ≡ shared old
  pub note : new.note ≡ old.note

-- there is memory for a transfer: for the blocks that its device gains, and for the characters of its area
pub record CanStart (t : MachinePort) (d : ℕ) (order : TransferOrder) (first last : ℕ) : Type 0 where
  pub empty : t.block.now.items ≡ []
  pub block : is_output order ≡ true → 8 * (last + 1 - first) ≤ vec_capacity t.block.now
  pub device : IsReady order (slice_index_or t.places.now.items d Absent)

-- there is memory for one text more
pub record CanSpool (t : MachinePort) (first last : ℕ) : Type 0 where
  pub empty : t.block.now.items ≡ []
  pub block : 8 * (last + 1 - first) ≤ vec_capacity t.block.now
  pub text : vec_len t.spooled.now < vec_capacity t.spooled.now

-- there is memory for one stint more
abbrev pub CanTake : MachinePort → Type 0
CanTake t = vec_len t.stints.now < vec_capacity t.stints.now

-- for what an acting call keeps; another answer needs none
abbrev pub HasRoom : MachinePort → Act → Type 0
HasRoom t act = RoomFor (CanStart t) (CanSpool t) (CanTake t) (Unit {0}) act

-- no characters are left from an order before
abbrev pub IsBlank : MachinePort → Type 0
IsBlank t = t.block.now.items ≡ []
