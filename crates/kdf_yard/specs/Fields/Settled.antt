-- What becomes of the devices that a program has from the pool when it is over.
use Rattle.std.specs.Prelude.{ℕ, ◌==◌, ◌&&◌, length, slice_index_or, slice_set, Option, Some, None, if◌then◌else◌}
use Rattle.std.proofs.Common.{zero, suc}
use Rattle.kdf_processor.specs.Lone.{is_live}
use Rattle.kdf_processor.specs.declared.step.Step.{Step}
use Rattle.kdf_processor.specs.declared.step.Step.TheVariants as step
use Rattle.kdf_yard.specs.declared.remark.Remark.{Remark}
use Rattle.kdf_yard.specs.declared.remark.Remark.TheVariants as note
use Rattle.kdf_yard.specs.Fields.Parts.{Seat}
use Rattle.kdf_places.specs.Shared.{Shared}
use Rattle.kdf_theory.specs.Holders.{is_taker}
use Rattle.kdf_places.specs.Spots.{Spot, can_leave, fixture_or, left_spot, spot_at}
use Rattle.kdf_yard.specs.Fields.Stints.{Keeping, Left, is_lent, no_keeping}

-- the stint n of a program
abbrev pub keeping_at : Seat → ℕ → Keeping
keeping_at seat n = slice_index_or seat.stints n no_keeping

-- the place of a lent device that has no transfer, once the device left it
abbrev pub leaves : Keeping → Spot → Spot
leaves x spot = if is_lent x.loan then left_spot spot else spot

-- and the program keeps it
abbrev pub kept_from : Keeping → Spot → Keeping
kept_from x spot =
    if is_lent x.loan && can_leave spot then record x { loan = Left (fixture_or spot.fixture) spot.progress } else x

-- a program and what is shared
pub record Both : Type 0 where
  pub seat : Seat
  pub shared : Shared

abbrev pub both_of : Seat → Shared → Both
both_of seat shared = record { seat = seat; shared = shared }

-- the device of stint n
abbrev pub retired_at : ℕ → Both → Both
retired_at n b =
    record {
      seat = record b.seat {
        stints = slice_set b.seat.stints n
            (kept_from (keeping_at b.seat n) (spot_at b.shared.spots (keeping_at b.seat n).device));
      };
      shared = record b.shared {
        spots = slice_set b.shared.spots (keeping_at b.seat n).device
            (leaves (keeping_at b.seat n) (spot_at b.shared.spots (keeping_at b.seat n).device));
      };
    }

-- those of the first n
abbrev pub retired : ℕ → Both → Both
retired zero b = b
retired (suc n) b = retired_at n (retired n b)

-- a program that isn't live gives up the devices that it has from the pool
abbrev pub settled : Both → Both
settled b = if is_live b.seat.registers.state then b else retired (length b.seat.stints) b

-- who has a device of the pool after the turn of program p, which ended so and of which this was noted
abbrev pub holder_noted : ℕ → Remark → ℕ → Option ℕ → Option ℕ
holder_noted p (note.Took e) d o = if e == d then Some p else o
holder_noted p (note.Gave e) d o = if e == d then None else o
holder_noted p _ d o = o

abbrev pub holder_over : ℕ → Option ℕ → Option ℕ
holder_over p o = if is_taker p o then None else o

abbrev pub holder_left : ℕ → Step → Remark → ℕ → Option ℕ → Option ℕ
holder_left p (step.Fails kind) noted d o = holder_over p o
holder_left p step.Ends noted d o = holder_over p o
holder_left p (step.Held need) noted d o = o
holder_left p step.Done noted d o = holder_noted p noted d o
