-- What holds of a transfer's parts between two moves.
use Rattle.std.specs.Prelude.{◌≡◌, ◌+◌, ◌*◌, ◌^◌, ◌<◌, ◌≤◌, [], take, true, false, if◌then◌else◌, is_some}
use Rattle.std.specs.Vec.{vec_capacity}
use Rattle.kdf_word.specs.Characters.{codes_of_all}
use Rattle.kdf_transfer.specs.AtOnce.{kind_of, is_input, has_area, blocks_out}
use Rattle.kdf_transfer.specs.Devices.{fixture_of, progress_of, room_of}
use Rattle.kdf_transfer.specs.declared.flight.Flight.{Flight}
use Rattle.kdf_transfer.specs.InFlight.{Motion, words_in_flight, total_of, ring_of, Covers}

-- what contracts see of a transfer's parts
abbrev pub motion_of : Flight → Motion
motion_of f =
    record {
      order = f.order;
      first = f.area.first;
      last = f.area.last;
      fixture = fixture_of f.device;
      progress = progress_of f.device;
      lease = f.lease;
      moved = f.moved;
    }

-- what holds between two moves: the ring has the next words, and the block the characters of those that went out
pub record IsFlying (f : Flight) : Type 0 where
  pub kind : (fixture_of f.device).kind ≡ kind_of f.order
  pub spare : blocks_out f.order ≤ room_of f.device
  pub few : (progress_of f.device).place + blocks_out f.order < 2 ^ 32
  pub lease : is_some f.lease ≡ has_area f.order
  pub area : has_area f.order ≡ true → Covers f.lease f.area.first f.area.last
  pub total : f.total ≡ total_of (motion_of f)
  pub moved : f.moved ≤ f.total
  pub ring : f.ring ≡ ring_of (motion_of f)
  pub block : f.block.items ≡ (if is_input f.order then [] else codes_of_all (take f.moved (words_in_flight (motion_of f))))
  pub room : is_input f.order ≡ false → 8 * f.total ≤ vec_capacity f.block
