-- A transfer in flight, as contracts see it.
use Rattle.std.specs.Prelude.{◌≡◌, ℕ, ◌+◌, ◌-◌, ◌/◌, ◌≤◌, List, [], ◌∷◌, length, take, drop, map, min, if◌then◌else◌, Option, Some, None}
use Rattle.std.specs.List.{range_with_len}
use Rattle.std.specs.Option.{option_map}
use Rattle.kdf_lockout.specs.Groups.{Lent, lent_word, with_lent_word}
use Rattle.kdf_transfer.specs.declared.order.TransferOrder.{TransferOrder}
use Rattle.kdf_transfer.specs.Devices.{Fixture, DeviceProgress}
use Rattle.kdf_transfer.specs.AtOnce.{is_input, has_area, moved_words, addressed, device_after}

-- the order, its area in places of the store, the device as at the begin, the lease as it is now, and how many words have moved.
-- The words in the ring and in the block that isn't finished follow from these
pub record Motion : Type 0 where
  pub order : TransferOrder
  pub first : ℕ
  pub last : ℕ
  pub fixture : Fixture
  pub progress : DeviceProgress
  pub lease : Option Lent
  pub moved : ℕ

abbrev pub lent_at : Option Lent → ℕ → ℕ
lent_at None place = 0
lent_at (Some l) place = lent_word l place

-- the words of the area, as they are in the lease
abbrev pub area_words : TransferOrder → ℕ → ℕ → Option Lent → List ℕ
area_words o first last l = if has_area o then map (lent_at l) (range_with_len first (last + 1 - first)) else []

-- the words that the order moves, in order
unfoldable pub all_words : TransferOrder → ℕ → ℕ → Option Lent → Fixture → DeviceProgress → List ℕ
all_words o first last l f p = moved_words o first last (area_words o first last l) f p

abbrev pub words_in_flight : Motion → List ℕ
words_in_flight t = all_words t.order t.first t.last t.lease t.fixture t.progress

abbrev pub total_of : Motion → ℕ
total_of t = length (words_in_flight t)

-- the next words, at most eight
abbrev pub ring_of : Motion → List ℕ
ring_of t = take 8 (drop t.moved (words_in_flight t))

abbrev pub moves_of : Motion → List (ℕ × ℕ)
moves_of t = addressed t.order t.first t.last (words_in_flight t)

-- a lease after words are written
abbrev pub put_words : List (ℕ × ℕ) → Lent → Lent
put_words [] l = l
put_words (m ∷ ms) l = put_words ms (with_lent_word l m.0 m.1)

abbrev pub lease_by : ℕ → Motion → Option Lent
lease_by n t = if is_input t.order then option_map (put_words (take n (drop t.moved (moves_of t)))) t.lease else t.lease

-- after the next n words, or those that remain, have moved
unfoldable pub moved_by : ℕ → Motion → Motion
moved_by n t =
    record {
      order = t.order;
      first = t.first;
      last = t.last;
      fixture = t.fixture;
      progress = t.progress;
      lease = lease_by n t;
      moved = min (t.moved + n) (total_of t);
    }

-- the device once the transfer has ended
abbrev pub ended_progress : Motion → DeviceProgress
ended_progress t = device_after t.order t.first t.last (area_words t.order t.first t.last t.lease) t.fixture t.progress

abbrev pub lease_first : Option Lent → ℕ
lease_first None = 0
lease_first (Some l) = l.first

abbrev pub lease_groups : Option Lent → List (List ℕ)
lease_groups None = []
lease_groups (Some l) = l.groups

-- the lease has exactly the groups that the area touches
pub record Covers (l : Option Lent) (first last : ℕ) : Type 0 where
  pub rising : first ≤ last
  pub first_group : lease_first l ≡ first / 32
  pub count : length (lease_groups l) ≡ last / 32 + 1 - first / 32
  pub few : last ≤ first + 4095
