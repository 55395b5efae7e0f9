-- What is shown of the machine to one program, and what an acting call leaves of what all share.
use Rattle.std.specs.Prelude.{◌&&◌, ◌||◌, not, find, ℕ, ◌+◌, ◌/◌, List, Bool, true, false, Option, None, slice_index_or, slice_set, is_some, unwrap_or}
use Rattle.std.specs.List.{range_with_len}
use Rattle.kdf_journal.specs.declared.kind.Kind.{Kind}
use Rattle.kdf_lockout.specs.Groups.{is_out, with_word}
use Rattle.kdf_transfer.specs.ByNumber.{device_count}
use Rattle.kdf_transfer.specs.Devices.{is_kind}
use Rattle.kdf_processor.specs.Effect.{Question, IsBusy, IsOut, Time, FreeOf, OfService, Act, Nothing, Writes, Starts, Asks, Acquires, Releases, Spools}
use Rattle.kdf_processor.specs.View.{View, by_itself, groups_of}
use Rattle.kdf_yard.specs.declared.moment.Moment.{Moment}
use Rattle.kdf_theory.specs.True.{one_if}
use Rattle.kdf_places.specs.Spots.{blank_spot, spot_at, own_from}
use Rattle.kdf_places.specs.Shared.{Shared, is_busy_in}
use Rattle.kdf_yard.specs.Fields.Parts.{Part, own_stock}
use Rattle.kdf_places.specs.Transfers.{start_cells, start_spot}

-- a group of the program's window is out
abbrev pub is_out_of : Part → Shared → ℕ → Bool
is_out_of q s g = is_out s.cells (q.base / 32 + g)

-- the device of a number is one of this kind in the pool, and isn't taken
abbrev pub is_free_in : List (Option Kind) → (taken : ℕ → Bool) → Kind → ℕ → Bool
is_free_in pool taken kind d = is_kind kind (slice_index_or pool d None) && not (taken d)

-- the least such device
unfoldable pub free_in : List (Option Kind) → (taken : ℕ → Bool) → Kind → Option ℕ
free_in pool taken kind = find (is_free_in pool taken kind) (range_with_len 0 device_count)

-- the moment of an order: the time that was set last, and what was heard of the service
abbrev pub moment : (time heard : ℕ) → Moment
moment time heard = record { time = time; heard = heard }

-- what a program isn't told by its own part: the time, what was heard of the service, and which devices of the pool are
-- taken
pub record Setting : Type 0 where
  pub time : ℕ
  pub heard : ℕ
  pub taken : ℕ → Bool

abbrev pub setting : (taken : ℕ → Bool) → Moment → Setting
setting taken m = record { time = m.time; heard = m.heard; taken = taken }

-- a device is taken, as a program finds it: it has claimed the device itself, or this tells of a holder
abbrev pub is_taken_by : (claimed : List Bool) → (held : ℕ → Option ℕ) → ℕ → Bool
is_taken_by claimed held d = slice_index_or claimed d false || is_some (held d)

-- what the machine answers
abbrev pub answer_in : Part → Setting → Shared → Question → ℕ
answer_in q m s (IsBusy d) = one_if (is_busy_in s d)
answer_in q m s (IsOut first last) = one_if (is_some (find (is_out_of q s) (groups_of first last)))
answer_in q m s Time = m.time
answer_in q m s (FreeOf kind) = unwrap_or (free_in q.pool m.taken kind) 0
answer_in q m s (OfService word) = m.heard

-- every device of a kind in the pool is taken
abbrev pub is_pool_taken : List (Option Kind) → (taken : ℕ → Bool) → Kind → Bool
is_pool_taken pool taken kind = not (is_some (free_in pool taken kind))

-- what is shown of a program
abbrev pub view : Part → Setting → Shared → View
view q m s =
    record (by_itself (answer_in q m s) (own_stock q 0 s)) {
      is_out = is_out_of q s;
      is_busy = is_busy_in s;
      is_taken = is_pool_taken q.pool m.taken;
      mine = own_from q.p 0 s.spots;
    }

-- what an acting call of a program leaves
abbrev pub after_act : Part → Shared → Act → Shared
after_act q s Nothing = s
after_act q s (Writes a w) = record s { cells = with_word s.cells (q.base + a) w }
after_act q s (Starts d o first last) =
    record {
      cells = start_cells o (q.base + first) (q.base + last) s.cells;
      spots = slice_set s.spots d
          (start_spot q.p o (q.base + first) (q.base + last) s.cells (spot_at s.spots d));
    }
after_act q s (Asks question answer) = s
after_act q s (Acquires d) = s
after_act q s (Releases true d) = record s { spots = slice_set s.spots d (blank_spot (spot_at s.spots d)) }
after_act q s (Releases false d) = s
after_act q s (Spools stream first last) = s
