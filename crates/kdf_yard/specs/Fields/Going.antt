-- Which program goes on, by the fields of a machine.
use Rattle.std.specs.Prelude.{ℕ, ◌+◌, ◌*◌, ◌/◌, ◌<◌, ◌==◌, not, ◌&&◌, Bool, false, List, [], ◌∷◌, length, Option, Some, None, find, if◌then◌else◌}
use Rattle.std.specs.Prelude.{slice_index_or}
use Rattle.std.specs.List.{list_any, range_with_len}
use Rattle.kdf_lockout.specs.Groups.{is_out}
use Rattle.kdf_processor.specs.Lone.{is_live}
use Rattle.kdf_journal.specs.declared.need.Need.{Need}
use Rattle.kdf_journal.specs.declared.need.Need.TheVariants.{Group, Device, Pool}
use Rattle.kdf_yard.specs.declared.program.Program.{Program}
use Rattle.kdf_yard.specs.Fields.Parts.{Reach, Seat, is_lent_by}
use Rattle.kdf_places.specs.Shared.{Shared, is_busy_in}
use Rattle.kdf_yard.specs.Fields.Running.{reach_at, seat_at}
use Rattle.kdf_yard.specs.Fields.Shared.{is_pool_taken}

-- what held a program, which reaches so much, is pending still, where these devices of the pool are taken
abbrev pub is_stopped : Reach → (taken : ℕ → Bool) → Shared → Option Need → Bool
is_stopped reach taken s None = false
is_stopped reach taken s (Some (Group g)) = is_out s.cells (reach.base / 32 + g)
is_stopped reach taken s (Some (Device d)) = is_busy_in s d
is_stopped reach taken s (Some (Pool kind)) = is_pool_taken reach.pool taken kind

-- a live program that nothing holds up still
abbrev pub goes : Seat → Reach → (taken : ℕ → Bool) → Shared → Option Need → Bool
goes seat reach taken s hold = is_live seat.registers.state && not (is_stopped reach taken s hold)

-- what held program i
abbrev pub hold_at : List (Option Need) → ℕ → Option Need
hold_at holds i = slice_index_or holds i None

-- program i of all goes on
abbrev pub goes_at : List Reach → List Seat → List (Option Need) → Shared → ℕ → Bool
goes_at reaches seats holds s i =
    goes (seat_at seats i) (reach_at reaches i) (is_lent_by seats) s (hold_at holds i)

-- which of the programs is in this slot
unfoldable pub place_of : List Seat → ℕ → Option ℕ
place_of seats p = find (λ i. (seat_at seats i).p == p) (range_with_len 0 (length seats))

-- where it goes on
abbrev pub if_goes : List Reach → List Seat → List (Option Need) → Shared → Option ℕ → Option ℕ
if_goes reaches seats holds s None = None
if_goes reaches seats holds s (Some i) = if goes_at reaches seats holds s i then Some i else None

-- this one, or else that one
abbrev pub or_else : Option ℕ → Option ℕ → Option ℕ
or_else (Some i) o = Some i
or_else None o = o

-- the first of these slots whose program goes on
abbrev pub first_going : List Reach → List Seat → List (Option Need) → Shared → List ℕ → Option ℕ
first_going reaches seats holds s [] = None
first_going reaches seats holds s (p ∷ ps) =
    or_else (if_goes reaches seats holds s (place_of seats p)) (first_going reaches seats holds s ps)

-- one of the programs is live
abbrev pub any_on : List Program → Bool
any_on programs = list_any (λ (x : Program). is_live x.registers.state) programs

-- a group that held a program is one of its store
abbrev pub IsNearHold : ℕ → Option Need → Type 0
IsNearHold size None = Unit {0}
IsNearHold size (Some (Group g)) = 32 * g < size
IsNearHold size (Some (Device d)) = Unit {0}
IsNearHold size (Some (Pool kind)) = Unit {0}

-- each group that held a program is one of its store
abbrev pub AreNearHolds : List Reach → List (Option Need) → Type 0
AreNearHolds reaches holds =
    (i : ℕ) → i < length holds → IsNearHold (reach_at reaches i).size (hold_at holds i)
