-- A program over the moments of a run: what holds it, and what each call is for it.
use Rattle.std.specs.Prelude.{ℕ, List, Bool, false, Option, Some, None, ◌==◌, ◌&&◌, ◌||◌, not, nat_lt, if◌then◌else◌, fold}
use Rattle.kdf_journal.specs.declared.entry.Entry.{Entry}
use Rattle.kdf_journal.specs.declared.entry.Entry.TheVariants.{Ran, Fail, Ended, Lov, Busy, Wait, Idle, End}
use Rattle.kdf_journal.specs.declared.kind.Kind.{Kind}
use Rattle.kdf_journal.specs.declared.kind.Kind.TheVariants.{Tp, Lp}
use Rattle.kdf_account.specs.declared.lane.Held.{Held}
use Rattle.kdf_account.specs.declared.lane.Held.TheVariants as held
use Rattle.kdf_account.specs.declared.lane.Lane.{Lane}
use Rattle.kdf_account.specs.declared.moment.Free.{Free}
use Rattle.kdf_account.specs.declared.moment.Moment.{Moment}
use Rattle.kdf_account.specs.declared.moment.Unlocked.{Unlocked}
use Rattle.kdf_account.specs.declared.tally.Class.{Class}
use Rattle.kdf_account.specs.declared.tally.Class.TheVariants as «class»
use Rattle.kdf_account.specs.declared.tally.Tally.{Tally}
use Rattle.kdf_account.specs.Tallies.{charged}

-- these groups of a program have this one
abbrev pub is_unlocked : Option Unlocked → ℕ → ℕ → Bool
is_unlocked None p group = false
is_unlocked (Some x) p group = x.p == p && not (nat_lt group x.first) && not (nat_lt x.last group)

-- no device of a kind is free
abbrev pub is_none_free : Free → Kind → Bool
is_none_free free Tp = free.punches == 0
is_none_free free Lp = free.printers == 0
is_none_free free kind = false

-- what a call is for a program that is held by this, or by nothing, and isn't tried
abbrev pub class_by : Free → Held → Class
class_by free held.Nothing = «class».Ready
class_by free (held.Group group) = «class».Group
class_by free (held.Device d) = «class».Device
class_by free (held.Pool kind) = if is_none_free free kind then «class».Pool else «class».Ready

abbrev pub class_of : Lane → Class
class_of lane = if lane.is_over then «class».Over else class_by lane.free lane.held

abbrev pub no_calls : Tally
no_calls = record { running = 0; ready = 0; group = 0; device = 0; pool = 0; over = 0 }

-- before the first entry
abbrev pub never_held : Free → Lane
never_held free = record { held = held.Nothing; is_over = false; free = free; tally = no_calls }

-- after calls that didn't try the program, after orders of its own, and after a call that found it held
abbrev pub passed : Lane → ℕ → Lane
passed lane n = record lane { tally = charged lane.tally (class_of lane) n }

abbrev pub ran_on : Lane → ℕ → Lane
ran_on lane n = record lane { held = held.Nothing; tally = charged lane.tally «class».Running n }

abbrev pub tried : Lane → Held → Class → Lane
tried lane by c = record lane { held = by; tally = charged lane.tally c 1 }

-- what held the program has come with the end of a transfer of device d
abbrev pub has_come : Held → ℕ → ℕ → Option Unlocked → Bool
has_come (held.Device e) p d unlocked = e == d
has_come (held.Group group) p d unlocked = is_unlocked unlocked p group
has_come _ p d unlocked = false

abbrev pub cleared : Lane → ℕ → ℕ → Option Unlocked → Lane
cleared lane p d unlocked =
    if has_come lane.held p d unlocked then record lane { held = held.Nothing } else lane

-- after an entry, for program p
abbrev pub entered_by : Lane → ℕ → Option Unlocked → Entry → Lane
entered_by lane p unlocked (Ran q n) = if q == p then ran_on lane n else passed lane n
entered_by lane p unlocked (Idle n) = passed lane n
entered_by lane p unlocked (Lov q group) =
    if q == p then tried lane (held.Group group) «class».Group else passed lane 1
entered_by lane p unlocked (Busy q d) =
    if q == p then tried lane (held.Device d) «class».Device else passed lane 1
entered_by lane p unlocked (Wait q kind) =
    if q == p then tried lane (held.Pool kind) «class».Pool else passed lane 1
entered_by lane p unlocked (End d) = cleared lane p d unlocked
entered_by lane p unlocked (Fail q kind) = record lane { is_over = lane.is_over || (q == p) }
entered_by lane p unlocked (Ended q) = record lane { is_over = lane.is_over || (q == p) }
entered_by lane p unlocked e = lane

abbrev pub entered : Lane → ℕ → Moment → Lane
entered lane p m = entered_by lane p m.unlocked m.entry

-- and with what the pool has after it
abbrev pub lane_after : ℕ → Lane → Moment → Lane
lane_after p lane m = record (entered lane p m) { free = m.free }

-- after all moments of a run, where the pool began with these devices
abbrev pub lane_of : ℕ → Free → List Moment → Lane
lane_of p free ms = fold (lane_after p) (never_held free) ms
