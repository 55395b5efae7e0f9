-- The calls so far and those of the next moment are among them all.
use Rattle.std.proofs.Common.{ℕ, ◌+◌, ◌<◌, ◌≤◌, List, length, take, get_or, None}
use Rattle.std.proofs.lemmas.List.{get_or-map, length-map, take-map}
use Rattle.std.proofs.lemmas.List.Sums.{sum_by_more_le}
use Rattle.kdf_journal.specs.Counts.{calls, calls_in}
use Rattle.kdf_journal.specs.declared.entry.Entry.{Entry}
use Rattle.kdf_journal.specs.declared.entry.Entry.TheVariants.{Ran}
use Rattle.kdf_account.specs.declared.moment.Moment.{Moment}
use Rattle.kdf_account.specs.Moments.{entries_of}

pub calls_more : (ms : List Moment) (i : ℕ) (d : Moment) → i < length ms → calls (entries_of (take i ms)) + calls_in (get_or ms i d).entry
    ≤ calls (entries_of ms)
calls_more ms i d lt =
    let e : Moment → Entry = λ (m : Moment). m.entry in
    let more = sum_by_more_le calls_in (entries_of ms) i d.entry (rw (length-map ms e) lt) in
    rw (← get_or-map e ms i d d.entry lt, ← take-map e i ms) more

-- what stands for a moment where a list has none
abbrev pub no_moment : Moment
no_moment = record { call = 0; entry = Ran 0 0; unlocked = None; free = record { punches = 0; printers = 0 } }
