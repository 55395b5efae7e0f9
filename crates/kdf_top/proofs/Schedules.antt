-- What a machine asks of a schedule, a well formed one has.
use Rattle.std.proofs.Common.{ℕ, suc, ◌≤◌, List, [], ◌∷◌, length, All, arith}
use Rattle.std.specs.Prelude.{sum_by}
use Rattle.std.proofs.lemmas.List.Sums.{sum_by-cons}
use Rattle.kdf_schedule.specs.declared.event.Event.{Event}
use Rattle.kdf_schedule.specs.declared.event.Event.TheVariants.{Orders, Move, End, Clock, Swap}
use Rattle.kdf_schedule.specs.Events.{IsInRange}
use Rattle.kdf_job.specs.WellFormed as job
use Rattle.kdf_theory.specs.Follows.{IsRising, entries_in}

-- each event is an entry at most
one_entry : (e : Event) → entries_in e ≤ 1
one_entry (Orders n) = omega arith
one_entry (Move d n) = omega arith
one_entry (End d) = omega arith
one_entry (Clock t) = omega arith
one_entry (Swap p q) = omega arith

pub entries_bound : (es : List Event) → sum_by entries_in es ≤ length es
entries_bound [] = omega arith
entries_bound (e ∷ es) = let first = one_entry e in let others = entries_bound es in omega (arith, sum_by-cons entries_in e es)

behind : (e : Event) (es : List Event) → All IsInRange (e ∷ es) → All IsInRange es
behind e es each = λ k d lt. each (suc k) d (omega arith)

pub rises : (t : ℕ) (es : List Event) → job.IsRising t es → All IsInRange es → IsRising t es
rises t [] rising each = tt
rises t (Clock u ∷ es) rising each = (rising.0, rises u es rising.1 (behind (Clock u) es each))
rises t (Orders n ∷ es) rising each = rises t es rising (behind (Orders n) es each)
rises t (Move d n ∷ es) rising each = rises t es rising (behind (Move d n) es each)
rises t (End d ∷ es) rising each = rises t es rising (behind (End d) es each)
rises t (Swap p q ∷ es) rising each =
    let range = each 0 (Swap p q) (omega arith) in
    (omega (arith, range.0), omega (arith, range.1), rises t es rising (behind (Swap p q) es each))
