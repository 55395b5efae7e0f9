use Rattle.std.proofs.Common.{◌≡◌, ℕ, drop, find}
use Rattle.kdf_check.specs.Around.{around_by}
use Rattle.kdf_check.specs.Keeps.{goes, place_at}
use Rattle.kdf_check.proofs.next.next_of.Given as goal

abbrev pub invariant-loop-p : goal.invariant-loop-p
invariant-loop-p l =
    find (λ (p : ℕ). goes (around_by l.table.places l.journal.entries 0) (place_at l.programs p)) l.priorities
    ≡ find (λ (p : ℕ). goes (around_by l.table.places l.journal.entries 0) (place_at l.programs p)) (drop l.p-index l.priorities)
