use Rattle.std.proofs.Common.{◌≡◌, ◌-◌, eqb, length}
use Rattle.std.specs.Prelude.{find}
use Rattle.std.specs.List.{range_with_len}
use Rattle.kdf_yard.specs.Fields.Going.{place_of}
use Rattle.kdf_yard.specs.Fields.Running.{seat_at, seats_in}
use Rattle.kdf_yard.proofs.next.place_of.Given as goal

abbrev pub invariant-loop-i : goal.invariant-loop-i
invariant-loop-i l = place_of (seats_in l.programs) l.p ≡ find (λ i. eqb (seat_at (seats_in l.programs) i).p l.p) (range_with_len l.i (length l.programs - l.i))
