use Rattle.std.proofs.Common.{◌≡◌, length}
use Rattle.kdf_lockout.specs.Groups.{Cells}
use Rattle.kdf_yard.specs.Fields.Parts.{seat_of}
use Rattle.kdf_places.specs.Shared.{shared_in}
use Rattle.kdf_yard.specs.Fields.Settled.{both_of, retired}
use Rattle.kdf_places.specs.Spots.{AreDry}
use Rattle.kdf_yard.proofs.dispatch.retire_all.Given as goal

abbrev pub invariant-loop-i : goal.invariant-loop-i
invariant-loop-i l =
    record {
      both : (cells : Cells) → both_of (seat_of l.program) (shared_in cells l.places.items) ≡ retired l.i
          (both_of (seat_of l.fn.program) (shared_in cells l.fn.places.items));
      many : length l.program.stints.items ≡ length l.fn.program.stints.items;
      hold : l.program.hold ≡ l.fn.program.hold;
      dry : AreDry l.fn.places.items → AreDry l.places.items;
    }
