-- What a turn came to is entered of a program of a yard: so it is by how things stand in it.
use Rattle.std.specs.Prelude.{Result}
use Rattle.std.proofs.Common.{ℕ, List, subst, ◌≡◌, ◌<◌, length, get_or, set}
use Rattle.kdf_journal.specs.declared.entry.Entry.{Entry}
use Rattle.kdf_processor.specs.declared.step.Step.{Step}
use Rattle.kdf_director.specs.declared.machine.Progress.{Progress}
use Rattle.kdf_yard.specs.declared.remark.Remark.{Remark}
use Rattle.kdf_yard.specs.Fields.Parts.{Seat, seat_of}
use Rattle.kdf_yard.specs.Fields.Yards.{hold_in, number_in, registers_in}
use Rattle.kdf_director.specs.Runs.{HasEntered}
use Rattle.kdf_yard.specs.declared.program.Program.{Program}
use Rattle.kdf_yard.specs.declared.yard.Yard.TheInside.{Inside}
use Rattle.kdf_yard.specs.Fields.Standing.{Standing, standing, IsYard}
use Rattle.kdf_yard.proofs.Turns.YardTurns.{hold_entered, hold_new, seat_entered, stands}

module _ (m : Inside) (yard : IsYard m.slots.items m.windows m.store m.programs.items m.places.items) (y : Standing) (is : stands m ≡ y)
    (i : ℕ) (there : i < length y.seats) (program : Program) (program_is : program ≡ get_or m.programs.items i program) (new : Program)
    (same : seat_of new ≡ seat_of program) where
  abbrev entered : Standing
  entered = standing m.slots.items m.windows m.store (set m.programs.items i new) m.places.items

  pub entered_in : {E F : Type 0} (J K : List Entry) (n : ℕ) (tried : Result (Step × Remark) E) (r : Result (ℕ × Progress) F)
      → HasEntered J program.p n program.registers.ran program.hold tried K new.hold r
      → HasEntered J (number_in y i) n (registers_in y i).ran (hold_in y i) tried K (hold_in entered i) r
  entered_in J K n tried r has =
      subst (λ h. HasEntered J (number_in y i) n (registers_in y i).ran (hold_in y i) tried K h r)
      (hold_new m yard y is i there program program_is new same)
      (subst (λ h. HasEntered J (number_in y i) n (registers_in y i).ran h tried K new.hold r)
      (hold_entered m yard y is i there program program_is new same)
      (subst (λ (x : Seat). HasEntered J x.p n x.registers.ran program.hold tried K new.hold r)
      (seat_entered m yard y is i there program program_is new same) has))
