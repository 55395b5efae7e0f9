use Rattle.std.proofs.Common.{List, ap, ◌∙◌}
use Rattle.kdf_processor.specs.Lone.{is_live}
use Rattle.kdf_yard.specs.declared.program.Program.{Program}
use Rattle.kdf_yard.specs.Fields.Going.{any_on}
use Rattle.kdf_yard.specs.Fields.Parts.{Seat, seat_of}
use Rattle.kdf_yard.specs.Fields.Standing.{Standing}
use Rattle.kdf_yard.specs.Fields.Yards.{any_in}
use Rattle.kdf_theory.proofs.Lists.{any_map}
use Rattle.kdf_yard.proofs.yard.Yard.is_any_on.Goals as goal

pub returns : goal.returns
returns c =
    c.is_any_on.ensures
    ∙ ap (λ (xs : List Program). any_on xs) c.deref.ensures.value
    ∙ any_map seat_of (λ (x : Seat). is_live x.registers.state) c.self.inside.programs.items
    ∙ ap (λ (x : Standing). any_in x) c.self.view_is
