use Rattle.std.proofs.Common.{List, ap, ◌∙◌}
use Rattle.kdf_yard.specs.declared.program.Program.{Program}
use Rattle.kdf_yard.specs.Fields.Going.{place_of}
use Rattle.kdf_yard.specs.Fields.Running.{seats_in}
use Rattle.kdf_yard.specs.Fields.Standing.{Standing}
use Rattle.kdf_yard.proofs.yard.Yard.place_of.Goals as goal

pub returns-clause-result : goal.returns-clause-result
returns-clause-result c =
    c.place_of.ensures.result
    ∙ ap (λ (xs : List Program). place_of (seats_in xs) c.args.p) c.deref.ensures.value
    ∙ ap (λ (y : Standing). place_of y.seats c.args.p) c.self.view_is
