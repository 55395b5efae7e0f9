use Rattle.std.specs.Prelude.{find}
use Rattle.std.specs.Option.{option_map}
use Rattle.std.proofs.Common.{eqb, ap, sym, ◌∙◌}
use Rattle.kdf_director.specs.Fields.Halted.{stops_in}
use Rattle.kdf_yard.specs.Fields.Parts.{Seat}
use Rattle.kdf_yard.specs.Fields.Standing.{Standing}
use Rattle.kdf_director.specs.Halts.{halts}
use Rattle.kdf_yard.specs.declared.program.Program.{Program}
use Rattle.kdf_director.proofs.Linking.Halted.{seated}
use Rattle.kdf_director.proofs.halt.stops.Goals as goal

pub returns-in-Ran : goal.returns-in-Ran
returns-in-Ran c =
    c.halts.ensures
    ∙ ap (λ xs. halts c.args.halt c.in-Ran.p (option_map (λ (x : Program). x.registers) (find (λ (x : Program). eqb x.p c.in-Ran.p) xs))) c.deref.ensures.value
    ∙ ap (halts c.args.halt c.in-Ran.p) (seated c.yard.inside.programs.items c.in-Ran.p)
    ∙ ap (λ (y : Standing). halts c.args.halt c.in-Ran.p (option_map (λ (x : Seat). x.registers) (find (λ (x : Seat). eqb x.p c.in-Ran.p) y.seats)))
    c.yard.view_is
    ∙ sym (ap (stops_in c.args.halt c.args.yard.now) c.in-Ran.is)
