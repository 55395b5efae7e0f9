use Rattle.std.proofs.Common.{FitsSigned, w64, ◌∙◌}
use Rattle.std.proofs.lemmas.Int.{to_z-of_z}
use Rattle.kdf_arith.proofs.DivisionLemmas.{quotient_by_positive, remainder_by_positive}
use Rattle.kdf_arith.proofs.division.divide_by_positive.Goals as goal

pub returns-clause-quotient : goal.returns-clause-quotient
returns-clause-quotient c =
    let f : FitsSigned w64 c.div_euclid.result = record { sfits = c.div_euclid.type_inv } in
    to_z-of_z w64 c.div_euclid.result f
    ∙ quotient_by_positive c.args.value c.args.by c.div_euclid.result c.requires c.ranges.value c.ranges.by c.div_euclid.ensures

pub returns-clause-remainder : goal.returns-clause-remainder
returns-clause-remainder c =
    let f : FitsSigned w64 c.rem_euclid.result = record { sfits = c.rem_euclid.type_inv } in
    to_z-of_z w64 c.rem_euclid.result f
    ∙ remainder_by_positive c.args.value c.args.by c.rem_euclid.result c.requires c.ranges.value c.ranges.by c.rem_euclid.ensures.value
