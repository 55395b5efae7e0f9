use Rattle.std.proofs.Common.{FitsSigned, w64}
use Rattle.kdf_arith.proofs.DivisionLemmas.{remainder_by_negative, negative_fits, negative_remainder_fits}
use Rattle.kdf_arith.proofs.division.divide_by_negative.Goals as goal

pub returns-clause-remainder : goal.returns-clause-remainder
returns-clause-remainder c =
    let f : FitsSigned w64 c.rem_euclid.result = record { sfits = c.rem_euclid.type_inv } in
    remainder_by_negative c.args.value c.args.by c.rem_euclid.result c.requires.negative c.ranges.value c.ranges.by f
    (negative_fits c.args.value c.requires.value) (negative_fits c.args.by c.requires.small)
    (negative_remainder_fits c.rem_euclid.result c.rem_euclid.ensures.lower_bound f) c.rem_euclid.ensures.value
