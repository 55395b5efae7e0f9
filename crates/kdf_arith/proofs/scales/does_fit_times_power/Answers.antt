use Rattle.std.proofs.Common.{◌∙◌, ap, sym, rules, arith, FitsSigned}
use Rattle.std.specs.Int.{w128}
use Rattle.std.proofs.lemmas.Int.{to_z-of_z}
use Rattle.kdf_arith.specs.Signs.{is_sign, is_zero}
use Rattle.kdf_arith.proofs.FitLemmas.{fits_scaled, fits_beyond}
use Rattle.kdf_arith.proofs.scales.does_fit_times_power.Goals as goal

pub returns-then-places-gt94 : goal.returns-then-places-gt94
returns-then-places-gt94 c =
    let f : FitsSigned w128 c.value.result = search rules in
    c.is_zero.ensures ∙ ap is_zero (to_z-of_z w128 c.value.result f ∙ c.value.ensures.value) ∙ sym (fits_beyond c.args.value c.args.places (omega arith))

pub returns-else-places-gt94 : goal.returns-else-places-gt94
returns-else-places-gt94 c =
    let f : FitsSigned w128 c.over_power.result = search rules in
    c.is_sign.ensures ∙ ap is_sign (to_z-of_z w128 c.over_power.result f ∙ c.over_power.ensures.value)
    ∙ sym (fits_scaled c.args.value c.args.places (omega arith))
