use Rattle.std.proofs.Common.{◌^◌, ◌∙◌, ap, rules, FitsSigned}
use Rattle.std.specs.Int.{w128}
use Rattle.kdf_word.specs.Doubles.{double_fits}
use Rattle.kdf_arith.proofs.ScaleLemmas.{shifted_right, capped_floor, floor_fits}
use Rattle.kdf_arith.proofs.scales.over_power.Goals as goal

pub returns : goal.returns
returns c =
    let f : FitsSigned w128 c.value.result = search rules in
    let down = shifted_right c.value.result (2 ^ c.min.result) f in
    let value = down ∙ rw (c.value.ensures.value, c.min.ensures) (capped_floor c.args.value c.args.places c.value.ensures.fits) in
    record { value = value; fits = ap double_fits value ∙ floor_fits c.args.value (2 ^ c.args.places) c.value.ensures.fits }
