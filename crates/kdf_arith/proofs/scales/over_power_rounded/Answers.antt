use Rattle.std.proofs.Common.{◌≡◌, ℕ, ℤ, suc, ◌-◌, ◌^◌, pos, ◌+ℤ◌, ◌∙◌, ap, sym, subst, rules, arith, FitsSigned, to_z, of_z}
use Rattle.std.specs.Int.{w128}
use Rattle.std.proofs.lemmas.Int.{to_z-of_z}
use Rattle.kdf_word.specs.Doubles.{floor_div}
use Rattle.kdf_arith.proofs.ScaleLemmas.{shifted_right, rounded_half, one_more_fits}
use Rattle.kdf_arith.proofs.scales.over_power_rounded.Goals as goal

pub returns : goal.returns
returns c =
    let f : FitsSigned w128 c.over_power.result = search rules in
    let same = to_z-of_z w128 c.over_power.result f in
    let P : ℤ → Type 0 = λ x. FitsSigned w128 (x +ℤ pos 1) in
    let g = subst P (sym same) (one_more_fits c.over_power.result c.over_power.ensures.fits) in
    let more : c.args.places ≡ suc (c.args.places - 1) = omega arith in
    shifted_right (to_z w128 (of_z w128 c.over_power.result) +ℤ pos 1) 2 g
    ∙ ap (λ (x : ℤ). floor_div (x +ℤ pos 1) 2) (same ∙ c.over_power.ensures.value)
    ∙ rounded_half c.args.value (c.args.places - 1)
    ∙ ap (λ (n : ℕ). floor_div (c.args.value +ℤ pos (2 ^ (c.args.places - 1))) (2 ^ n)) (sym more)
