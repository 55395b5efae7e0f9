use Rattle.std.proofs.Common.{◌≡◌, ℤ, pos, ◌*ℤ◌, ◌^◌, Bool, true, false, not, ◌||◌, ◌∙◌, ap, sym}
use Rattle.kdf_word.specs.Words.{signed, fits}
use Rattle.kdf_word.specs.Doubles.{double_fits, put}
use Rattle.kdf_arith.proofs.WordLemmas.{fits_put}
use Rattle.kdf_arith.proofs.scales.word_times_power.Goals as goal
use Rattle.kdf_arith.proofs.scales.word_times_power.Goals.{then-is_beyond_double, else-is_beyond_double}

pub returns-clause-overflow : goal.returns-clause-overflow
returns-clause-overflow c =
    let z : ℤ = signed c.args.a *ℤ pos (2 ^ c.args.places) in
    let beyond_double : c.times_power-value.result.1 ≡ not (double_fits z) = c.times_power-value.ensures.overflow
    ∙ ap (λ (v : ℤ). not (double_fits (v *ℤ pos (2 ^ c.args.places)))) c.stretch.ensures in
    let value : c.times_power-value.result.0 ≡ put z = c.times_power-value.ensures.value
    ∙ ap (λ (v : ℤ). put (v *ℤ pos (2 ^ c.args.places))) c.stretch.ensures in
    let beyond_word : c.contract-word.result.1 ≡ not (fits (put z)) = c.contract-word.ensures.overflow ∙ ap (λ (v : ℤ). not (fits v)) value in
    elim c.if-is_beyond_double.branch [
      | then-is_beyond_double w ↦ let set : not (double_fits z) ≡ true = sym beyond_double ∙ w.if-is_beyond_double.true in
          w.result-is ∙ w.if-is_beyond_double.true ∙ sym (ap (λ (b : Bool). b || not (fits (put z))) set) ∙ fits_put z
      | else-is_beyond_double w ↦ let clear : not (double_fits z) ≡ false = sym beyond_double ∙ w.if-is_beyond_double.false in
          w.result-is ∙ beyond_word ∙ sym (ap (λ (b : Bool). b || not (fits (put z))) clear) ∙ fits_put z
    ]
