use Rattle.std.proofs.Common.{◌^◌, ◌∙◌, ap, ℤ}
use Rattle.std.specs.Int.{w128}
use Rattle.std.proofs.lemmas.Int.{to_z-of_z}
use Rattle.kdf_word.specs.Doubles.{modulo}
use Rattle.kdf_arith.proofs.PutLemmas.{put_times}
use Rattle.kdf_arith.proofs.scales.kept_times_power.Goals as goal

pub returns : goal.returns
returns c =
    let last = c.last_bits.ensures ∙ ap (λ (v : ℤ). modulo v (2 ^ 95)) (to_z-of_z w128 c.args.value c.ranges.value) in
    c.put_bits.ensures ∙ rw (c.to_the_left-bits.ensures, last) (put_times c.args.value (2 ^ c.args.places))
