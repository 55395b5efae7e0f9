use Rattle.std.proofs.Common.{◌+◌, get_or, ap, ◌∙◌, arith}
use Rattle.std.proofs.lemmas.Grind.{common_steps}
use Rattle.std.proofs.lemmas.List.{take_rest}
use Rattle.kdf_usercode.specs.Shape.{ends_number}
use Rattle.kdf_usercode.proofs.Numbers.{numbers-step}
use Rattle.kdf_usercode.proofs.shape.numbers_into.Goals as goal

pub loop-i-preserved : goal.loop-i-preserved
loop-i-preserved c =
    let text = c.args.text.now in
    let i = c.loop-i.i in
    let ends = c.ends_number.ensures ∙ ap (ends_number (get_or text i 0)) (take_rest text (i + 1)) in
    let step = numbers-step text i c.loop-i.value c.ends_number.result c.loop-i-test.true ends in
    grind (arith, common_steps)
