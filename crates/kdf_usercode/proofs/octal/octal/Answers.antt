use Rattle.std.proofs.Common.{arith}
use Rattle.std.proofs.lemmas.Grind.{common_steps}
use Rattle.kdf_usercode.proofs.OctalDigits.{octal-step}
use Rattle.kdf_usercode.proofs.octal.octal.Goals as goal

pub loop-b-preserved : goal.loop-b-preserved
loop-b-preserved c =
    let step = octal-step c.args.text.now c.loop-b.b-index c.loop-b.value c.loop-b-test.true in
    grind (arith, common_steps)
