use Rattle.std.proofs.Common.{ap₂, ◌∙◌}
use Rattle.std.proofs.lemmas.Result.{IfOk-weaker}
use Rattle.clap.specs.Words.{with_rule}
use Rattle.kdf_command.proofs.command.values.with_two.Goals as goal

pub returns : goal.returns
returns c =
    IfOk-weaker c.arg.result _ _ (λ app h. h.shape c.needed.ensures.local ∙ ap₂ with_rule c.in_ok-with_one.ensures c.needed.ensures.rule) c.arg.ensures
