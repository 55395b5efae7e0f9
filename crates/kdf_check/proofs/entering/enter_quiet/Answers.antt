use Rattle.std.proofs.Common.{◌∙◌}
use Rattle.kdf_theory.proofs.Course.OrdersInARow.{some-ran_on}
use Rattle.kdf_check.proofs.entering.enter_quiet.Goals as goal

pub returns-then-quiet-gt0-clause-entries : goal.returns-then-quiet-gt0-clause-entries
returns-then-quiet-gt0-clause-entries c =
    c.push.ensures.entries ∙ some-ran_on c.args.journal.now.entries c.args.p c.args.quiet c.if-quiet-gt0.true
