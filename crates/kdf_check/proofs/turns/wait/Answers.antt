use Rattle.std.proofs.Common.{◌∙◌}
use Rattle.kdf_theory.proofs.Course.OrdersInARow.{some-waited_on}
use Rattle.kdf_check.proofs.turns.wait.Goals as goal

pub returns-then-is_any_on-clause-entries : goal.returns-then-is_any_on-clause-entries
returns-then-is_any_on-clause-entries c = c.push.ensures.entries ∙ some-waited_on c.args.journal.now.entries c.args.most c.requires.some
