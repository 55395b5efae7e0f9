use Rattle.std.proofs.lemmas.Result.{on_ok_weaker}
use Rattle.kdf_report.proofs.ShortDecimals.{one_digit, two_digits}
use Rattle.kdf_report.proofs.decimals.write_short.Goals as goal

pub returns-then-n-lt10 : goal.returns-then-n-lt10
returns-then-n-lt10 c = on_ok_weaker _ (one_digit c.args.n _ _ c.if-n-lt10.true) c.write_digit.ensures

pub returns-else-n-lt10 : goal.returns-else-n-lt10
returns-else-n-lt10 c = on_ok_weaker _ (two_digits c.args.n _ _ c.if-n-lt10.false c.requires) c.write_pair.ensures
