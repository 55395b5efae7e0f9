use Rattle.std.proofs.lemmas.Result.{on_ok_weaker}
use Rattle.kdf_report.proofs.ShortDecimals.{two_digits}
use Rattle.kdf_report.proofs.decimals.write_longer.Goals as goal

pub returns-then-n-lt100 : goal.returns-then-n-lt100
returns-then-n-lt100 c = on_ok_weaker _ (two_digits c.args.n _ _ c.requires c.if-n-lt100.true) c.write_pair.ensures
