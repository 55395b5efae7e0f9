use Rattle.std.proofs.lemmas.Result.{on_ok_weaker}
use Rattle.kdf_report.proofs.ShortDecimals.{last_two}
use Rattle.kdf_report.proofs.decimals.write_four.Goals as goal

pub returns : goal.returns
returns c =
    on_ok_weaker _ (last_two c.args.n _ _ _ c.requires.from c.requires.below c.in_ok-write_short.ensures) c.write_pair.ensures
