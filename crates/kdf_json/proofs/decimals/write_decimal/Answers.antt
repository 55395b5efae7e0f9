use Rattle.std.proofs.lemmas.Result.{on_ok_weaker}
use Rattle.kdf_json.proofs.Digits.{one_digit}
use Rattle.kdf_json.proofs.decimals.write_decimal.Goals as goal

pub returns-then-n-lt10 : goal.returns-then-n-lt10
returns-then-n-lt10 c = on_ok_weaker _ (one_digit c.args.n _ _ c.if-n-lt10.true) c.write_digit.ensures
