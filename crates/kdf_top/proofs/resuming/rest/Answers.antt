use Rattle.std.proofs.Common.{length-drop, arith}
use Rattle.kdf_top.proofs.LoadedDecks.{all_taken}
use Rattle.kdf_top.proofs.resuming.rest.Goals as goal

pub returns : goal.returns
returns c = all_taken _ _ (omega (arith, length-drop c.args.from c.args.text.now))
