use Rattle.std.proofs.Common.{[], ◌∷◌}
use Rattle.kdf_usercode.specs.declared.fault.DeckFault.TheVariants.{NoSemicolon, NoFinish}
use Rattle.kdf_usercode.specs.Faults.{found}
use Rattle.kdf_usercode.specs.Grammar.{at_first}
use Rattle.kdf_usercode.proofs.Least.{least-front}
use Rattle.kdf_usercode.proofs.reading.with_end.Goals as goal

pub returns : goal.returns
returns c = rw (← c.if-is_ended.ensures, c.with.ensures, c.with_first-best.ensures)
    (least-front c.args.best (at_first NoSemicolon c.args.tail.now) (found NoFinish c.args.length ∷ []))
