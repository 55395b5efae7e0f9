use Rattle.kdf_text.proofs.Cutting.{lines-at}
use Rattle.kdf_top.proofs.Lines.{one_line}
use Rattle.kdf_top.proofs.differing.first_line.Goals as goal

pub returns-in-Some-clause-lines : goal.returns-in-Some-clause-lines
returns-in-Some-clause-lines c = lines-at c.args.text.now _ _ c.in-Some.ensures.joined c.in-Some.ensures.first

pub returns-in-None-clause-lines : goal.returns-in-None-clause-lines
returns-in-None-clause-lines c = one_line c.args.text.now c.requires c.in-None.ensures.none
