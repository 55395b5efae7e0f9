use Rattle.std.proofs.Common.{List, Result, length, ap, subst}
use Rattle.kdf_usercode.specs.declared.statement.Statement.{Statement}
use Rattle.kdf_usercode.specs.Faults.{FoundFault}
use Rattle.kdf_usercode.specs.Grammar.{early, statements, verdict}
use Rattle.kdf_usercode.specs.Reading.{Gives}
use Rattle.kdf_usercode.proofs.Thinned.{thinned-every}
use Rattle.kdf_usercode.proofs.WellFormed.{gives-well-formed}
use Rattle.kdf_usercode.proofs.reader.read_deck.Goals as goal

pub returns-clause-answer : goal.returns-clause-answer
returns-clause-answer c =
    let text = c.args.text.now in
    subst (λ (d : Result (List Statement) FoundFault). Gives c.read.result (length text) d)
    (ap (λ (ss : List Statement). verdict (early text) ss) (thinned-every (statements text))) c.read.ensures

pub returns-clause-sound : goal.returns-clause-sound
returns-clause-sound c = gives-well-formed c.read.result c.args.text.now c.requires (returns-clause-answer c)
