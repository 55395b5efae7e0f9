use Rattle.kdf_usercode.proofs.WellFormed.{gives-thinned-formed}
use Rattle.kdf_usercode.proofs.reader.read_thinned.Goals as goal

pub returns-clause-sound : goal.returns-clause-sound
returns-clause-sound c = gives-thinned-formed c.read.result c.args.text.now c.requires c.read.ensures
