use Rattle.kdf_job.proofs.Told.{medium_takes}
use Rattle.kdf_job.proofs.draft.Draft.take_medium.Goals as goal

pub returns : goal.returns
returns c =
    let x = c.args.line in
    let added = c.add_medium_line.ensures in
    medium_takes x.marked x.text.now c.args.self.now c.add_medium_line.new.self c.add_medium_line.result c.requires.sound c.requires.none c.requires.there
    added.shown added.words added.numbers
