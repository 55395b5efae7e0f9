use Rattle.kdf_job.proofs.Told.{service_takes}
use Rattle.kdf_job.proofs.draft.Draft.take_service.Goals as goal

pub returns : goal.returns
returns c =
    let added = c.add_service.ensures in
    service_takes c.args.self.now c.add_service.new.self c.requires.sound c.requires.none c.requires.there added.shown added.words added.numbers
