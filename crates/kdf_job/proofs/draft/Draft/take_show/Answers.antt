use Rattle.std.proofs.Common.{◌≡◌, None, rules}
use Rattle.kdf_job.specs.Draft.{fault_of}
use Rattle.kdf_job.specs.Forms.{AShow}
use Rattle.kdf_job.specs.Shows.{shown_draft}
use Rattle.kdf_job.proofs.Told.{show_takes}
use Rattle.kdf_job.proofs.draft.Draft.take_show.Goals as goal

pub returns : goal.returns
returns c =
    let faultless : fault_of (AShow c.args.first c.args.last) (shown_draft c.args.self.now) ≡ None = search rules in
    show_takes c.args.first c.args.last c.args.self.now c.add_show.new.self c.requires.sound c.requires.none c.requires.there faultless
    (search rules) c.add_show.ensures.words c.add_show.ensures.numbers
