use Rattle.std.proofs.Common.{◌≡◌, None, rules}
use Rattle.kdf_job.specs.Draft.{fault_of}
use Rattle.kdf_job.specs.Forms.{AStore}
use Rattle.kdf_job.specs.Shows.{shown_draft}
use Rattle.kdf_job.proofs.Told.{store_takes}
use Rattle.kdf_job.proofs.draft.Draft.take_store.Goals as goal

pub returns : goal.returns
returns c =
    let faultless : fault_of (AStore c.args.size) (shown_draft c.args.self.now) ≡ None = search rules in
    store_takes c.args.p c.args.size c.args.self.now c.add_slot.new.self c.requires.sound c.requires.place c.requires.least c.requires.most faultless
    (search rules) (search rules) (search rules)
