use Rattle.std.proofs.Common.{◌≡◌, None, rules}
use Rattle.kdf_job.specs.Draft.{fault_of}
use Rattle.kdf_job.specs.Forms.{APoolDevice}
use Rattle.kdf_job.specs.Shows.{shown_draft}
use Rattle.kdf_job.proofs.PoolDevices.{lent_takes}
use Rattle.kdf_job.proofs.draft.Draft.take_pool_device.Goals as goal

pub returns : goal.returns
returns c =
    let x = c.args.device in
    let faultless : fault_of (APoolDevice x.d x.kind x.label.now) (shown_draft c.args.self.now) ≡ None = search rules in
    lent_takes x.d x.kind x.label.now c.args.self.now c.add_pool_device.new.self c.requires.sound c.requires.there c.requires.few faultless
    (search rules) c.add_pool_device.ensures.words (search rules)
