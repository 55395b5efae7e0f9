use Rattle.std.proofs.Common.{refl, ◌∙◌}
use Rattle.kdf_job.specs.Shows.{shown_job}
use Rattle.kdf_job.specs.Reading.{job}
use Rattle.kdf_command.specs.declared.command.Command.TheVariants.{Watch}
use Rattle.kdf_top.proofs.MadeTexts.{made_with, with_both}
use Rattle.kdf_top.proofs.Reported.{machine_of, programs, watched_own}
use Rattle.kdf_top.proofs.making.watch.Goals as goal

pub watched_text-text-requires : goal.watched_text-text-requires
watched_text-text-requires g c =
    let loaded = c.in_ok-job.ensures.loaded in
    programs (shown_job c.in_ok-job.job) c.in_ok-machine.machine loaded.well_formed.slots loaded.images.fits c.in_ok-machine.ensures.slots
    c.in_ok-machine.ensures.seen

pub returns-clause-made : goal.returns-clause-made
returns-clause-made g c =
    let j = shown_job c.in_ok-job.job in
    let m = c.in_ok-machine.machine in
    let bytes = c.args.job_bytes.now in
    let loaded = c.in_ok-job.ensures.loaded in
    let slots = c.in_ok-machine.ensures.slots in
    let seen = c.in_ok-machine.ensures.seen in
    with_both _ _ m _ _ c.with_machine.ensures.text c.with_machine.ensures.machine c.watched_text-text.ensures
    (λ made text kept. made_with _ (Watch c.args.slot c.args.address) bytes c.in_ok-job.ensures.faultless loaded.assembles tt made.text.items made.machine m
    kept refl
    (machine_of j m loaded.well_formed.slots loaded.images.fits slots seen (job bytes) loaded.told _ c.in_ok-machine.ensures.journal)
    (watched_own j m loaded.well_formed.slots loaded.images.fits slots seen (job bytes) loaded.told c.args.slot c.args.address _ made.text.items
    (c.deref-2.ensures.value ∙ c.in_ok-machine.ensures.stops) text))
