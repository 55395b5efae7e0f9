use Rattle.std.proofs.Common.{refl}
use Rattle.kdf_job.specs.Shows.{shown_job}
use Rattle.kdf_job.specs.Reading.{job}
use Rattle.kdf_command.specs.declared.command.Command.TheVariants.{Run}
use Rattle.kdf_top.proofs.MadeTexts.{made_with, with_both}
use Rattle.kdf_top.proofs.Reported.{machine_of, programs, report_own}
use Rattle.kdf_top.proofs.making.report_run.Goals as goal

pub report-text-requires : goal.report-text-requires
report-text-requires g c =
    let loaded = c.in_ok-job.ensures.loaded in
    programs (shown_job c.in_ok-job.job) c.in_ok-machine.machine loaded.well_formed.slots loaded.images.fits c.in_ok-machine.ensures.slots
    c.in_ok-machine.ensures.seen

pub returns-clause-made : goal.returns-clause-made
returns-clause-made g c =
    let j = shown_job c.in_ok-job.job in
    let m = c.in_ok-machine.machine in
    let bytes = c.args.job_bytes.now in
    let loaded = c.in_ok-job.ensures.loaded in
    let slots = c.in_ok-machine.ensures.slots in
    let seen = c.in_ok-machine.ensures.seen in
    with_both _ _ m _ _ c.with_machine.ensures.text c.with_machine.ensures.machine c.report-text.ensures
    (λ made text kept. made_with _ Run bytes c.in_ok-job.ensures.faultless loaded.assembles tt made.text.items made.machine m kept refl
    (machine_of j m loaded.well_formed.slots loaded.images.fits slots seen (job bytes) loaded.told _ c.in_ok-machine.ensures.journal)
    (report_own j m loaded.well_formed.slots loaded.images.fits slots seen (job bytes) loaded.told made.text.items text))
