use Rattle.std.proofs.Common.{◌≡◌, ◌∙◌, ℕ, List, refl, subst}
use Rattle.std.proofs.lemmas.Result.{err_from_is_err_and}
use Rattle.kdf_job.specs.Shows.{shown_job}
use Rattle.kdf_check.proofs.Pairs.{pair}
use Rattle.kdf_top.specs.Resumed.{IsRead}
use Rattle.kdf_top.specs.Snapshots.{parts, resumed_job}
use Rattle.kdf_command.specs.declared.command.Command.TheVariants.{Resume}
use Rattle.kdf_top.proofs.MadeTexts.{made_with, with_both}
use Rattle.kdf_top.proofs.Reported.{machine_of, programs, report_own}
use Rattle.kdf_top.proofs.Resumptions.{reason_called}
use Rattle.kdf_top.proofs.resuming.resume.Goals as goal

pub run_on-requires : goal.run_on-requires
run_on-requires g c =
    let is : c.deref.result.now ≡ g.bytes = c.deref.ensures.value ∙ c.requires.1.1.0 in
    λ lives within. pair within
    (pair c.requires.1.0
    (pair (subst (λ (t : List ℕ). IsRead t c.in_ok-snapshot.snapshot) is c.in_ok-snapshot.ensures.read)
    (subst (λ (t : List ℕ). c.in_ok-snapshot.entries.items ≡ (parts t).entries) is c.in_ok-snapshot.ensures.entries)))

pub returns-in_err-machine-clause-reason : goal.returns-in_err-machine-clause-reason
returns-in_err-machine-clause-reason g c =
    let is : c.deref.result.now ≡ g.bytes = c.deref.ensures.value ∙ c.requires.1.1.0 in
    let read = subst (λ (t : List ℕ). IsRead t c.in_ok-snapshot.snapshot) is c.in_ok-snapshot.ensures.read in
    let p = err_from_is_err_and c.from_residual-in_err-machine.result c.from_residual-in_err-machine.ensures.1 in
    rw (p.1, p.2) (reason_called (λ n a. goal.F-post g c.args.service.now n a) g.bytes c.in_err-machine.field-0.0 read.snapshot read.loaded.assembles
    c.in_err-machine.ensures.reason)

pub report-text-requires : goal.report-text-requires
report-text-requires g c =
    let loaded = c.in_ok-snapshot.ensures.read.loaded in
    let run = c.in_ok-machine.ensures.run in
    programs (shown_job c.in_ok-snapshot.snapshot.job) c.in_ok-machine.machine loaded.well_formed.slots loaded.images.fits run.slots run.seen

pub returns-clause-made : goal.returns-clause-made
returns-clause-made g c =
    let s = c.in_ok-snapshot.snapshot in
    let j = shown_job s.job in
    let m = c.in_ok-machine.machine in
    let is : c.deref.result.now ≡ g.bytes = c.deref.ensures.value ∙ c.requires.1.1.0 in
    let read = subst (λ (t : List ℕ). IsRead t s) is c.in_ok-snapshot.ensures.read in
    let loaded = read.loaded in
    let run = c.in_ok-machine.ensures.run in
    with_both _ _ m _ _ c.with_machine.ensures.text c.with_machine.ensures.machine c.report-text.ensures
    (λ made text kept. made_with (λ n a. goal.F-post g c.args.service.now n a) Resume g.bytes read.snapshot loaded.assembles c.in_ok-machine.ensures.trusted
    made.text.items made.machine m kept refl
    (machine_of j m loaded.well_formed.slots loaded.images.fits run.slots run.seen (resumed_job g.bytes) loaded.told
    (λ n a. goal.F-post g c.args.service.now n a) run.journal)
    (report_own j m loaded.well_formed.slots loaded.images.fits run.slots run.seen (resumed_job g.bytes) loaded.told made.text.items text))
