use Rattle.std.proofs.Common.{◌∙◌, refl}
use Rattle.kdf_job.specs.Shows.{shown_job}
use Rattle.kdf_top.specs.Snapshots.{resumed_job}
use Rattle.kdf_top.proofs.Reported.{programs, sealed_own}
use Rattle.kdf_top.proofs.Resumptions.{other_seal, same_seal}
use Rattle.kdf_top.proofs.resuming.compare_seal.Goals as goal

pub sealed_text-requires : goal.sealed_text-requires
sealed_text-requires g c =
    let loaded = c.requires.0.loaded in
    programs (shown_job c.args.snapshot.now.job) c.args.machine.now loaded.well_formed.slots loaded.images.fits c.requires.1.0 c.requires.1.1.0

pub returns-in-None-clause-same : goal.returns-in-None-clause-same
returns-in-None-clause-same g c =
    let s = c.args.snapshot.now in
    let read = c.requires.0 in
    let loaded = read.loaded in
    same_seal g.bytes s read c.args.machine.now _ _ c.requires.1.1.1 c.deref.ensures.value
    (c.deref-2.ensures.value ∙ c.in_ok-seal.ensures ∙ sealed_own (shown_job s.job) c.args.machine.now loaded.well_formed.slots loaded.images.fits
    c.requires.1.0 c.requires.1.1.0 (resumed_job g.bytes) loaded.told)
    c.in-None.ensures.none

pub returns-clause-other : goal.returns-clause-other
returns-clause-other g c =
    let s = c.args.snapshot.now in
    let read = c.requires.0 in
    let loaded = read.loaded in (
      tt {0},
      other_seal g.bytes s read c.args.machine.now _ _ c.requires.1.1.1 c.deref.ensures.value
          (c.deref-2.ensures.value ∙ c.in_ok-seal.ensures ∙ sealed_own (shown_job s.job) c.args.machine.now loaded.well_formed.slots loaded.images.fits
          c.requires.1.0 c.requires.1.1.0 (resumed_job g.bytes) loaded.told)
          c.in-Some.place _ c.in-Some.ensures.some refl,
    )
