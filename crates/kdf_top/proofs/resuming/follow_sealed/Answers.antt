use Rattle.std.proofs.Common.{◌∙◌}
use Rattle.std.proofs.lemmas.Result.{err_from_is_err_and}
use Rattle.kdf_top.proofs.Resumptions.{journal_front, reason_for, trusted}
use Rattle.kdf_top.proofs.Schedules.{rises}
use Rattle.kdf_top.proofs.resuming.follow_sealed.Goals as goal

pub returns-in_err-compare_seal-clause-reason : goal.returns-in_err-compare_seal-clause-reason
returns-in_err-compare_seal-clause-reason g c =
    let s = c.args.snapshot.now in
    let saved = c.requires.1.1.1 in
    let p = err_from_is_err_and c.from_residual.result c.from_residual.ensures.1 in
    rw (p.1, p.2) (reason_for _ g.bytes c.args.machine.now.journal c.in_err-compare_seal.field-0.0
    (journal_front g.bytes s c.requires.1.1.0 _ c.args.machine.now.slots c.args.machine.now.journal saved.slots saved.journal)
    c.in_err-compare_seal.ensures.other)

pub follow_on-requires-clause-rises : goal.follow_on-requires-clause-rises
follow_on-requires-clause-rises g c =
    let schedule = c.requires.1.1.0.loaded.well_formed.schedule in
    rw c.deref.ensures.value (rises 0 c.args.snapshot.now.job.events.items schedule.rising schedule.each)

pub returns-clause-trusted : goal.returns-clause-trusted
returns-clause-trusted g c = trusted g.bytes c.args.snapshot.now c.requires.1.1.0 _ c.args.machine.now c.requires.1.1.1 c.in_ok-compare_seal.ensures.same

pub follow_on-requires-clause-followed : goal.follow_on-requires-clause-followed
follow_on-requires-clause-followed g c = rw c.deref.ensures.value c.requires.1.1.1.journal

pub follow_on-requires-clause-room : goal.follow_on-requires-clause-room
follow_on-requires-clause-room g c = rw c.deref.ensures.value c.requires.1.1.1.room

pub returns-clause-run : goal.returns-clause-run
returns-clause-run g c =
    record {
      slots = c.follow_on.ensures.slots ∙ c.requires.1.1.1.slots;
      journal = rw c.deref.ensures.value at c.in_ok-follow_on.ensures.journal;
      seen = c.in_ok-follow_on.ensures.seen;
    }
