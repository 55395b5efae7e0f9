use Rattle.std.proofs.Common.{ℕ, List, ap, ◌∙◌, arith}
use Rattle.kdf_job.specs.Shows.{shown_job}
use Rattle.kdf_theory.specs.Loading as loading
use Rattle.kdf_top.proofs.LoadedDecks.{fitting_images, same_words}
use Rattle.kdf_top.proofs.Schedules.{entries_bound, rises}
use Rattle.kdf_top.proofs.running.run_job.Goals as goal

pub load-requires-clause-images : goal.load-requires-clause-images
load-requires-clause-images g c = fitting_images c.args.job.now.slots.items c.args.images.now c.requires.images

pub follow-requires-clause-room : goal.follow-requires-clause-room
follow-requires-clause-room g c =
    let bound = entries_bound c.args.job.now.events.items in
    let room = c.in_ok-machine.ensures.room in
    rw c.deref.ensures.value (omega arith)

pub follow-requires-clause-rises : goal.follow-requires-clause-rises
follow-requires-clause-rises g c = rw c.deref.ensures.value (rises 0 c.args.job.now.events.items c.requires.job.schedule.rising c.requires.job.schedule.each)

pub returns-in-Ok-clause-slots : goal.returns-in-Ok-clause-slots
returns-in-Ok-clause-slots g c =
    c.in-Ok.ensures.slots ∙ c.in_ok-machine.ensures.slots
    ∙ ap (λ (xs : List (List ℕ)). loading.slots_of (shown_job c.args.job.now).slots xs)
    (same_words c.args.job.now.slots.items c.args.images.now c.requires.images)

pub follow-requires-clause-in_range : goal.follow-requires-clause-in_range
follow-requires-clause-in_range g c = rw c.deref.ensures.value c.requires.job.schedule.each

pub returns-in-Ok-clause-journal : goal.returns-in-Ok-clause-journal
returns-in-Ok-clause-journal g c = rw c.deref.ensures.value at c.in-Ok.ensures.journal
