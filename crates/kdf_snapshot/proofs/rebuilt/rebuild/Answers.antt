use Rattle.std.proofs.Common.{List, map, rules, take, ℕ}
use Rattle.kdf_place.specs.declared.image.Image.{Image}
use Rattle.kdf_job.specs.Job.{ShownSlot}
use Rattle.kdf_job.specs.Shows.{shown_slot}
use Rattle.kdf_theory.specs.Loading.{slots_of}
use Rattle.kdf_snapshot.proofs.Fronts.{rising-front}
use Rattle.kdf_snapshot.proofs.Unserved.{unserved-err, unserved-loaded, unserved-ok}
use Rattle.kdf_snapshot.proofs.rebuilt.rebuild.Goals as goal

pub returns-clause-journal : goal.returns-clause-journal
returns-clause-journal c =
    let job = c.args.job.now in
    let schedule = c.requires.job.schedule in
    let slots : List ShownSlot = map shown_slot job.slots.items in
    let images : List (List ℕ) = map (λ (x : Image). x.words.items) c.args.images.now in
    unserved-ok _ (slots_of slots images) (unserved-loaded slots images c.requires.unserved) (take c.args.first job.events.items)
    (rising-front 0 c.args.first job.events.items schedule.rising schedule.each) c.rebuild_with.result c.rebuild_with.ensures.slots
    c.rebuild_with.ensures.journal (λ n a b lt p q. search rules)

pub returns-clause-refused : goal.returns-clause-refused
returns-clause-refused c =
    let job = c.args.job.now in
    let schedule = c.requires.job.schedule in
    let slots : List ShownSlot = map shown_slot job.slots.items in
    let images : List (List ℕ) = map (λ (x : Image). x.words.items) c.args.images.now in
    unserved-err _ (slots_of slots images) (unserved-loaded slots images c.requires.unserved) (take c.args.first job.events.items)
    (rising-front 0 c.args.first job.events.items schedule.rising schedule.each) c.args.entries.now c.rebuild_with.result c.rebuild_with.ensures.refused
    (λ n a b lt p q. search rules)
