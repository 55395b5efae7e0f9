use Rattle.std.proofs.Common.{◌∙◌, ap, refl, List, ℕ}
use Rattle.kdf_job.specs.Shows.{shown_job}
use Rattle.kdf_theory.specs.Loading as loading
use Rattle.kdf_check.proofs.Pairs.{pair}
use Rattle.kdf_top.proofs.LoadedDecks.{fitting_images, same_words}
use Rattle.kdf_top.proofs.Resumptions.{other_journal}
use Rattle.kdf_top.proofs.resuming.run_on.Goals as goal

pub rebuild_with-requires-clause-images : goal.rebuild_with-requires-clause-images
rebuild_with-requires-clause-images g c =
    let s = c.args.snapshot.now in
    rw c.deref.ensures.value (fitting_images s.job.slots.items s.images.items c.requires.1.1.0.loaded.images)

pub go_on-requires : goal.go_on-requires
go_on-requires g c =
    let s = c.args.snapshot.now in
    let made = c.in-Ok.ensures in
    λ lives within. pair within (pair c.requires.1.0 (pair c.requires.1.1.0 (record {
      slots = (rw c.deref.ensures.value at made.slots) ∙ ap (λ (xs : List (List ℕ)). loading.slots_of (shown_job s.job).slots xs)
          (same_words s.job.slots.items s.images.items c.requires.1.1.0.loaded.images);
      journal = made.journal;
      seen = made.seen;
      entries = made.entries ∙ c.deref-2.ensures.value ∙ c.requires.1.1.1;
      room = made.room;
    })))

pub returns-in-Err-Differs-clause-reason : goal.returns-in-Err-Differs-clause-reason
returns-in-Err-Differs-clause-reason g c =
    let s = c.args.snapshot.now in
    let refused = rw (c.deref.ensures.value, c.deref-2.ensures.value) at (rw c.in-Err-Differs.field-0-is at c.in-Err-Differs.ensures.refused) in
    rw c.in-Err-Differs.field-0-is (
      tt {0},
      other_journal g.bytes s c.requires.1.1.0 (λ n a. goal.F-post g c.args.service.now n a) _ c.args.entries.items refused.0 c.in-Err-Differs.place _
          c.requires.1.1.1
          (ap (λ (xs : List (List ℕ)). loading.slots_of (shown_job s.job).slots xs)
          (same_words s.job.slots.items s.images.items c.requires.1.1.0.loaded.images))
          refused.1 refused.2 refl,
    )
