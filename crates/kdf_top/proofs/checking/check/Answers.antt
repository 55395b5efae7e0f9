use Rattle.std.proofs.Common.{◌∙◌, ap, drop}
use Rattle.kdf_job.specs.Shows.{shown_job}
use Rattle.kdf_top.proofs.LoadedDecks.{all_decks}
use Rattle.kdf_top.proofs.MadeTexts.{map_ok}
use Rattle.kdf_top.proofs.Verdicts.{verdict_of}
use Rattle.kdf_top.proofs.checking.check.Goals as goal

pub assemble_decks-requires : goal.assemble_decks-requires
assemble_decks-requires g c = rw c.deref.ensures.value (all_decks c.in_ok-job.job c.in_ok-job.ensures.well_formed)

pub verdict_on-requires-clause-images : goal.verdict_on-requires-clause-images
verdict_on-requires-clause-images g c = rw c.deref-2.ensures.value (rw c.deref.ensures.value at c.in_ok-images.ensures.images)

pub returns-clause-text : goal.returns-clause-text
returns-clause-text g c =
    let bytes = c.args.text.now in
    map_ok _ _ c.verdict_on.result
    (λ due said. verdict_of (λ n a. goal.F-post g c.args.service.now n a) bytes (shown_job c.in_ok-job.job) c.rest.result.now due.items
    c.in_ok-job.ensures.shown
    (c.rest.ensures ∙ ap (λ n. drop n bytes) c.in_ok-job.ensures.offset) said)
    c.verdict_on.ensures.text
