use Rattle.std.proofs.Common.{ap, List, ℕ}
use Rattle.kdf_job.specs.Shows.{shown_job}
use Rattle.kdf_theory.specs.Loading as loading
use Rattle.kdf_top.proofs.LoadedDecks.{fitting_images, same_words}
use Rattle.kdf_top.proofs.Verdicts.{verdict_on}
use Rattle.kdf_top.proofs.checking.verdict_on.Goals as goal

pub check_with-requires-clause-images : goal.check_with-requires-clause-images
check_with-requires-clause-images g c = fitting_images c.args.job.now.slots.items c.args.images.now c.requires.images

pub returns-clause-text : goal.returns-clause-text
returns-clause-text g c =
    let job = c.args.job.now in
    verdict_on (λ n a. goal.F-post g c.args.service.now n a) (shown_job job) _ c.args.report.now _ c.in_ok-verdict.verdict
    (ap (λ (xs : List (List ℕ)). loading.slots_of (shown_job job).slots xs) (same_words job.slots.items c.args.images.now c.requires.images))
    c.in_ok-verdict.ensures c.in_ok-verdict_text.ensures
