use Rattle.std.proofs.lemmas.Result.{IfOk-weaker}
use Rattle.kdf_job.specs.Shows.{shown_draft, shown_job}
use Rattle.kdf_job.specs.WellFormed.{IsJob}
use Rattle.kdf_job.proofs.Finished.{well_formed}
use Rattle.kdf_job.proofs.draft.Draft.finish.Goals as goal

pub returns-clause-well_formed : goal.returns-clause-well_formed
returns-clause-well_formed c =
    let draft = c.args.self in
    let told = c.in_ok-push_last.ensures in
    IfOk-weaker c.job_with.result _ (λ j. IsJob (shown_job j))
    (λ j is. well_formed draft.words draft.numbers.items (shown_draft draft) _ (shown_job j) c.requires.sound c.requires.place told is) c.job_with.ensures
