use Rattle.std.proofs.Common.{ℕ, rules}
use Rattle.kdf_top.proofs.MadeTexts.{map_ok}
use Rattle.kdf_engine.specs.Service.{exchanged}
use Rattle.kdf_engine.proofs.Told.{called_by_run, tells_more}
use Rattle.kdf_engine.proofs.facts.facts_due.Goals as goal

pub returns-clause-called : goal.returns-clause-called
returns-clause-called c = λ run. map_ok _ _ c.facts.result (λ r same. called_by_run _ _ r.0 run same) (c.facts.ensures.called run)

pub returns-clause-run : goal.returns-clause-run
returns-clause-run c = λ run. map_ok _ _ c.facts.result (λ r is. tells_more _ exchanged (λ n a h. search rules) c.args.job.now r.1.items is)
    (c.facts.ensures.run run)
