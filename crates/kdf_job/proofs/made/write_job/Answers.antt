use Rattle.std.proofs.lemmas.Result.{on_ok_weaker}
use Rattle.kdf_text.proofs.Texts.{text_more}
use Rattle.kdf_job.proofs.MadeTexts.{job_written}
use Rattle.kdf_job.proofs.made.write_job.Goals as goal

pub returns : goal.returns
returns c =
    let slots = text_more _ _ _ _ _ c.in_ok-write_line.ensures c.in_ok-write_slots.ensures in
    let schedule = text_more _ _ _ _ _ slots c.in_ok-write_line-2.ensures in
    let rounds = text_more _ _ _ _ _ schedule c.in_ok-write_rounds.ensures in
    on_ok_weaker _ (job_written c.args.n _ _ _ rounds) c.write_line-3.ensures
