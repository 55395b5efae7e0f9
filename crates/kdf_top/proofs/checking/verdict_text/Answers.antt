use Rattle.std.proofs.Common.{◌∙◌, ap, vec_items}
use Rattle.kdf_top.proofs.Verdicts.{verdict_whole}
use Rattle.kdf_top.proofs.checking.verdict_text.Goals as goal

pub returns : goal.returns
returns c =
    verdict_whole c.args.verdict _ _ _ _ c.new-out.ensures.bytes c.in_ok-write_head.ensures c.in_ok-write_verdict.ensures
    (ap vec_items c.into_bytes.ensures.value ∙ c.in_ok-write_end.ensures)
