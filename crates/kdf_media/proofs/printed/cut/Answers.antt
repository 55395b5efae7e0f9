use Rattle.std.proofs.Common.{◌∙◌, arith}
use Rattle.kdf_media.proofs.Runs.{cut_all}
use Rattle.kdf_media.proofs.printed.cut.Goals as goal

pub returns : goal.returns
returns c =
    c.truncate.ensures.items ∙
    cut_all c.loop-i.kept c.loop-i.i c.loop-i.room c.len-i-end.result c.loop-i.block.items c.args.block.now.items c.loop-i.invariant (omega arith)
