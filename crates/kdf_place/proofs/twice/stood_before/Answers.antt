use Rattle.std.proofs.Common.{◌∙◌, arith}
use Rattle.kdf_place.proofs.Firsts.{stood-directly}
use Rattle.kdf_place.proofs.twice.stood_before.Goals as goal

pub returns : goal.returns
returns g c =
    c.is_named.ensures.value
    ∙ stood-directly c.args.entries.now c.args.i c.args.entry.now c.index-entries-i.result c.requires.rising (omega arith) c.requires.within c.requires.is
    c.index-entries-i.is (omega arith) (omega (arith, c.is_named.ensures.small))
