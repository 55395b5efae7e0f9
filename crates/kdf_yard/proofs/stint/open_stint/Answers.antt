use Rattle.std.proofs.Common.{sym, ◌∙◌, arith}
use Rattle.kdf_yard.proofs.Physical.DevicesGivenBack.{shut_more}
use Rattle.kdf_yard.proofs.stint.open_stint.Goals as goal

pub loop-i-preserved : goal.loop-i-preserved
loop-i-preserved c =
    record {
      within = omega (arith, c.loop-i.invariant.within);
      shut = shut_more c.args.stints.now c.args.d c.loop-i.i c.index-stints-i.result c.loop-i-test.true c.loop-i.invariant.within c.index-stints-i.is
          (sym c.is_open.ensures ∙ c.if-is_open.false) c.loop-i.invariant.shut;
    }
