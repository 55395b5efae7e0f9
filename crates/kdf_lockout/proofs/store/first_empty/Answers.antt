use Rattle.std.proofs.Common.{◌≡◌, ◌+◌, false, ◌∙◌, arith}
use Rattle.kdf_lockout.specs.Groups.{is_out}
use Rattle.kdf_lockout.proofs.Ranges.{find_step, not_missing}
use Rattle.kdf_lockout.proofs.store.first_empty.Goals as goal

pub loop-k-preserved : goal.loop-k-preserved
loop-k-preserved c =
    let here : is_out c.args.groups.now (c.args.first + c.loop-k.k) ≡ false =
    not_missing c.args.groups.now (c.args.first + c.loop-k.k) c.index-groups-first.result c.is_none.result (omega arith) c.index-groups-first.is
    c.is_none.ensures c.if-is_none.false in
    c.loop-k.invariant ∙ find_step (is_out c.args.groups.now) c.args.first c.loop-k.k c.args.count c.loop-k-test.true here
