use Rattle.std.proofs.Common.{append-nil, sym}
use Rattle.kdf_place.specs.Names.{openings}
use Rattle.kdf_place.proofs.Grown.{ended}
use Rattle.kdf_place.proofs.entries.openings.Goals as goal

pub returns : goal.returns
returns c =
    let out = c.loop-i.openings.items in
    ended openings out out _ c.loop-i.here c.loop-i.i c.args.statements.now c.loop-i-test.false c.loop-i.invariant.all (sym (append-nil out))
