use Rattle.std.proofs.Common.{◌<◌, length, arith}
use Rattle.kdf_account.proofs.Told.{calls_more, no_moment}
use Rattle.kdf_account.proofs.tallies.tally_of.Goals as goal

pub after-lane-requires : goal.after-lane-requires
after-lane-requires c =
    let lt : c.loop-moment.moment-index < length c.args.moments.now = omega arith in
    omega (arith, c.loop-moment.invariant.total, calls_more c.args.moments.now c.loop-moment.moment-index no_moment lt, c.requires)
