use Rattle.std.proofs.Common.{sym}
use Rattle.kdf_processor.proofs.room.obey_buffered.Goals as goal

pub obey_quickly-requires-clause-small : goal.obey_quickly-requires-clause-small
obey_quickly-requires-clause-small g c =
    λ act small. g.met.P.Reserve.little c.args.port.now act c.requires.ready small

pub returns-in-Some-clause-obeyed : goal.returns-in-Some-clause-obeyed
returns-in-Some-clause-obeyed g c =
    record { kept = c.args.port.now; stays = g.met.P.Reserve.itself c.args.port.now; obeyed = c.in-Some.ensures.obeyed }

pub returns-in-None-clause-obeyed : goal.returns-in-None-clause-obeyed
returns-in-None-clause-obeyed g c =
    let left = c.in-None.ensures.left in
    rw (sym left.0, sym left.1) c.obey_any.ensures.obeyed

pub returns-in-None-clause-err : goal.returns-in-None-clause-err
returns-in-None-clause-err g c =
    let left = c.in-None.ensures.left in
    rw (sym left.0, sym left.1) c.obey_any.ensures.err
