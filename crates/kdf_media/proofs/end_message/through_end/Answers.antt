use Rattle.std.proofs.Common.{sym}
use Rattle.kdf_media.proofs.Ends.{through_found, through_none}
use Rattle.kdf_media.proofs.end_message.through_end.Goals as goal

pub returns-in-Some-clause-through : goal.returns-in-Some-clause-through
returns-in-Some-clause-through c = through_found c.args.codes.now c.in-Some.place (sym c.in-Some.ensures)

pub returns-in-None-clause-through : goal.returns-in-None-clause-through
returns-in-None-clause-through c = through_none c.args.codes.now (sym c.in-None.ensures)
