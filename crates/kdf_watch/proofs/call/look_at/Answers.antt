use Rattle.std.specs.Option.{option_copied}
use Rattle.std.proofs.Common.{sym, ◌∙◌, ap}
use Rattle.kdf_watch.proofs.Looking.{absent, look_is}
use Rattle.kdf_watch.proofs.call.look_at.Goals as goal

pub unreachable-requires : goal.unreachable-requires
unreachable-requires c = absent c.args.machine.now c.args.p c.seen.ensures.seen c.requires (sym (ap option_copied c.in_default.is) ∙ c.seen.ensures.registers)

pub returns-clause-look : goal.returns-clause-look
returns-clause-look c =
    look_is c.args.machine.now c.args.p c.seen.ensures.seen c.requires c.in-Some.registers.now c.journal-journal.result.now.entries c.ran.result c.clock.result
    (sym (ap option_copied c.in-Some.is) ∙ c.seen.ensures.registers) c.journal-journal.ensures.entries c.ran.ensures c.clock.ensures
