use Rattle.std.specs.Option.{option_copied}
use Rattle.std.proofs.Common.{sym, ◌∙◌, ap}
use Rattle.kdf_watch.proofs.Looking.{is_on, lives_is}
use Rattle.kdf_watch.proofs.event.lives.Goals as goal

pub returns-in-Some : goal.returns-in-Some
returns-in-Some c =
    c.is_on.ensures
    ∙ ap is_on (sym (ap option_copied c.in-Some.is) ∙ c.seen.ensures.registers)
    ∙ lives_is c.args.machine.now c.args.p c.seen.ensures.seen c.seen.ensures.legal

pub returns-in-None : goal.returns-in-None
returns-in-None c =
    ap is_on (sym (ap option_copied c.in-None.is) ∙ c.seen.ensures.registers)
    ∙ lives_is c.args.machine.now c.args.p c.seen.ensures.seen c.seen.ensures.legal
