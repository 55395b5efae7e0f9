use Rattle.clap.specs.Words.{app_of}
use Rattle.kdf_command.proofs.Values.{simple}
use Rattle.kdf_command.proofs.command.values.parsed.Goals as goal

pub returns-in-Ok : goal.returns-in-Ok
returns-in-Ok c =
    (c.in-Ok.ensures.kinds c.requires, (c.in-Ok.ensures.matches (simple (app_of c.args.command) c.requires)).0)
