use Rattle.kdf_processor.specs.Effect.{Asks, FreeOf}
use Rattle.kdf_check.proofs.check_port.CheckPortPort.take_pool.Goals as goal

pub take_pool-d-requires-clause-room : goal.take_pool-d-requires-clause-room
take_pool-d-requires-clause-room c = c.prepare.ensures.room (Asks (FreeOf c.args.kind) 0) c.requires.room
