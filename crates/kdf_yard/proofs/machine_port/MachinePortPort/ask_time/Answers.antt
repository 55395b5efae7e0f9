use Rattle.kdf_processor.specs.Effect.{Time}
use Rattle.kdf_yard.proofs.machine_port.MachinePortPort.ask_time.Goals as goal

pub returns-clause-recorded : goal.returns-clause-recorded
returns-clause-recorded c = c.tell.ensures Time tt
