use Rattle.std.proofs.Common.{subst}
use Rattle.kdf_processor.specs.Effect.{Asks, OfService}
use Rattle.kdf_yard.specs.Fields.MachinePort.{Acts}
use Rattle.kdf_yard.proofs.machine_port.MachinePortPort.ask_service.Goals as goal

pub returns-clause-recorded : goal.returns-clause-recorded
returns-clause-recorded c =
    subst (λ a. Acts c.args.self.now (Asks (OfService c.args._word) a) c.tell.new.self) c.bits.ensures.value
    (c.tell.ensures (OfService c.args._word) tt)
