use Rattle.std.proofs.Common.{ap, subst, ◌∙◌}
use Rattle.kdf_processor.specs.Effect.{Asks, IsBusy}
use Rattle.kdf_theory.specs.True.{one_if}
use Rattle.kdf_yard.specs.Fields.MachinePort.{Acts}
use Rattle.kdf_yard.proofs.Physical.PartsShow.{one_more}
use Rattle.kdf_yard.proofs.machine_port.MachinePortPort.ask_busy.Goals as goal

pub returns-clause-answer : goal.returns-clause-answer
returns-clause-answer c = one_more _ _ c.is_busy-is.ensures

pub returns-clause-recorded : goal.returns-clause-recorded
returns-clause-recorded c =
    subst (λ a. Acts c.args.self.now (Asks (IsBusy c.args.device) a) c.tell.new.self)
    (c.answer_of.ensures ∙ ap one_if c.is_busy-is.ensures) (c.tell.ensures (IsBusy c.args.device) tt)
