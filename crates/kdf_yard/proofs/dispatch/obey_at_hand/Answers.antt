use Rattle.std.proofs.Common.{◌≡◌, inl, inr, Option, None, Some, ap, sym, subst, ◌∙◌}
use Rattle.std.specs.Prelude.{IfNone, IfSome}
use Rattle.kdf_processor.specs.Buffered.{IsWritten}
use Rattle.kdf_processor.specs.declared.step.Step.TheVariants.{Done}
use Rattle.kdf_yard.specs.declared.machine_port.MachinePort.{MachinePort}
use Rattle.kdf_yard.specs.declared.remark.Remark.TheVariants.{Quiet}
use Rattle.kdf_yard.specs.Fields.MachinePort.{Acts, SameProgram}
use Rattle.kdf_yard.proofs.Turns.TurnsShow.{program_acts, program_itself, program_stays, program_then, tried_by}
use Rattle.kdf_yard.proofs.dispatch.obey_at_hand.Goals as goal

with_some : {X : Type 0} {P Q : X → Type 0} (o : Option X) → ((x : X) → P x → Q x) → IfSome o P → IfSome o Q
with_some None f h = tt
with_some (Some x) f h = f x h

either : {X : Type 0} {P : X → Type 0} {Q R : Type 0} (o : Option X) → ((x : X) → P x → R) → (Q → R) → IfSome o P → IfNone o Q → R
either None f g some none = g none
either (Some x) f g some none = f x some

pub returns-clause-tried : goal.returns-clause-tried
returns-clause-tried c =
    with_some c.obey_at_once.result
    (λ _ done. tried_by c.args.turn.now done.kept c.obey_at_once.new.port c.args.registers.now c.obey_at_once.new.registers Done c.requires.quiet done.stays
    done.obeyed.step done.obeyed.registers done.obeyed.acted)
    c.obey_at_once.ensures.obeyed

pub returns-clause-same : goal.returns-clause-same
returns-clause-same c =
    either c.obey_at_once.result
    (λ _ done. program_then c.args.turn.now done.kept c.obey_at_once.new.port (program_stays c.args.turn.now done.kept done.stays)
    (program_acts done.kept c.obey_at_once.new.port _ done.obeyed.acted))
    (λ left. subst (λ (t : MachinePort). SameProgram c.args.turn.now t) (sym left.1) (program_itself c.args.turn.now))
    c.obey_at_once.ensures.obeyed c.obey_at_once.ensures.left

-- a turn after which nothing is noted, whether it is as it was, or a word was written in it
still : (t u : MachinePort) → t.note ≡ Quiet → IsWritten Acts t u → u.note ≡ Quiet
still t u quiet (inl same) = ap (λ (w : MachinePort). w.note) same ∙ quiet
still t u quiet (inr (a, w, acted)) = acted.note ∙ quiet

pub returns-clause-quiet : goal.returns-clause-quiet
returns-clause-quiet c =
    either c.obey_at_once.result (λ _ wrote. still c.args.turn.now c.obey_at_once.new.port c.requires.quiet wrote)
    (λ left. ap (λ (w : MachinePort). w.note) left.1 ∙ c.requires.quiet)
    c.obey_at_once.ensures.wrote c.obey_at_once.ensures.left
