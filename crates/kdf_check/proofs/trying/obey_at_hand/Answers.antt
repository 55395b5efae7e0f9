use Rattle.std.proofs.Common.{Option, None, Some, sym, subst}
use Rattle.std.specs.Prelude.{IfNone, IfSome}
use Rattle.kdf_processor.specs.declared.step.Step.TheVariants.{Done}
use Rattle.kdf_check.specs.declared.check_port.CheckPort.{CheckPort}
use Rattle.kdf_check.specs.CheckPort.{SameOrder}
use Rattle.kdf_check.proofs.CheckPorts.{order_itself, order_then, tried_by}
use Rattle.kdf_check.proofs.trying.obey_at_hand.Goals as goal

with_some : {X : Type 0} {P Q : X → Type 0} (o : Option X) → ((x : X) → P x → Q x) → IfSome o P → IfSome o Q
with_some None f h = tt
with_some (Some x) f h = f x h

either : {X : Type 0} {P : X → Type 0} {Q R : Type 0} (o : Option X) → ((x : X) → P x → R) → (Q → R) → IfSome o P → IfNone o Q → R
either None f g some none = g none
either (Some x) f g some none = f x some

pub returns-clause-tried : goal.returns-clause-tried
returns-clause-tried c =
    with_some c.obey_at_once.result
    (λ _ done. tried_by c.args.desk.now done.kept c.obey_at_once.new.port c.args.registers.now c.obey_at_once.new.registers Done
    c.requires.order c.requires.quiet done.stays done.obeyed.step done.obeyed.registers done.obeyed.acted)
    c.obey_at_once.ensures.obeyed

pub returns-clause-same : goal.returns-clause-same
returns-clause-same c =
    either c.obey_at_once.result
    (λ _ done. order_then c.args.desk.now done.kept c.obey_at_once.new.port _ done.stays done.obeyed.acted)
    (λ left. subst (λ (d : CheckPort). SameOrder c.args.desk.now d) (sym left.1) (order_itself c.args.desk.now))
    c.obey_at_once.ensures.obeyed c.obey_at_once.ensures.left
