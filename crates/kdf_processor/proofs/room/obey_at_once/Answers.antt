use Rattle.std.proofs.Common.{Option, None, Some}
use Rattle.std.specs.Prelude.{IfSome}
use Rattle.kdf_processor.proofs.room.obey_at_once.Goals as goal

pub obey_quickly-requires-clause-small : goal.obey_quickly-requires-clause-small
obey_quickly-requires-clause-small g c =
    λ act small. g.met.P.Reserve.little c.args.port.now act c.requires.ready small

with_some : {X : Type 0} {P Q : X → Type 0} (o : Option X) → ((x : X) → P x → Q x) → IfSome o P → IfSome o Q
with_some None f h = tt
with_some (Some x) f h = f x h

pub returns-clause-obeyed : goal.returns-clause-obeyed
returns-clause-obeyed g c =
    with_some c.obey_quickly.result
    (λ _ obeyed. record { kept = c.args.port.now; stays = g.met.P.Reserve.itself c.args.port.now; obeyed = obeyed })
    c.obey_quickly.ensures.obeyed
