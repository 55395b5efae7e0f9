use Rattle.std.proofs.Common.{Option, refl, subst, arith}
use Rattle.std.specs.Prelude.{IfSome}
use Rattle.kdf_syllable.specs.declared.order.Order.{Order}
use Rattle.kdf_processor.specs.declared.step.Step.TheVariants.{Done}
use Rattle.kdf_processor.specs.Outcome.{CameTo}
use Rattle.kdf_processor.specs.Plan.{try_decoded}
use Rattle.kdf_processor.proofs.Classes.{of_jump, of_one, of_store, of_two}
use Rattle.kdf_processor.proofs.quick.obey_spelt.Goals as goal

pub returns-in-0-to-63-clause-obeyed : goal.returns-in-0-to-63-clause-obeyed
returns-in-0-to-63-clause-obeyed g c =
    let range = c.in-0-to-63 in
    let is = of_one c.args.first c.args.second c.args.third _ refl (omega arith) in
    let new = c.obey_by_code.new in
    subst (λ (o : Option Order). IfSome c.obey_by_code.result
    (λ _. CameTo g.P.Port.acts (try_decoded (g.P.Port.shows c.args.port.now) c.args.registers.now o) c.args.port.now c.args.port.now new.registers Done))
    is c.obey_by_code.ensures.obeyed

pub returns-in-64-to-127-clause-obeyed : goal.returns-in-64-to-127-clause-obeyed
returns-in-64-to-127-clause-obeyed g c =
    let range = c.in-64-to-127 in
    let is = of_two c.args.first c.args.second c.args.third _ refl (omega arith) (omega arith) in
    let new = c.obey_by_pair.new in
    subst (λ (o : Option Order). IfSome c.obey_by_pair.result
    (λ _. CameTo g.P.Port.acts (try_decoded (g.P.Port.shows c.args.port.now) c.args.registers.now o) c.args.port.now new.port new.registers Done))
    is c.obey_by_pair.ensures.obeyed

pub returns-in-128-to-191-clause-obeyed : goal.returns-in-128-to-191-clause-obeyed
returns-in-128-to-191-clause-obeyed g c =
    let range = c.in-128-to-191 in
    let is = of_jump c.args.first c.args.second c.args.third _ refl (omega arith) (omega arith) in
    let new = c.obey_by_triple.new in
    subst (λ (o : Option Order). IfSome c.obey_by_triple.result
    (λ _. CameTo g.P.Port.acts (try_decoded (g.P.Port.shows c.args.port.now) c.args.registers.now o) c.args.port.now c.args.port.now new.registers Done))
    is c.obey_by_triple.ensures.obeyed

pub returns-in-192-to-255-clause-obeyed : goal.returns-in-192-to-255-clause-obeyed
returns-in-192-to-255-clause-obeyed g c =
    let range = c.in-192-to-255 in
    let is = of_store c.args.first c.args.second c.args.third _ c.decode_store.ensures.decoded (omega arith) in
    let new = c.obey_store.new in
    subst (λ (o : Option Order). IfSome c.obey_store.result
    (λ _. CameTo g.P.Port.acts (try_decoded (g.P.Port.shows c.args.port.now) c.args.registers.now o) c.args.port.now new.port new.registers Done))
    is c.obey_store.ensures.obeyed
