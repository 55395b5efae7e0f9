use Rattle.std.proofs.Common.{ap, sym, ◌∙◌, refl, subst, arith}
use Rattle.kdf_yard.specs.Fields.Running.{reach_at}
use Rattle.kdf_yard.specs.Fields.Shared.{moment}
use Rattle.kdf_yard.specs.Fields.Standing.{Standing, IsSameYard}
use Rattle.kdf_yard.specs.Fields.Yards.{AreLentIn, registers_in, HasTurnedIn, HasTurnedQuietly}
use Rattle.kdf_theory.proofs.Results.{if_ok, on_err}
use Rattle.kdf_yard.proofs.Turns.Batching.{told_by, told_still}
use Rattle.kdf_theory.proofs.Course.HeardWords.{heard_then}
use Rattle.kdf_yard.proofs.yard.Yard.try_at.Goals as goal

pub turn-requires-clause-live : goal.turn-requires-clause-live
turn-requires-clause-live g c = ap (λ (y : Standing). (registers_in y c.args.batch.i).state) c.heard-answer.ensures.same ∙ c.requires.live

pub turn-requires-clause-ran : goal.turn-requires-clause-ran
turn-requires-clause-ran g c =
    let same = ap (λ (y : Standing). (registers_in y c.args.batch.i).ran) c.heard-answer.ensures.same in
    omega (arith, same, c.requires.ran, c.batch_at.ensures.few)

pub turn-requires-clause-lent : goal.turn-requires-clause-lent
turn-requires-clause-lent g c =
    subst (λ (y : Standing). AreLentIn y c.args.batch.journal.now.entries) (sym c.heard-answer.ensures.same) c.requires.lent

pub returns-clause-same : goal.returns-clause-same
returns-clause-same g c = subst (λ (y : Standing). IsSameYard y c.turn.new.self) c.heard-answer.ensures.same c.turn.ensures.same

pub returns-clause-tried : goal.returns-clause-tried
returns-clause-tried g c =
    let y = c.args.self.now in
    let z = c.turn.new.self in
    let i = c.args.batch.i in
    let n = c.turn.result.0 in
    let h = c.unwrap_or-heard.result in
    if_ok c.turn.result.1 _ _
    (λ x turned.
    told_by (λ n a. goal.F-post g c.args.service.now n a) y.reaches c.args.batch.time i c.args.batch.place c.heard-answer.result h
    (heard_then c.heard-answer.result h c.default.result c.unwrap_or-heard.ensures c.default.ensures) y.seats y.shared c.heard-answer.ensures.asked
    (reach_at y.reaches i).served refl n
    (λ is. let few = c.turn.ensures.within in let one =
    c.batch_at.ensures.served (ap (λ (y : Standing). (reach_at y.reaches i).served) c.heard-answer.ensures.same ∙ is) in omega arith) z.seats z.shared x.0
    x.1
    (subst (λ (y : Standing). HasTurnedIn (moment c.args.batch.time h) i n c.args.batch.place y z x.0 x.1) c.heard-answer.ensures.same turned))
    c.turn.ensures.turned

pub returns-clause-err : goal.returns-clause-err
returns-clause-err g c =
    let y = c.args.self.now in
    let z = c.turn.new.self in
    let i = c.args.batch.i in
    let n = c.turn.result.0 in
    let h = c.unwrap_or-heard.result in
    on_err c.turn.result.1 _ _
    (λ still.
    told_still (λ n a. goal.F-post g c.args.service.now n a) y.reaches c.args.batch.time i c.args.batch.place c.heard-answer.result h
    (heard_then c.heard-answer.result h c.default.result c.unwrap_or-heard.ensures c.default.ensures) y.seats y.shared c.heard-answer.ensures.asked
    (reach_at y.reaches i).served refl n
    (λ is. let few = c.turn.ensures.within in let one =
    c.batch_at.ensures.served (ap (λ (y : Standing). (reach_at y.reaches i).served) c.heard-answer.ensures.same ∙ is) in omega arith) z.seats z.shared
    (subst (λ (y : Standing). HasTurnedQuietly (moment c.args.batch.time h) i n c.args.batch.place y z) c.heard-answer.ensures.same still))
    c.turn.ensures.err
