use Rattle.std.specs.Prelude.{IfOk}
use Rattle.std.proofs.Common.{◌≡◌, ℕ, true, Ok, Result, refl, sym, ap, ◌∙◌, subst, arith}
use Rattle.kdf_processor.specs.State.{State}
use Rattle.kdf_alone.specs.declared.lone_port.LonePort.{LonePort}
use Rattle.kdf_theory.specs.ByJournal.{own}
use Rattle.kdf_check.specs.Entered.{IsNote}
use Rattle.kdf_check.proofs.Entries.{note_is}
use Rattle.kdf_check.proofs.Running.{batch_turned}
use Rattle.kdf_check.proofs.Tries.{batch_over, heard_with, posed_with}
use Rattle.kdf_check.proofs.turns.turn.Goals as goal

known : {A E : Type 0} (P : A → Type 0) (r : Result A E) (a : A) → r ≡ Ok a → IfOk r P → P a
known P r a is h = subst (λ t. IfOk t P) is h

pub enter-requires-clause-note : goal.enter-requires-clause-note
enter-requires-clause-note g c =
    let batch = known _ c.try_orders-quiet.result.1 (c.in_ok-ending.ending, c.in_ok-ending.entry) c.in_ok-ending.was c.try_orders-quiet.ensures.tried in
    subst IsNote (sym batch.last.told_is) (note_is _ _ _)

pub returns-clause-turned : goal.returns-clause-turned
returns-clause-turned g c =
    let answers : ℕ → ℕ → Type 0 = λ n a. goal.F-post g c.args.service.now n a in
    let J = c.args.journal.now.entries in
    let x = c.args.program.now in
    let t = c.args.table.now.places in
    let heard = c.service_answer-answer in
    let h = c.unwrap_or-heard.result in
    let left = c.try_orders-quiet.new in
    let quiet = c.try_orders-quiet.result.0 in
    let posed = c.requires.1.1.1.0 in
    let s : State = own g.slots J x.p in
    let batch =
    batch_over x.p J h quiet x.registers left.registers x.bench heard.new.bench left.bench t heard.new.table.places left.table.places
    c.in_ok-ending.ending c.in_ok-ending.entry heard.ensures.bench (ap (λ u. u.places) heard.ensures.table)
    (known _ c.try_orders-quiet.result.1 (c.in_ok-ending.ending, c.in_ok-ending.entry) c.in_ok-ending.was c.try_orders-quiet.ensures.tried) in
    let served_is : heard.new.bench.served ≡ s.stock.claims.served =
    ap (λ (k : LonePort). k.served) heard.ensures.bench ∙ ap (λ (y : State). y.stock.claims.served) posed.own_is in
    let few : s.stock.claims.served ≡ true → quiet ≡ 0 = λ served.
    let one = c.batch_of-batch.ensures.served (served_is ∙ served) in
    let less = c.try_orders-quiet.ensures.within in
    omega (arith, one, less) in
    batch_turned answers g.slots J x.p t h x.registers x.bench (posed_with g.slots J x.p t x.registers x.bench posed h) c.requires.1.1.0
    quiet _ left.table.places c.in_ok-ending.ending c.in_ok-ending.entry c.enter.new.journal.entries
    (heard_with g.slots J x.p t x.registers x.bench posed answers heard.result h c.default.result c.unwrap_or-heard.ensures c.default.ensures
    heard.ensures.asked)
    s.stock.claims.served refl few batch refl c.hold_left-program.ensures c.enter.ensures
