use Rattle.std.proofs.Common.{◌≡◌, false, sym, subst, ◌∙◌, arith}
use Rattle.kdf_director.specs.Advance.{Advance}
use Rattle.kdf_theory.specs.Next.{any_live}
use Rattle.kdf_theory.specs.MachineView.{MachineView}
use Rattle.kdf_watch.proofs.Gone.{gone_blind, gone_same, on_err}
use Rattle.kdf_watch.proofs.Looking.{called_seen, called_unseen, slot_there}
use Rattle.kdf_watch.proofs.Passing.{pass_all, passed_of}
use Rattle.kdf_watch.proofs.call.call.Goals as goal

pub look_at-requires : goal.look_at-requires
look_at-requires g c =
    let x = c.in_ok-p.ensures.made in
    let p = pass_all (λ n a. goal.F-post g c.args.service.now n a) (λ look b. goal.G-post g c.args.watch.now look b) c.args.halt c.requires.stop x.some.before
    c.args.machine.now x.some.between (passed_of (λ n a. goal.F-post g c.args.service.now n a) c.args.halt x.some.before c.args.machine.now x.some.between
    c.requires.stop.may x.passed) c.journal-journal.ensures.legal (omega (arith, c.requires.few, x.count, x.some.count)) c.requires.time in
    slot_there (λ n a. goal.F-post g c.args.service.now n a) x.some.between c.orders_to-ended.new.self c.in_ok-p.field-0 x.some.last c.in-Ran.p c.in-Ran.is
    (c.orders_to-ended.ensures.slots ∙ sym p.slots)

pub returns-in-Ran-clause-called : goal.returns-in-Ran-clause-called
returns-in-Ran-clause-called g c =
    let x = c.in_ok-p.ensures.made in
    let p = pass_all (λ n a. goal.F-post g c.args.service.now n a) (λ look b. goal.G-post g c.args.watch.now look b) c.args.halt c.requires.stop x.some.before
    c.args.machine.now x.some.between (passed_of (λ n a. goal.F-post g c.args.service.now n a) c.args.halt x.some.before c.args.machine.now x.some.between
    c.requires.stop.may x.passed) c.journal-journal.ensures.legal (omega (arith, c.requires.few, x.count, x.some.count)) c.requires.time in
    let s =
    called_seen (λ n a. goal.F-post g c.args.service.now n a) x.some.between c.orders_to-ended.new.self c.in_ok-p.field-0 x.some.last c.in-Ran.p c.in-Ran.is
    (c.orders_to-ended.ensures.slots ∙ sym p.slots)
    (omega (arith, p.few, c.requires.few, x.count, x.some.count)) (omega (arith, p.time, c.requires.time)) c.look_at.result c.look_at.ensures.look in
    record { between = x.some.between; gone = p.gone; same = p.slots; legal = p.legal; note = s.0; tells = s.1; look_is = s.2; is_look = s.3 }

pub returns-in-Held-clause-called : goal.returns-in-Held-clause-called
returns-in-Held-clause-called g c =
    let x = c.in_ok-p.ensures.made in
    let p = pass_all (λ n a. goal.F-post g c.args.service.now n a) (λ look b. goal.G-post g c.args.watch.now look b) c.args.halt c.requires.stop x.some.before
    c.args.machine.now x.some.between (passed_of (λ n a. goal.F-post g c.args.service.now n a) c.args.halt x.some.before c.args.machine.now x.some.between
    c.requires.stop.may x.passed) c.journal-journal.ensures.legal (omega (arith, c.requires.few, x.count, x.some.count)) c.requires.time in
    let u = called_unseen (λ n a. goal.F-post g c.args.service.now n a) x.some.between c.orders_to-ended.new.self c.in_ok-p.field-0 x.some.last c.in-Held.is in
    gone_blind (λ look b. goal.G-post g c.args.watch.now look b) c.args.machine.now x.some.between c.orders_to-ended.new.self p.gone u.0 u.1 u.2

pub returns-in-AllEnded-clause-called : goal.returns-in-AllEnded-clause-called
returns-in-AllEnded-clause-called g c =
    let x = c.in_ok-p.ensures.made in
    let p = pass_all (λ n a. goal.F-post g c.args.service.now n a) (λ look b. goal.G-post g c.args.watch.now look b) c.args.halt c.requires.stop x.some.before
    c.args.machine.now x.some.between (passed_of (λ n a. goal.F-post g c.args.service.now n a) c.args.halt x.some.before c.args.machine.now x.some.between
    c.requires.stop.may x.passed) c.journal-journal.ensures.legal (omega (arith, c.requires.few, x.count, x.some.count)) c.requires.time in
    let over = subst (Advance x.some.last.heard x.some.between c.orders_to-ended.new.self) c.in-AllEnded.is x.some.last.advance in (
      gone_same (λ look b. goal.G-post g c.args.watch.now look b) c.args.machine.now x.some.between c.orders_to-ended.new.self p.gone over.1,
      subst (λ (m : MachineView). any_live m.slots m.journal ≡ false) (sym over.1) over.0,
    )

pub returns-in_err-p-clause-err : goal.returns-in_err-p-clause-err
returns-in_err-p-clause-err g c =
    let x = c.in_err-p.ensures.err in
    on_err c.from_residual.result _
    (pass_all (λ n a. goal.F-post g c.args.service.now n a) (λ look b. goal.G-post g c.args.watch.now look b) c.args.halt c.requires.stop x.made
    c.args.machine.now c.orders_to-ended.new.self
    (passed_of (λ n a. goal.F-post g c.args.service.now n a) c.args.halt x.made c.args.machine.now c.orders_to-ended.new.self c.requires.stop.may x.passed)
    c.journal-journal.ensures.legal (omega (arith, c.requires.few, x.fewer)) c.requires.time).gone
