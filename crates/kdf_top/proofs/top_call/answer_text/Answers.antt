use Rattle.std.proofs.Common.{ℕ, Some, subst, sym}
use Rattle.std.proofs.lemmas.Bool.{false≢true}
use Rattle.kdf_top.specs.Answers.{IsCalled, IsMade, status_of}
use Rattle.kdf_top.proofs.Answering.{given_made, given_memory, given_refused, given_write_fault}
use Rattle.kdf_top.proofs.Called.{one_called}
use Rattle.kdf_top.proofs.top_call.answer_text.Goals as goal

pub returns-in-Ok-write_all : goal.returns-in-Ok-write_all
returns-in-Ok-write_all g c =
    let answers : ℕ → ℕ → Type 0 = λ n a. goal.F-post g c.args.service.now n a in
    let made : IsMade answers c.args.command c.args.text.items c.deref.result.now c.in-Ok.field-0.machine =
    subst (λ z. IsMade answers c.args.command c.args.text.items z c.in-Ok.field-0.machine) (sym c.deref.ensures.value) (rw c.in-Ok.is at c.produce.ensures.made)
    in
    given_made answers c.requires.service.one c.args.command c.args.text.items _ _ made _ _ c.in-Ok-write_all.ensures.all c.write_all.ensures.room_count
    c.write_all.ensures.never_falls

pub returns-in-Ok : goal.returns-in-Ok
returns-in-Ok g c =
    let answers : ℕ → ℕ → Type 0 = λ n a. goal.F-post g c.args.service.now n a in
    let made : IsMade answers c.args.command c.args.text.items c.deref.result.now c.in-Ok.field-0.machine =
    subst (λ z. IsMade answers c.args.command c.args.text.items z c.in-Ok.field-0.machine) (sym c.deref.ensures.value) (rw c.in-Ok.is at c.produce.ensures.made)
    in
    rw (c.give_up.ensures.status, c.give_up.ensures.machine)
    (given_write_fault answers c.requires.service.one c.args.command c.args.text.items _ _ made _ _
    c.in-Err.ensures.failed c.in-Err.ensures.front (λ h. false≢true (c.in-Err.ensures.room_takes h)) c.write_all.ensures.never_falls)

pub returns-in-Err-Refused : goal.returns-in-Err-Refused
returns-in-Err-Refused g c =
    let answers : ℕ → ℕ → Type 0 = λ n a. goal.F-post g c.args.service.now n a in
    let reason = rw c.in-Err-Refused.field-0-is at (rw c.in-Err-Refused.is at c.produce.ensures.reason) in
    rw c.refuse.ensures.machine
    (given_refused answers (IsCalled answers c.args.command c.args.text.items) c.in-Err-Refused.status (Some c.args.command) c.args.text.items _ _ _ reason.0
    reason.1
    (λ x called. one_called answers c.requires.service.one c.args.command c.args.text.items (status_of c.args.command c.args.text.items) x
    c.in-Err-Refused.status called reason.1)
    c.refuse.ensures.refused)

pub returns : goal.returns
returns g c = rw (c.without_machine.ensures.status, c.without_machine.ensures.machine) (given_memory _ _ _ _ _)
