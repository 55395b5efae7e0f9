use Rattle.std.proofs.Common.{ℕ, List, Some, sym, ap, subst, ◌∙◌}
use Rattle.std.proofs.lemmas.Result.{on_ok_weaker}
use Rattle.kdf_usercode.specs.Faults.{lesser}
use Rattle.kdf_usercode.specs.Forms.{form_in}
use Rattle.kdf_usercode.specs.Parsed.{Parsed, parsed}
use Rattle.kdf_usercode.specs.Reading.{ReadsForm}
use Rattle.kdf_usercode.specs.Orders.{formless}
use Rattle.kdf_usercode.proofs.Gain.{reads-ended, reads-formless, reads-form, reads-capped}
use Rattle.kdf_usercode.proofs.reading.Reading.statement.Goals as goal

pub returns-then-is_ended : goal.returns-then-is_ended
returns-then-is_ended c = reads-ended c.args.self.now c.with-self.result (parsed c.args.place c.args.text.now) (sym c.if-is_ended.ensures) c.with-self.ensures

pub returns-in-Some : goal.returns-in-Some
returns-in-Some c =
    let s : Parsed = parsed c.args.place c.args.text.now in
    let text = c.deref.ensures.value ∙ c.in_ok-shape_into.ensures in
    let numbers = c.deref-in-Some.ensures.value ∙ c.in_ok-numbers_into.ensures in
    on_ok_weaker c.form.result
    (λ gains. reads-form c.args.self.now c.form.new.self s c.in-Some.form (sym c.if-is_ended.ensures) (ap (λ x. form_in x c.args.text.now) (sym text)
    ∙ sym c.in-Some.ensures)
    (reads-capped c.args.self.now c.form.new.self c.args.place c.in-Some.form s.numbers c.args.text.now
    (subst (λ (ns : List ℕ). ReadsForm c.args.self.now c.form.new.self c.args.place c.in-Some.form ns c.args.text.now) numbers gains)))
    c.form.ensures

pub returns-in-None : goal.returns-in-None
returns-in-None c =
    let text = c.deref.ensures.value ∙ c.in_ok-shape_into.ensures in
    let fault = c.formless.ensures ∙ ap formless (c.deref-in-None.ensures.value ∙ c.in_ok-shape_into.ensures) in
    reads-formless c.args.self.now c.with-self-in-None.result (parsed c.args.place c.args.text.now) (sym c.if-is_ended.ensures)
    (ap (λ x. form_in x c.args.text.now) (sym text) ∙ sym c.in-None.ensures)
    (c.with-self-in-None.ensures ∙ ap (λ f. lesser c.args.self.now.best (Some (record { fault = f; place = c.args.place }))) fault)
