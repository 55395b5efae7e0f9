use Rattle.std.proofs.Common.{◌≡◌, List, ◌++◌, true, false, arith, sym, ap, ◌∙◌}
use Rattle.std.proofs.lemmas.List.{append-nil}
use Rattle.kdf_usercode.specs.declared.statement.Statement.{Statement}
use Rattle.kdf_usercode.specs.Forms.{what_of}
use Rattle.kdf_usercode.proofs.Thinned.{star-form, kept-one, kept-none, behind-one}
use Rattle.kdf_usercode.proofs.reading.Reading.keep.Goals as goal
use Rattle.kdf_usercode.proofs.reading.Reading.keep.Goals.{then-keeps+in_ok-push, else-keeps}

pub returns-clause-statements : goal.returns-clause-statements
returns-clause-statements c =
    let self = c.args.self.now in
    let what = what_of self.phase.stage c.args.form c.args.numbers.now c.args.text.now in
    let same = star-form self.phase.stage c.args.form c.args.numbers.now c.args.text.now in
    let behind : List Statement → List Statement = λ xs. self.statements.items ++ xs in
    elim c.if-keeps.branch [
      | then-keeps+in_ok-push w ↦
          let kept : c.keeps.result ≡ true = grind arith in
          rw (w.self-is, w.in_ok-push.ensures.items, w.what_of-what.ensures)
          (ap behind (sym (kept-one self.stars c.args.form c.args.place what same (sym c.keeps.ensures ∙ kept))))
      | else-keeps w ↦
          let left : c.keeps.result ≡ false = grind arith in
          rw w.self-is
          (sym (append-nil self.statements.items)
          ∙ ap behind (sym (kept-none self.stars c.args.form c.args.place what same (sym c.keeps.ensures ∙ left))))
    ]

pub returns-clause-stars : goal.returns-clause-stars
returns-clause-stars c =
    let self = c.args.self.now in
    c.after-next.ensures
    ∙ sym (behind-one self.stars c.args.form c.args.place (what_of self.phase.stage c.args.form c.args.numbers.now c.args.text.now)
    (star-form self.phase.stage c.args.form c.args.numbers.now c.args.text.now))
