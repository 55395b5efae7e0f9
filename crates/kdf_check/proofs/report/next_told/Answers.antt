use Rattle.std.proofs.Common.{◌∷◌, ℕ, sym, ap, ap₂, ◌∙◌, List, Option}
use Rattle.kdf_text.proofs.Cutting.{no-lines, some-lines}
use Rattle.kdf_text.specs.Ahead.{ahead}
use Rattle.kdf_journal.specs.declared.entry.Entry.{Entry}
use Rattle.kdf_check.specs.Report.{told_from}
use Rattle.kdf_check.proofs.Reading.{told-next}
use Rattle.kdf_check.proofs.report.next_told.Goals as goal

pub returns-then-is_empty-clause-none : goal.returns-then-is_empty-clause-none
returns-then-is_empty-clause-none c = ap told_from (no-lines c.args.lines.now.rest.now (sym c.is_empty.ensures ∙ c.if-is_empty.true))

pub returns-else-begins_section-clause-some : goal.returns-else-begins_section-clause-some
returns-else-begins_section-clause-some c =
    let some = some-lines c.args.lines.now.rest.now (sym c.is_empty.ensures ∙ c.if-is_empty.false) in
    told-next (ahead c.args.lines.now) c.take_line-line.result.text.now some c.take_line-line.ensures.text (sym c.begins_section.ensures
    ∙ c.if-begins_section.false)
    ∙ ap₂ (λ (x : Option Entry) (ls : List (List ℕ)). x ∷ told_from ls) (sym c.read_entry.ensures) (sym c.take_line-line.ensures.rest)

pub returns-else-begins_section-clause-number : goal.returns-else-begins_section-clause-number
returns-else-begins_section-clause-number c =
    c.take_line-line.ensures.next (some-lines c.args.lines.now.rest.now (sym c.is_empty.ensures ∙ c.if-is_empty.false))
