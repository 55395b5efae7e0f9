use Rattle.std.proofs.Common.{◌≡◌, ◌-◌, ◌+◌, suc, ℕ, Option, drop, get_or, refl, sym, subst, arith}
use Rattle.std.specs.Prelude.{IfSome}
use Rattle.kdf_text.specs.Ahead.{ahead}
use Rattle.kdf_journal.specs.declared.entry.Entry.{Entry}
use Rattle.kdf_journal.specs.declared.entry.Entry.TheVariants.{Ran}
use Rattle.kdf_check.specs.Differs.{IsDifference}
use Rattle.kdf_check.specs.Report.{told_from}
use Rattle.kdf_check.specs.Verdict.{told}
use Rattle.kdf_check.proofs.Reading.{alike-on, differs-at, other-first, same-first}
use Rattle.kdf_check.proofs.report.first_difference.Goals as goal

pub returns-then-not-is_told-clause-some : goal.returns-then-not-is_told-clause-some
returns-then-not-is_told-clause-some c =
    let es = c.args.entries.now in
    let i = c.loop-entry.entry-index in
    let rest = told_from (ahead c.loop-entry.lines) in
    let place : c.loop-entry.lines.number - c.args.lines.number ≡ i = omega (arith, c.loop-entry.invariant.number) in
    subst (λ (n : ℕ). IsDifference (told_from (ahead c.args.lines)) (told es) n) (sym place)
    (differs-at es (told_from (ahead c.args.lines)) rest i c.loop-entry.invariant.alike (Ran 0 0) c.loop-entry-test.true
    (other-first c.next_told.result rest (told_from (ahead c.next_told.new.lines)) (told (drop (suc i) es)) (get_or es i (Ran 0 0))
    c.next_told.ensures.some c.next_told.ensures.none (c.is_told.ensures.apart c.if-not-is_told.true)))

pub loop-entry-preserved : goal.loop-entry-preserved
loop-entry-preserved c =
    let es = c.args.entries.now in
    let i = c.loop-entry.entry-index in
    let rest = told_from (ahead c.loop-entry.lines) in
    let more = told_from (ahead c.next_told.new.lines) in
    let e = get_or es i (Ran 0 0) in
    let is = c.is_told.ensures.same c.if-not-is_told.false in
    let next = subst (λ (r : Option (Option Entry)). IfSome r (λ _. c.next_told.new.lines.number ≡ c.loop-entry.lines.number + 1)) is
    c.next_told.ensures.number in
    record {
      alike = alike-on es (told_from (ahead c.args.lines)) rest i c.loop-entry.invariant.alike (Ran 0 0) e more c.loop-entry-test.true refl
          (same-first c.next_told.result rest more e c.next_told.ensures.some is);
      number = omega (arith, next, c.loop-entry.invariant.number);
    }
