use Rattle.std.proofs.Common.{◌≡◌, ◌+◌, ◌<◌, false, length, rules, arith, ap, sym, ◌∙◌, subst, List, [], ◌∷◌, ◌++◌, Some, ℕ}
use Rattle.std.proofs.lemmas.Bool.Decides.{nat_tests}
use Rattle.std.proofs.lemmas.List.{length_push}
use Rattle.kdf_text.specs.Ahead.{ahead}
use Rattle.kdf_text.specs.Lines.{is_text}
use Rattle.kdf_text.proofs.Cutting.{no-lines}
use Rattle.kdf_journal.specs.declared.entry.Entry.{Entry}
use Rattle.kdf_journal.specs.Printed.{entry_in}
use Rattle.kdf_snapshot.specs.Passed.{Passed}
use Rattle.kdf_snapshot.specs.Snapshot.{entries_from, seal_line}
use Rattle.kdf_snapshot.proofs.Reading.{after, after-none, entry-read, passed-more, passed-none, some_ahead}
use Rattle.kdf_snapshot.proofs.parts.take_entries.Goals as goal

pub loop-number-init : goal.loop-number-init
loop-number-init c =
    let none = c.in_ok-entries.ensures.items in
    record {
      passed = subst (λ (es : List Entry). Passed (length es) c.args.at.now c.args.at.now) (sym none) (passed-none c.args.at.now);
      told = sym (ap (λ (es : List Entry). after es (entries_from c.args.at.now.lines.number (ahead c.args.at.now.lines))) none ∙ after-none _);
    }

pub returns-then-eq-clause-passed : goal.returns-then-eq-clause-passed
returns-then-eq-clause-passed c =
    passed-more (length c.loop-number.entries.items) 1 c.args.at.now c.loop-number.at c.take_line-line.new.self c.loop-number.invariant.passed
    c.take_line-line.ensures.passed

pub loop-number-preserved : goal.loop-number-preserved
loop-number-preserved c =
    let es = c.loop-number.entries.items in
    let at = c.loop-number.at in
    let new = c.take_line-line.new.self in
    let some : 0 < length at.lines.rest.now = grind (arith, nat_tests) in
    let isnt : is_text seal_line c.take_line-line.result.now ≡ false = search rules in
    let is : entry_in c.take_line-line.result.now ≡ Some c.in-Some.entry = search rules in
    let pushed : c.push.new.self.items ≡ es ++ c.in-Some.entry ∷ [] = search rules in
    let p = c.take_line-line.ensures.passed in
    let more : length c.push.new.self.items ≡ length es + 1 = ap length pushed ∙ length_push es c.in-Some.entry in
    record {
      passed = subst (λ (n : ℕ). Passed n c.args.at.now new) (sym more) (passed-more (length es) 1 c.args.at.now at new c.loop-number.invariant.passed p);
      told = c.loop-number.invariant.told
          ∙ entry-read es at.lines.number new.lines.number (ahead at.lines) (ahead new.lines) c.take_line-line.result.now c.in-Some.entry
          (some_ahead at.lines.rest.now some) c.take_line-line.ensures.text p.rest p.number isnt is
          ∙ ap (λ (fs : List Entry). after fs (entries_from new.lines.number (ahead new.lines))) (sym pushed);
    }

pub returns-clause-fault : goal.returns-clause-fault
returns-clause-fault c =
    c.loop-number.invariant.told
    ∙ ap (λ (ls : List (List ℕ)). after c.loop-number.entries.items (entries_from c.loop-number.at.lines.number ls))
    (no-lines c.loop-number.at.lines.rest.now (search rules))
