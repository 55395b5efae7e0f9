use Rattle.std.proofs.Common.{ℕ, List, [], get_or, ap, sym, ◌∙◌}
use Rattle.std.proofs.lemmas.List.Sums.{fold_more}
use Rattle.kdf_journal.specs.declared.entry.Entry.{Entry}
use Rattle.kdf_journal.specs.declared.entry.Entry.TheVariants.{Ran}
use Rattle.kdf_journal.specs.Counts.{answers_after}
use Rattle.kdf_journal.proofs.counts.collect_answers.Goals as goal

pub loop-entry-preserved : goal.loop-entry-preserved
loop-entry-preserved c =
    let p = c.args.p in
    let es = c.args.entries.now in
    let i = c.loop-entry.entry-index in
    let e : Entry = get_or es i (Ran 0 0) in
    c.in_ok-push_answer.ensures
    ∙ ap (λ (vs : List ℕ). answers_after p vs e) c.loop-entry.invariant
    ∙ sym (fold_more (answers_after p) [] es i (Ran 0 0) c.loop-entry-test.true)
