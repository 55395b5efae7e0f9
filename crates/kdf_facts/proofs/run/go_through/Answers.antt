use Rattle.std.proofs.Common.{◌<◌, List, length, subst, arith}
use Rattle.std.proofs.lemmas.List.Sums.{sum_by_more_le}
use Rattle.kdf_journal.specs.Counts.{calls_in}
use Rattle.kdf_journal.specs.declared.entry.Entry.{Entry}
use Rattle.kdf_journal.specs.declared.entry.Entry.TheVariants.{Ran}
use Rattle.kdf_facts.proofs.run.go_through.Goals as goal

pub push-requires : goal.push-requires
push-requires g c =
    let es : List Entry = c.args.journal.now.entries in
    let lt : c.loop-entry.entry-index < length es = subst (λ (xs : List Entry). c.loop-entry.entry-index < length xs) c.entries-entry-items.ensures
    c.loop-entry-test.true in
    let more = sum_by_more_le calls_in es c.loop-entry.entry-index (Ran 0 0) lt in
    rw (c.loop-entry.invariant, c.entries-entry-items.ensures) (omega (arith, more, c.calls-all.ensures, c.calls-all.type_inv))
