use Rattle.std.proofs.Common.{◌≡◌, ◌+◌, ℕ, List, Option, Some, ap, ◌∙◌, refl, arith}
use Rattle.kdf_journal.specs.Counts.{calls, calls_in, moves, moves_in}
use Rattle.kdf_journal.specs.Steps.{hold_entry}
use Rattle.kdf_journal.specs.declared.entry.Entry.{Entry}
use Rattle.kdf_journal.specs.declared.entry.Entry.TheVariants.{Ran, Fail, Ended}
use Rattle.kdf_journal.specs.Joined.{pushed}
use Rattle.kdf_journal.specs.declared.need.Need.{Need}
use Rattle.kdf_journal.specs.declared.need.Need.TheVariants.{Group, Device, Pool}
use Rattle.kdf_theory.specs.InARow.{ran_on}
use Rattle.kdf_theory.proofs.Course.OrdersInARow.{calls-ran_on, last-ran_on, moves-ran_on}
use Rattle.kdf_check.specs.Entered.{with_entry}
use Rattle.kdf_check.proofs.entering.enter.Goals as goal

-- a hold counts a call and no word
held_counts : (p : ℕ) (need : Need) → (calls_in (hold_entry p need) ≡ 1) × (moves_in (hold_entry p need) ≡ 0)
held_counts p (Group group) = (refl, refl)
held_counts p (Device d) = (refl, refl)
held_counts p (Pool kind) = (refl, refl)

pub push-requires-clause-few_calls : goal.push-requires-clause-few_calls
push-requires-clause-few_calls c =
    let J = c.args.journal.now.entries in
    let counts = held_counts c.args.p c.in-Held.need in
    let on = calls-ran_on J c.args.p c.args.quiet in
    omega (arith, ap calls_in c.entry_of.ensures, counts.0, ap calls c.enter_quiet.ensures.entries, on, c.requires.few_calls)

pub push-requires-clause-few_moves : goal.push-requires-clause-few_moves
push-requires-clause-few_moves c =
    let J = c.args.journal.now.entries in
    let counts = held_counts c.args.p c.in-Held.need in
    let on = moves-ran_on J c.args.p c.args.quiet in
    omega (arith, ap moves_in c.entry_of.ensures, counts.1, ap moves c.enter_quiet.ensures.entries, on, c.requires.few_moves)

-- the last order is counted with those before it
entered_so : (J K : List Entry) (p quiet : ℕ) (told : Option Entry) → K ≡ with_entry (pushed J (Ran p (quiet + 1))) told
    → K ≡ with_entry (pushed (ran_on J p quiet) (Ran p 1)) told
entered_so J K p quiet told is = is ∙ ap (λ L. with_entry L told) (last-ran_on J p quiet)

pub returns-in-Done : goal.returns-in-Done
returns-in-Done c =
    let J = c.args.journal.now.entries in
    let p = c.args.p in
    rw c.in-Done.is (entered_so J c.write.new.journal.entries p c.args.quiet c.args.entry c.write.ensures)

pub returns-in-Fails : goal.returns-in-Fails
returns-in-Fails c =
    let J = c.args.journal.now.entries in
    let p = c.args.p in
    rw c.in-Fails.is (entered_so J c.write-in-Fails.new.journal.entries p c.args.quiet (Some (Fail p c.in-Fails.kind)) c.write-in-Fails.ensures)

pub returns-in-Ends : goal.returns-in-Ends
returns-in-Ends c =
    let J = c.args.journal.now.entries in
    let p = c.args.p in
    rw c.in-Ends.is (entered_so J c.write-in-Ends.new.journal.entries p c.args.quiet (Some (Ended p)) c.write-in-Ends.ensures)
