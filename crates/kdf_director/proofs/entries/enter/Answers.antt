use Rattle.std.proofs.Common.{◌≡◌, ◌⊎◌, inl, inr, refl, sym, ap, ◌∙◌, subst, arith}
use Rattle.kdf_journal.specs.declared.failure.Failure.{Failure}
use Rattle.kdf_journal.specs.Steps.{added, noted}
use Rattle.kdf_processor.specs.declared.step.Step.{Step}
use Rattle.kdf_processor.specs.declared.step.Step.TheVariants.{Done, Ends, Fails}
use Rattle.kdf_director.specs.Advance.{note_told}
use Rattle.kdf_theory.specs.InARow.{ran_on}
use Rattle.kdf_theory.proofs.Course.OrdersInARow.{calls-ran_on, last-ran_on, moves-ran_on}
use Rattle.kdf_director.proofs.Linking.TurnTaken.{IsNotHeld, hold_free, progress_free, step_free}
use Rattle.kdf_director.proofs.entries.enter.Goals as goal

pub write_hold-requires-clause-few_calls : goal.write_hold-requires-clause-few_calls
write_hold-requires-clause-few_calls c = rw (c.enter_quiet.ensures.entries, calls-ran_on) (omega arith)

pub write_hold-requires-clause-few_moves : goal.write_hold-requires-clause-few_moves
write_hold-requires-clause-few_moves c = rw (c.enter_quiet.ensures.entries, moves-ran_on) (omega arith)

-- an order that was obeyed isn't held
free : (step : Step) → (step ≡ Done) ⊎ ((kind : Failure) × (step ≡ Fails kind)) ⊎ (step ≡ Ends) → IsNotHeld step
free step (inl done) = subst IsNotHeld (sym done) tt
free step (inr (inl fails)) = subst IsNotHeld (sym fails.1) tt
free step (inr (inr ends)) = subst IsNotHeld (sym ends) tt

pub returns-in-Done : goal.returns-in-Done
returns-in-Done c =
    let J = c.args.journal.now.entries in
    let p = c.args.program.now.p in
    let k = c.args.program.now.registers.ran in
    let not_held = free c.args.step c.in-Done.is in
    record {
      entries =
          c.write.ensures.entries
          ∙ ap (λ L. noted L p (note_told k c.args.step c.args.note)) (last-ran_on J p c.args.quiet)
          ∙ ap (added (ran_on J p c.args.quiet)) (sym (step_free p k c.args.step c.args.note not_held));
      spare = c.write.ensures.spare;
      seat = refl;
      hold = sym (hold_free c.args.step not_held);
      answer = sym (progress_free p c.args.step not_held);
    }
