-- The registers after an order that was obeyed.
use Rattle.std.proofs.Common.{◌≡◌, ◌+◌, Option, Some, None, refl}
use Rattle.kdf_processor.specs.declared.registers.Registers.{Registers}
use Rattle.kdf_journal.specs.declared.need.Need.{Need}
use Rattle.kdf_processor.specs.declared.step.Step.TheVariants as step
use Rattle.kdf_processor.specs.Effect.{Effect, Failing, Ending, Changing, Fetching, Keeping, Testing, Starting, Asking, Claiming, Returning, Spooling}
use Rattle.kdf_processor.specs.Needs.{effect_at, needs_at}
use Rattle.kdf_processor.specs.Outcome.{done, held_or, outcome}
use Rattle.kdf_processor.specs.View.{View, first_pending}

-- registers after an order that was obeyed: the program goes on, and the order is counted
pub record GoesOn (before after : Registers) : Type 0 where
  pub state : after.state ≡ before.state
  pub ran : after.ran ≡ before.ran + 1

done_on : (v : View) (r : Registers) (e : Effect) → (done v r e).step ≡ step.Done → GoesOn r (done v r e).registers
done_on v r (Failing kind) is = cc
done_on v r (Ending after) is = cc
done_on v r (Changing after) is = record { state = refl; ran = refl }
done_on v r (Fetching a after) is = record { state = refl; ran = refl }
done_on v r (Keeping a w after) is = record { state = refl; ran = refl }
done_on v r (Testing d what after) is = record { state = refl; ran = refl }
done_on v r (Starting d o first last after) is = record { state = refl; ran = refl }
done_on v r (Asking q after) is = record { state = refl; ran = refl }
done_on v r (Claiming d after) is = record { state = refl; ran = refl }
done_on v r (Returning pooled d after) is = record { state = refl; ran = refl }
done_on v r (Spooling stream first last after) is = record { state = refl; ran = refl }

held_on : (v : View) (r : Registers) (o : Option Need) (e : Effect) → (held_or r o (done v r e)).step ≡ step.Done
    → GoesOn r (held_or r o (done v r e)).registers
held_on v r (Some need) e is = cc
held_on v r None e is = done_on v r e is

pub goes_on : (v : View) (r : Registers) → (outcome v r).step ≡ step.Done → GoesOn r (outcome v r).registers
goes_on v r is = held_on v r (first_pending v (needs_at v.claims v.word r v.mine)) (effect_at v.claims v.word r) is
