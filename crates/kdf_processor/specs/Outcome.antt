-- What obeying the next order comes to, over any port.
use Rattle.std.specs.Prelude.{◌≡◌, ◌+◌, Option, Some, None}
use Rattle.kdf_processor.specs.declared.registers.Life.{Life}
use Rattle.kdf_processor.specs.declared.registers.Life.TheVariants.{Ended, Failed}
use Rattle.kdf_processor.specs.declared.registers.Registers.{Registers}
use Rattle.kdf_journal.specs.declared.need.Need.{Need}
use Rattle.kdf_processor.specs.declared.step.Step.{Step}
use Rattle.kdf_processor.specs.declared.step.Step.TheVariants.{Done, Held, Fails, Ends}
use Rattle.kdf_processor.specs.Effect.{Act, Nothing, Writes, Starts, Asks, Acquires, Releases, Spools}
use Rattle.kdf_processor.specs.Effect.{Effect, Failing, Ending, Changing, Fetching, Keeping, Testing, Starting, Asking, Claiming, Returning, Spooling}
use Rattle.kdf_processor.specs.Needs.{effect_needs, effect_at, needs_at}
use Rattle.kdf_processor.specs.View.{View, first_pending}

-- how it ends, the registers after it, and the acting call that it makes
pub record Outcome : Type 0 where
  pub step : Step
  pub registers : Registers
  pub act : Act

-- an order came to this outcome over a port
pub record CameTo {P : Type 0} (acts : P → Act → P → Type 0) (o : Outcome) (old new : P)
    (left : Registers) (ended : Step) : Type 0 where
  pub step : ended ≡ o.step
  pub registers : left ≡ o.registers
  pub acted : acts old o.act new
  pub unchanged : o.act ≡ Nothing → new ≡ old

-- registers after one order more: the count and the life are set here alone
abbrev pub counted : Registers → Life → Registers → Registers
counted r life after = record after { ran = r.ran + 1; state = life }

-- an order that was obeyed, and the program goes on
abbrev pub went : Registers → Registers → Act → Outcome
went r after act = record { step = Done; registers = counted r r.state after; act = act }

-- an effect, none of its needs being pending
abbrev pub done : View → Registers → Effect → Outcome
done v r (Failing kind) =
    record { step = Fails kind; registers = counted r (Failed kind) r; act = Nothing }
done v r (Ending after) = record { step = Ends; registers = counted r Ended after; act = Nothing }
done v r (Changing after) = went r after Nothing
done v r (Fetching a after) = went r (after (v.word a)) Nothing
done v r (Keeping a w after) = went r after (Writes a (w (v.word a)))
done v r (Testing d what after) = went r (after (v.test d what)) Nothing
done v r (Starting d o first last after) = went r after (Starts d o first last)
done v r (Asking q after) = went r (after (v.answer q)) (Asks q (v.answer q))
done v r (Claiming d after) = went r after (Acquires d)
done v r (Returning pooled d after) = went r after (Releases pooled d)
done v r (Spooling stream first last after) = went r after (Spools stream first last)

-- held up by this need
abbrev pub held : Registers → Need → Outcome
held r need = record { step = Held need; registers = r; act = Nothing }

-- held up by the first need that is pending, or else the outcome
abbrev pub held_or : Registers → Option Need → Outcome → Outcome
held_or r (Some need) o = held r need
held_or r None o = o

-- the outcome of the next order
abbrev pub outcome : View → Registers → Outcome
outcome v r =
    held_or r (first_pending v (needs_at v.claims v.word r v.mine))
    (done v r (effect_at v.claims v.word r))

-- one effect, after the fetch
abbrev pub try_effect : View → Registers → Effect → Outcome
try_effect v r e = held_or r (first_pending v (effect_needs v.mine e)) (done v r e)
