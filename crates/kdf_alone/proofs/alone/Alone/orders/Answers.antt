use Rattle.std.proofs.Common.{refl, sym, ◌∙◌, arith}
use Rattle.kdf_alone.proofs.Steps.{run_ran, no_more, over_after, stopping}
use Rattle.kdf_alone.proofs.alone.Alone.orders.Goals as goal

pub returns-then-not-is_live : goal.returns-then-not-is_live
returns-then-not-is_live c =
    no_more c.args.answers.now c.args.self.now c.args.self.now 0 c.args.n refl (sym c.is_live.ensures ∙ c.if-not-is_live.true) (omega arith)

pub returns-in-Fails : goal.returns-in-Fails
returns-in-Fails c =
    over_after c.args.answers.now c.args.self.now c.loop-i.self c.order_buffered.new.self c.loop-i._i c.args.n _ c.loop-i.invariant.0 c.loop-i.invariant.1
    c.in_ok-order_buffered.ensures.state (sym c.in_ok-order_buffered.ensures.step) (stopping c.in_ok-order_buffered.field-0 c.in-Fails.is) (omega arith)

pub order_buffered-requires-clause-ran : goal.order_buffered-requires-clause-ran
order_buffered-requires-clause-ran c =
    omega (arith, run_ran c.args.answers.now c.args.self.now c.loop-i.self c.loop-i._i c.loop-i.invariant.0)
