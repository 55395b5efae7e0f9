use Rattle.std.proofs.Common.{◌≡◌, ℕ, ◌+◌, List, ◌++◌, length, drop, ap, subst, ◌∙◌, arith}
use Rattle.kdf_schedule.specs.declared.event.Event.{Event}
use Rattle.kdf_job.proofs.Schedules.{all_events, one_more, orders_left}
use Rattle.kdf_job.proofs.schedule.Schedule.of.Goals as goal

pub loop-event-init : goal.loop-event-init
loop-event-init c = ap (λ (es : List Event). es ++ c.args.events.now) c.new-schedule.ensures

pub push-requires : goal.push-requires
push-requires c =
    let here = c.loop-event in
    orders_left c.args.events.now here.schedule.events.items here.event-index _ here.invariant c.loop-event-test.true c.requires.few_orders

pub loop-event-preserved : goal.loop-event-preserved
loop-event-preserved c =
    let here = c.loop-event in
    let all = c.args.events.now in
    ap (λ (es : List Event). es ++ drop (here.event-index + 1) all) c.in_ok-push.ensures
    ∙ one_more all here.schedule.events.items here.event-index _ here.invariant c.loop-event-test.true

pub returns : goal.returns
returns c =
    let here = c.loop-event in
    let all = c.args.events.now in
    let over = c.loop-event-test.false in
    let most = here.auto.event-index-end in
    let end : here.event-index ≡ length all = omega arith in
    all_events all here.schedule.events.items (subst (λ (i : ℕ). here.schedule.events.items ++ drop i all ≡ all) end here.invariant)
