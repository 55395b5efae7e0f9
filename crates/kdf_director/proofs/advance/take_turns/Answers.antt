use Rattle.std.proofs.Common.{◌+◌, ◌<◌, ap, ◌∙◌, sym, subst, arith}
use Rattle.kdf_journal.specs.Counts.{calls, clock, moves}
use Rattle.std.specs.Prelude.{IfOk, OnErr}
use Rattle.kdf_yard.specs.Fields.Batches.{is_at}
use Rattle.kdf_yard.specs.Fields.Yards.{registers_in, AreLentIn, HasTriedIn, HasTriedQuietly}
use Rattle.kdf_director.proofs.Calls.CallsAtOnce.{all_err, begun, ends, entered_within, fewer, going_more, kept, lent, live, ran}
use Rattle.kdf_theory.proofs.Results.{on_err}
use Rattle.std.proofs.Common.{suc}
use Rattle.kdf_director.specs.Fields.Agrees.{IsReady}
use Rattle.kdf_director.specs.Fields.Viewed.{shown_of}
use Rattle.kdf_director.specs.Halts.{HasMadeSomePast, HasPassedButFewer}
use Rattle.kdf_director.proofs.advance.take_turns.Given.{Over}
use Rattle.kdf_director.proofs.advance.take_turns.Goals as goal

pub loop-quiet-init : goal.loop-quiet-init
loop-quiet-init g c =
    record {
      on = begun (λ n a. goal.F-post g c.args.due.now.service.now n a) c.args.yard.now c.args.journal.now c.args.due.now.room c.requires.ready c.args.halt
          c.args.i c.requires.next;
      left = c.requires.some;
      entries = c.reserve.ensures.entries;
      spare = c.in_ok-reserve.ensures.room;
      time = c.clock-time.ensures ∙ ap clock c.reserve.ensures.entries;
    }

pub place_of_halt-place-requires : goal.place_of_halt-place-requires
place_of_halt-place-requires g c =
    (begun (λ n a. goal.F-post g c.args.due.now.service.now n a) c.args.yard.now c.args.journal.now c.args.due.now.room c.requires.ready c.args.halt c.args.i
    c.requires.next).course.there

pub is_at-requires : goal.is_at-requires
is_at-requires g c = omega (arith, c.loop-quiet.invariant.on.course.there, c.try_at-more.ensures.same.many)

pub try_at-more-requires-clause-there : goal.try_at-more-requires-clause-there
try_at-more-requires-clause-there g c = c.loop-quiet.invariant.on.course.there

pub try_at-more-requires-clause-live : goal.try_at-more-requires-clause-live
try_at-more-requires-clause-live g c =
    live (λ n a. goal.F-post g c.args.due.now.service.now n a) c.args.yard.now c.args.journal.now c.args.due.now.room c.requires.ready c.args.halt c.args.i
    c.requires.next c.loop-quiet.quiet c.loop-quiet.yard c.loop-quiet.invariant.on

pub try_at-more-requires-clause-lent : goal.try_at-more-requires-clause-lent
try_at-more-requires-clause-lent g c =
    subst (AreLentIn c.loop-quiet.yard) (sym c.loop-quiet.invariant.entries)
    (lent (λ n a. goal.F-post g c.args.due.now.service.now n a) c.args.yard.now c.args.journal.now c.args.due.now.room c.requires.ready c.args.halt c.args.i
    c.requires.next c.loop-quiet.quiet c.loop-quiet.yard c.loop-quiet.invariant.on)

pub try_at-more-requires-clause-ran : goal.try_at-more-requires-clause-ran
try_at-more-requires-clause-ran g c =
    let few = ran (λ n a. goal.F-post g c.args.due.now.service.now n a) c.args.yard.now c.args.journal.now c.args.due.now.room c.requires.ready c.args.halt
    c.args.i c.requires.next c.loop-quiet.quiet c.loop-quiet.yard c.loop-quiet.invariant.on in
    omega (arith, few, c.requires.few)

pub loop-quiet-preserved : goal.loop-quiet-preserved
loop-quiet-preserved g c =
    let few : calls c.args.journal.now.entries + (c.loop-quiet.quiet + c.try_at-more.result.0) < 20000000 =
    omega (arith, c.requires.few, c.loop-quiet.invariant.left, c.try_at-more.ensures.within) in
    record {
      on =
          going_more (λ n a. goal.F-post g c.args.due.now.service.now n a) c.args.yard.now c.args.journal.now c.args.due.now.room c.requires.ready c.args.halt
          c.args.i c.requires.next c.loop-quiet.quiet c.loop-quiet.yard c.loop-quiet.invariant.on
          c.try_at-more.result.0 few c.try_at-more.new.self c.try_at-more.ensures.same c.try_at-more.result.1 c.clock-time.result c.loop-quiet.invariant.time
          c.requires.inside
          (subst (λ o. IfOk c.try_at-more.result.1
          (λ x. HasTriedIn (λ n a. goal.F-post g c.args.due.now.service.now n a) c.clock-time.result c.args.i c.try_at-more.result.0 o c.loop-quiet.yard
          c.try_at-more.new.self x.0 x.1)) c.place_of_halt-place.ensures c.try_at-more.ensures.tried)
          (c.is_quiet.ensures c.if-is_quiet.true)
          (ap (λ o. is_at o (registers_in c.try_at-more.new.self c.args.i)) (sym c.place_of_halt-place.ensures) ∙ sym c.if-not-is_at.ensures);
      left = omega (arith, c.if-quiet-due.true);
      entries = c.loop-quiet.invariant.entries;
      spare = c.loop-quiet.invariant.spare;
      time = c.loop-quiet.invariant.time;
    }

pub enter_at-requires-clause-there : goal.enter_at-requires-clause-there
enter_at-requires-clause-there g c = omega (arith, c.loop-quiet.invariant.on.course.there, c.try_at-more.ensures.same.many)

pub enter_at-requires-clause-few_calls : goal.enter_at-requires-clause-few_calls
enter_at-requires-clause-few_calls g c =
    omega (arith, ap calls c.loop-quiet.invariant.entries, c.requires.few, c.loop-quiet.invariant.left, c.try_at-more.ensures.within)

pub enter_at-requires-clause-few_moves : goal.enter_at-requires-clause-few_moves
enter_at-requires-clause-few_moves g c = omega (arith, ap moves c.loop-quiet.invariant.entries, c.requires.ready.few_words)

-- what the calls came to that were entered
came_to : (g : Over) (c : goal.After-enter_at g) → IsReady c.enter_at.new.yard c.enter_at.new.journal c.args.due.now.room
    × IfOk c.enter_at.result
    (λ x. HasMadeSomePast (λ n a. goal.F-post g c.args.due.now.service.now n a) c.args.halt x.0
    (shown_of c.args.yard.now c.args.journal.now c.args.due.now.room) (shown_of c.enter_at.new.yard c.enter_at.new.journal c.args.due.now.room) x.1)
    × OnErr c.enter_at.result
    (HasPassedButFewer (λ n a. goal.F-post g c.args.due.now.service.now n a) c.args.halt (suc (c.loop-quiet.quiet + c.try_at-more.result.0))
    (shown_of c.args.yard.now c.args.journal.now c.args.due.now.room) (shown_of c.enter_at.new.yard c.enter_at.new.journal c.args.due.now.room))
came_to g c =
    ends (λ n a. goal.F-post g c.args.due.now.service.now n a) c.args.yard.now c.args.journal.now c.args.due.now.room c.requires.ready c.args.halt c.args.i
    c.requires.next c.loop-quiet.quiet c.loop-quiet.yard c.loop-quiet.invariant.on
    c.try_at-more.result.0 (omega (arith, c.requires.few, c.loop-quiet.invariant.left, c.try_at-more.ensures.within)) c.try_at-more.new.self
    c.try_at-more.ensures.same c.try_at-more.result.1 c.clock-time.result c.loop-quiet.invariant.time c.requires.inside
    (subst (λ o. IfOk c.try_at-more.result.1
    (λ x. HasTriedIn (λ n a. goal.F-post g c.args.due.now.service.now n a) c.clock-time.result c.args.i c.try_at-more.result.0 o c.loop-quiet.yard
    c.try_at-more.new.self x.0 x.1)) c.place_of_halt-place.ensures c.try_at-more.ensures.tried)
    (subst (λ o. OnErr c.try_at-more.result.1
    (HasTriedQuietly (λ n a. goal.F-post g c.args.due.now.service.now n a) c.clock-time.result c.args.i c.try_at-more.result.0 o c.loop-quiet.yard
    c.try_at-more.new.self)) c.place_of_halt-place.ensures c.try_at-more.ensures.err)
    c.enter_at.new.yard c.enter_at.ensures.rest c.enter_at.new.journal (omega (arith, c.loop-quiet.invariant.spare, c.enter_at.ensures.spare))
    c.loop-quiet.journal.entries c.loop-quiet.invariant.entries c.enter_at.result c.enter_at.ensures.entered

pub returns-else-quiet-due-clause-ready : goal.returns-else-quiet-due-clause-ready
returns-else-quiet-due-clause-ready g c =
    (came_to g c).0

pub returns-else-quiet-due-clause-made : goal.returns-else-quiet-due-clause-made
returns-else-quiet-due-clause-made g c =
    (came_to g c).1

pub returns-else-quiet-due-clause-err : goal.returns-else-quiet-due-clause-err
returns-else-quiet-due-clause-err g c =
    on_err c.enter_at.result _ _
    (λ x. record {
      made = x.made;
      on = x.on;
      fewer = omega (arith, x.fewer, c.loop-quiet.invariant.left, c.try_at-more.ensures.within);
      count =
          x.count;
      passed = x.passed;
    })
    (came_to g c).2

pub returns-else-quiet-due-clause-within : goal.returns-else-quiet-due-clause-within
returns-else-quiet-due-clause-within g c =
    entered_within c.loop-quiet.journal.entries c.enter_at.new.journal.entries _ _ _ _ _ _ _ c.enter_at.result c.enter_at.ensures.entered
    (omega (arith, c.loop-quiet.invariant.left, c.try_at-more.ensures.within))

pub returns-in_err-reserve-clause-ready : goal.returns-in_err-reserve-clause-ready
returns-in_err-reserve-clause-ready g c =
    kept (λ n a. goal.F-post g c.args.due.now.service.now n a) c.args.yard.now c.args.journal.now c.args.due.now.room c.requires.ready c.reserve.new.self
    c.reserve.ensures.entries c.reserve.ensures.spare

pub returns-in_err-reserve-clause-err : goal.returns-in_err-reserve-clause-err
returns-in_err-reserve-clause-err g c =
    all_err c.from_residual.result _
    (fewer (λ n a. goal.F-post g c.args.due.now.service.now n a) c.args.yard.now c.args.journal.now c.args.due.now.room c.requires.ready c.args.halt
    c.reserve.new.self c.reserve.ensures.entries c.args.due.now.most c.requires.some)

pub overflow_add-due : goal.overflow_add-due
overflow_add-due g c = omega (arith, c.requires.ready.few_events)
