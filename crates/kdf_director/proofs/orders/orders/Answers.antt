use Rattle.std.proofs.Common.{◌≡◌, ◌+◌, ◌-◌, inl, inr, sym, subst, ◌∙◌, ◌<◌, ◌≤◌, arith}
use Rattle.kdf_director.specs.Fields.Viewed.{shown_of}
use Rattle.kdf_director.specs.Halts.{ArePassed, HasMadeButTo, HasMadeSomePast, HasPassedButFewer}
use Rattle.kdf_director.specs.Runs.{HasMadeOn}
use Rattle.kdf_director.proofs.Calls.CallsAfterCalls.{made_none}
use Rattle.kdf_director.proofs.Calls.CallsInTurn.{some_more}
use Rattle.kdf_director.proofs.Calls.Halting.{but_to, made_to, passed_more, passed_none}
use Rattle.kdf_director.proofs.Linking.EventsEntered.{shown_seen}
use Rattle.kdf_director.proofs.Linking.Halted.{stops_same}
use Rattle.kdf_director.proofs.orders.orders.Goals as goal
use Rattle.kdf_director.proofs.orders.orders.Goals.{then-left-eq0-via-then-left-eq0, then-left-eq0-via-else-left-eq0+then-not-found_live}
use Rattle.kdf_director.proofs.orders.orders.Goals.{then-left-eq0-via-else-left-eq0+else-not-found_live+then-stops}

pub loop-made-init : goal.loop-made-init
loop-made-init g c =
    let none : 0 ≡ c.args.left.now - c.args.left.now = omega arith in
    record {
      some = c.requires.some;
      within = omega arith;
      ready = c.requires.ready;
      made =
          subst (λ k. HasMadeOn (λ n a. goal.F-post g c.args.service.now n a) k (shown_of c.args.yard.now c.args.journal.now c.args.room)
          (shown_of c.args.yard.now c.args.journal.now c.args.room)) none
          (made_none (λ n a. goal.F-post g c.args.service.now n a) (shown_of c.args.yard.now c.args.journal.now c.args.room) c.requires.ready.agrees.legal);
      passed =
          subst (λ k. ArePassed (λ n a. goal.F-post g c.args.service.now n a) c.args.halt k (shown_of c.args.yard.now c.args.journal.now c.args.room)
          (shown_of c.args.yard.now c.args.journal.now c.args.room)) none
          (passed_none (λ n a. goal.F-post g c.args.service.now n a) c.args.halt (shown_of c.args.yard.now c.args.journal.now c.args.room));
    }

pub returns-then-left-eq0-clause-made : goal.returns-then-left-eq0-clause-made
returns-then-left-eq0-clause-made g c =
    let i = c.loop-made.invariant in
    let x = subst (λ h. HasMadeSomePast (λ n a. goal.F-post g c.args.service.now n a) h c.in-Ok.made
    (shown_of c.loop-made.yard c.loop-made.journal c.args.room) (shown_of c.advance.new.yard c.advance.new.journal c.args.room) c.in-Ok.progress)
    c.inside.ensures c.in-Ok.ensures.made in
    let some : 0 < c.in-Ok.made = omega (arith, x.some.count) in
    let all : c.in-Ok.made + (c.args.left.now - c.loop-made.left) + (c.loop-made.left - c.in-Ok.made) ≡ c.args.left.now =
    omega (arith, i.within, c.in-Ok.ensures.within, c.batch.ensures.few) in
    made_to (λ n a. goal.F-post g c.args.service.now n a) (shown_of c.args.yard.now c.args.journal.now c.args.room) (c.args.left.now - c.loop-made.left)
    (shown_of c.loop-made.yard c.loop-made.journal c.args.room) c.args.halt c.args.left.now (c.loop-made.left - c.in-Ok.made) c.in-Ok.made
    (shown_of c.advance.new.yard c.advance.new.journal c.args.room) c.in-Ok.progress
    i.made i.passed (λ each. let one = c.batch.ensures.singly each in omega (arith, some, c.in-Ok.ensures.within)) x all
    (elim c.then-left-eq0.branch [
      | then-left-eq0-via-then-left-eq0 w ↦ inl w.if-left-eq0.true
      | then-left-eq0-via-else-left-eq0+then-not-found_live w ↦ inr (inl (sym w.if-not-found_live.ensures))
      | then-left-eq0-via-else-left-eq0+else-not-found_live+then-stops w ↦
          inr (inr (sym (stops_same c.advance.new.yard c.advance.new.journal c.args.room c.in-Ok.ensures.ready c.args.halt c.in-Ok.progress)
          ∙ sym w.if-stops.ensures))
    ])

pub loop-made-preserved : goal.loop-made-preserved
loop-made-preserved g c =
    let i = c.loop-made.invariant in
    let x = subst (λ h. HasMadeSomePast (λ n a. goal.F-post g c.args.service.now n a) h c.in-Ok.made
    (shown_of c.loop-made.yard c.loop-made.journal c.args.room) (shown_of c.advance.new.yard c.advance.new.journal c.args.room) c.in-Ok.progress)
    c.inside.ensures c.in-Ok.ensures.made in
    let few : c.in-Ok.made ≤ c.loop-made.left = omega (arith, c.in-Ok.ensures.within, c.batch.ensures.few) in
    let some : 0 < c.in-Ok.made = omega (arith, x.some.count) in
    let count : c.in-Ok.made + (c.args.left.now - c.loop-made.left) ≡ c.args.left.now - (c.loop-made.left - c.in-Ok.made) = omega (arith, i.within, few) in
    record {
      some = omega (arith, c.if-left-eq0.false);
      within = omega (arith, i.within);
      ready = c.in-Ok.ensures.ready;
      made =
          subst (λ k. HasMadeOn (λ n a. goal.F-post g c.args.service.now n a) k (shown_of c.args.yard.now c.args.journal.now c.args.room)
          (shown_of c.advance.new.yard c.advance.new.journal c.args.room)) count
          ((some_more (λ n a. goal.F-post g c.args.service.now n a) (shown_of c.args.yard.now c.args.journal.now c.args.room)
          (c.args.left.now - c.loop-made.left) (shown_of c.loop-made.yard c.loop-made.journal c.args.room) i.made
          c.in-Ok.made (shown_of c.advance.new.yard c.advance.new.journal c.args.room) c.in-Ok.progress x.some).all_on (sym c.if-not-found_live.ensures));
      passed =
          subst (λ k. ArePassed (λ n a. goal.F-post g c.args.service.now n a) c.args.halt k (shown_of c.args.yard.now c.args.journal.now c.args.room)
          (shown_of c.advance.new.yard c.advance.new.journal c.args.room)) count
          (passed_more (λ n a. goal.F-post g c.args.service.now n a) (shown_of c.args.yard.now c.args.journal.now c.args.room)
          (c.args.left.now - c.loop-made.left) (shown_of c.loop-made.yard c.loop-made.journal c.args.room) c.args.halt c.in-Ok.made
          (shown_of c.advance.new.yard c.advance.new.journal c.args.room) c.in-Ok.progress
          i.passed (λ each. let one = c.batch.ensures.singly each in omega (arith, some, c.in-Ok.ensures.within)) x.some x.passed
          (sym c.if-not-found_live.ensures)
          (sym (stops_same c.advance.new.yard c.advance.new.journal c.args.room c.in-Ok.ensures.ready c.args.halt c.in-Ok.progress) ∙ sym c.if-stops.ensures)
          (shown_seen c.advance.new.yard c.advance.new.journal c.args.room c.in-Ok.ensures.ready));
    }

pub returns-in-Err-clause-err : goal.returns-in-Err-clause-err
returns-in-Err-clause-err g c =
    let i = c.loop-made.invariant in
    let x = subst (λ h. HasPassedButFewer (λ n a. goal.F-post g c.args.service.now n a) h c.batch.result
    (shown_of c.loop-made.yard c.loop-made.journal c.args.room) (shown_of c.advance.new.yard c.advance.new.journal c.args.room)) c.inside.ensures
    c.in-Err.ensures.err in
    let all : c.args.left.now - c.loop-made.left + c.loop-made.left ≡ c.args.left.now = omega (arith, i.within) in
    let counted : x.made ≡ c.calls.result - c.calls-counted.result = omega (arith, x.count, c.calls.ensures, c.calls-counted.ensures) in
    subst (λ n. HasMadeButTo (λ n a. goal.F-post g c.args.service.now n a) c.args.halt c.args.left.now (c.loop-made.left - n)
    (shown_of c.args.yard.now c.args.journal.now c.args.room) (shown_of c.advance.new.yard c.advance.new.journal c.args.room)) counted
    (but_to (λ n a. goal.F-post g c.args.service.now n a) (shown_of c.args.yard.now c.args.journal.now c.args.room) (c.args.left.now - c.loop-made.left)
    (shown_of c.loop-made.yard c.loop-made.journal c.args.room) c.args.halt c.args.left.now c.loop-made.left c.batch.result
    (shown_of c.advance.new.yard c.advance.new.journal c.args.room)
    i.made i.passed c.batch.ensures.few c.batch.ensures.singly all x)
