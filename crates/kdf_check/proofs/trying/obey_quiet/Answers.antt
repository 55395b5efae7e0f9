use Rattle.std.proofs.Common.{◌≡◌, None, refl, sym, ap, ◌∙◌, subst, arith}
use Rattle.kdf_processor.specs.declared.step.Step.TheVariants.{Done}
use Rattle.kdf_processor.specs.Buffered.{Agrees}
use Rattle.kdf_alone.specs.LonePort.{stock_of}
use Rattle.kdf_check.specs.CheckPort.{shown}
use Rattle.kdf_check.specs.declared.check_port.CheckPort.{CheckPort}
use Rattle.kdf_check.proofs.CheckPorts.{same_same}
use Rattle.kdf_check.proofs.Quiet.{TriedAt, last_at, next_at, next_ran, stopped_at, unchanged}
use Rattle.kdf_check.proofs.trying.obey_quiet.Goals as goal

pub loop-desk-init : goal.loop-desk-init
loop-desk-init c = record {
  at = record {
    same = record { bench = refl; table = refl };
    p_is = refl;
    around_is = refl;
    live = c.requires.live;
    asked = c.requires.asked;
    order = c.requires.order;
    quiet = c.requires.quiet;
    earlier = (refl, refl);
  };
  few = c.requires.some;
  ran = omega (arith, c.requires.ran);
  agrees = c.no_word-held.ensures.agrees (shown c.args.desk.now);
}

pub returns-then-done-most-clause-tried : goal.returns-then-done-most-clause-tried
returns-then-done-most-clause-tried c =
    let was = c.loop-desk in
    let new = c.obey_at_hand.new in
    last_at _ was.desk new.desk _ was.registers new.registers was.done was.invariant.at c.obey_at_hand.ensures.same
    Done c.entry.result c.entry.ensures c.in-Some.ensures.tried

pub loop-desk-preserved-in-Some : goal.loop-desk-preserved-in-Some
loop-desk-preserved-in-Some c =
    let was = c.loop-desk in
    let i = was.invariant in
    let new = c.obey_at_hand.new in
    let same = c.obey_at_hand.ensures.same in
    let tried = c.in-Some.ensures.tried in
    let none : new.desk.entry ≡ None = c.is_quiet.ensures c.if-not-is_quiet.false in
    let ran = next_ran _ was.desk new.desk _ was.registers new.registers was.done i.at same tried none in
    let more = c.if-done-most.false in
    let few = i.few in
    record {
      at = next_at _ was.desk new.desk _ was.registers new.registers was.done i.at same tried none c.pass.new.self c.pass.ensures;
      few = omega arith;
      ran = omega (arith, i.ran, ran);
      agrees = subst (λ (d : CheckPort). Agrees (shown d) new.held) (sym c.pass.ensures) c.obey_at_hand.ensures.agrees;
    }

pub returns-then-done-most-2-clause-tried : goal.returns-then-done-most-2-clause-tried
returns-then-done-most-2-clause-tried c =
    let was = c.loop-desk in
    let left = c.in-None.ensures.left in
    let mid = c.obey_at_hand.new in
    let new = c.obey_next.new in
    let here = unchanged was.desk mid.desk new.desk was.registers mid.registers new.registers Done left.0 left.1 c.obey_next.ensures.same
    (subst (TriedAt mid.desk mid.registers new.desk new.registers) c.in-Ok-Done.field-0-is c.in-Ok-Done.ensures.tried) in
    last_at _ was.desk new.desk _ was.registers new.registers was.done was.invariant.at here.0
    Done c.entry-then-done-most-2.result c.entry-then-done-most-2.ensures here.1

pub loop-desk-preserved : goal.loop-desk-preserved
loop-desk-preserved c =
    let was = c.loop-desk in
    let i = was.invariant in
    let left = c.in-None.ensures.left in
    let mid = c.obey_at_hand.new in
    let new = c.obey_next.new in
    let none : new.desk.entry ≡ None = c.is_quiet-else-done-most-2.ensures c.if-not-is_quiet-2.false in
    let here = unchanged was.desk mid.desk new.desk was.registers mid.registers new.registers Done left.0 left.1 c.obey_next.ensures.same
    (subst (TriedAt mid.desk mid.registers new.desk new.registers) c.in-Ok-Done.field-0-is c.in-Ok-Done.ensures.tried) in
    let ran = next_ran _ was.desk new.desk _ was.registers new.registers was.done i.at here.0 here.1 none in
    let v = c.pass-in-Ok-Done.new.self in
    let more = c.if-done-most-2.false in
    let few = i.few in
    record {
      at = next_at _ was.desk new.desk _ was.registers new.registers was.done i.at here.0 here.1 none v c.pass-in-Ok-Done.ensures;
      few = omega arith;
      ran = omega (arith, i.ran, ran);
      agrees = subst (λ (d : CheckPort). Agrees (shown d) new.held) (sym c.pass-in-Ok-Done.ensures) c.obey_next.ensures.agrees;
    }

pub returns-in-Ok : goal.returns-in-Ok
returns-in-Ok c =
    let was = c.loop-desk in
    let i = was.invariant in
    let left = c.in-None.ensures.left in
    let mid = c.obey_at_hand.new in
    let new = c.obey_next.new in
    let here = unchanged was.desk mid.desk new.desk was.registers mid.registers new.registers c.in-Ok.step left.0 left.1
    c.obey_next.ensures.same c.in-Ok.ensures.tried in
    record {
      tried = last_at _ was.desk new.desk _ was.registers new.registers was.done i.at here.0 c.in-Ok.step c.entry-in-Ok.result c.entry-in-Ok.ensures here.1;
      err = tt;
      within = i.few;
      same = same_same _ was.desk new.desk i.at.same here.0.same;
    }

pub returns-in-Err-clause-err : goal.returns-in-Err-clause-err
returns-in-Err-clause-err c =
    let was = c.loop-desk in
    let left = c.in-None.ensures.left in
    let new = c.obey_next.new in
    let still = c.in-Err.ensures.err in
    stopped_at _ was.desk new.desk _ was.registers new.registers was.done was.invariant.at
    (still.0 ∙ left.0) (still.1 ∙ ap (λ (d : CheckPort). stock_of d.bench.now) left.1)
