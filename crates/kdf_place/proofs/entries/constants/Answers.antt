use Rattle.std.proofs.Common.{append-nil, refl, sym, arith}
use Rattle.kdf_place.specs.Names.{constant_at, constants}
use Rattle.kdf_place.proofs.Grown.{ended, grown}
use Rattle.kdf_place.proofs.entries.constants.Goals as goal

pub loop-statement-preserved : goal.loop-statement-preserved
loop-statement-preserved c =
    let here = c.loop-statement.here in
    let s = c.statement-item.result in
    record {
      near = omega (arith, c.loop-statement.invariant.near, c.after-here.ensures.near);
      all =
          grown constants c.loop-statement.constants.items c.push_constant.new.constants.items (constant_at s.what here.section s.place) here
          c.after-here.result
          c.loop-statement.statement-index c.args.statements.now s _ c.loop-statement-test.true c.statement-item.is c.after-here.ensures.value refl
          c.in_ok-push_constant.ensures c.loop-statement.invariant.all;
    }

pub returns : goal.returns
returns c =
    let out = c.loop-statement.constants.items in
    ended constants out out _ c.loop-statement.here c.loop-statement.statement-index c.args.statements.now c.loop-statement-test.false
    c.loop-statement.invariant.all (sym (append-nil out))
