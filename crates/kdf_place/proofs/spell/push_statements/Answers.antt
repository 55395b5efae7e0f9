use Rattle.std.proofs.Common.{refl, arith}
use Rattle.std.proofs.lemmas.Result.{on_ok_weaker}
use Rattle.kdf_place.specs.Placement.{syllables, syllables_of}
use Rattle.kdf_place.specs.Tables.{meaning}
use Rattle.kdf_place.proofs.Grown.{ended, grown, in_range-here, in_range-more}
use Rattle.kdf_place.proofs.spell.push_statements.Goals as goal

pub push_statement-requires-clause-what : goal.push_statement-requires-clause-what
push_statement-requires-clause-what c =
    in_range-here c.args.statements.now c.loop-statement.statement-index c.statement-item.result c.loop-statement-test.true c.statement-item.is
    c.loop-statement.invariant.in_range

pub loop-statement-preserved : goal.loop-statement-preserved
loop-statement-preserved c =
    let names = meaning c.args.meanings.now in
    let here = c.loop-statement.here in
    let s = c.statement-item.result in
    record {
      near = omega (arith, c.loop-statement.invariant.near, c.after-here.ensures.near);
      in_range = in_range-more c.args.statements.now c.loop-statement.statement-index s c.loop-statement-test.true c.loop-statement.invariant.in_range;
      all =
          grown (syllables names) c.loop-statement.bytes.items c.push_statement.new.syllables.items (syllables_of names here s.what) here c.after-here.result
          c.loop-statement.statement-index c.args.statements.now s _ c.loop-statement-test.true c.statement-item.is c.after-here.ensures.value refl
          c.in_ok-push_statement.ensures c.loop-statement.invariant.all;
    }

pub returns : goal.returns
returns c =
    on_ok_weaker c.push_filling.result
    (ended (syllables (meaning c.args.meanings.now)) c.loop-statement.bytes.items c.push_filling.new.syllables.items _ c.loop-statement.here
    c.loop-statement.statement-index c.args.statements.now c.loop-statement-test.false c.loop-statement.invariant.all)
    c.push_filling.ensures
