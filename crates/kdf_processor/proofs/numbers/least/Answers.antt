use Rattle.std.proofs.Common.{sym, ◌∙◌}
use Rattle.kdf_processor.proofs.Finding.{found_here, found_behind, found_none}
use Rattle.kdf_processor.proofs.numbers.least.Goals as goal

pub passes-requires : goal.passes-requires
passes-requires g c = c.requires c.loop-d.d c.loop-d-test.true

pub returns-then-passes-clause-least : goal.returns-then-passes-clause-least
returns-then-passes-clause-least g c = λ test is.
    sym (c.loop-d.invariant test is ∙ found_here test c.loop-d.d 16 c.loop-d-test.true (sym (is c.loop-d.d c.passes.result c.loop-d-test.true c.passes.ensures)
    ∙ c.if-passes.true))

pub loop-d-preserved : goal.loop-d-preserved
loop-d-preserved g c = λ test is.
    c.loop-d.invariant test is ∙ found_behind test c.loop-d.d 16 c.loop-d-test.true (sym (is c.loop-d.d c.passes.result c.loop-d-test.true c.passes.ensures)
    ∙ c.if-passes.false)

pub returns-clause-least : goal.returns-clause-least
returns-clause-least g c = λ test is.
    sym (c.loop-d.invariant test is ∙ found_none test c.loop-d.d 16 c.loop-d-test.false)
