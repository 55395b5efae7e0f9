use Rattle.std.proofs.Common.{◌+◌, ◌/◌, sym, ◌∙◌}
use Rattle.kdf_processor.proofs.Finding.{found_here, found_behind, found_none}
use Rattle.kdf_check.specs.Around.{is_out_in}
use Rattle.kdf_check.proofs.table.Table.first_out.Goals as goal

pub returns-then-is_out : goal.returns-then-is_out
returns-then-is_out c =
    sym (c.loop-group.invariant ∙ found_here (is_out_in c.args.p c.args.self.now.places) c.loop-group.group (c.args.last / 32 + 1) c.loop-group-test.true
    (sym c.is_out.ensures ∙ c.if-is_out.true))

pub loop-group-preserved : goal.loop-group-preserved
loop-group-preserved c =
    c.loop-group.invariant ∙ found_behind (is_out_in c.args.p c.args.self.now.places) c.loop-group.group (c.args.last / 32 + 1) c.loop-group-test.true
    (sym c.is_out.ensures ∙ c.if-is_out.false)

pub returns : goal.returns
returns c =
    sym (c.loop-group.invariant ∙ found_none (is_out_in c.args.p c.args.self.now.places) c.loop-group.group (c.args.last / 32 + 1) c.loop-group-test.false)
