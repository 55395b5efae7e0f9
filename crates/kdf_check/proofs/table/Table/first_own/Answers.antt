use Rattle.std.proofs.Common.{None, sym, ◌∙◌}
use Rattle.std.specs.Prelude.{slice_index_or}
use Rattle.std.specs.List.{range_with_len}
use Rattle.kdf_processor.proofs.Finding.{found_here, found_behind, found_none, head_filter}
use Rattle.kdf_check.specs.Around.{is_of}
use Rattle.kdf_check.proofs.table.Table.first_own.Goals as goal

pub loop-d-init : goal.loop-d-init
loop-d-init c = head_filter (λ d. is_of c.args.p (slice_index_or c.args.self.now.places d None)) (range_with_len 0 16)

pub returns-then-is_own-clause-least : goal.returns-then-is_own-clause-least
returns-then-is_own-clause-least c =
    sym (c.loop-d.invariant ∙ found_here (λ d. is_of c.args.p (slice_index_or c.args.self.now.places d None)) c.loop-d.d 16 c.loop-d-test.true
    (sym c.is_own.ensures.own ∙ c.if-is_own.true))

pub loop-d-preserved : goal.loop-d-preserved
loop-d-preserved c =
    c.loop-d.invariant ∙ found_behind (λ d. is_of c.args.p (slice_index_or c.args.self.now.places d None)) c.loop-d.d 16 c.loop-d-test.true
    (sym c.is_own.ensures.own ∙ c.if-is_own.false)

pub returns-clause-least : goal.returns-clause-least
returns-clause-least c =
    sym (c.loop-d.invariant ∙ found_none (λ d. is_of c.args.p (slice_index_or c.args.self.now.places d None)) c.loop-d.d 16 c.loop-d-test.false)
