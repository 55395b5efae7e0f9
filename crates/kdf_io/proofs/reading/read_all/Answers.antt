use Rattle.std.proofs.Common.{◌-◌, take, arith}
use Rattle.std.proofs.lemmas.Grind.{common_steps}
use Rattle.std.proofs.lemmas.Result.{err_from_is_err_and}
use Rattle.kdf_io.specs.declared.read_end.ReadEnd.TheVariants.{Memory}
use Rattle.kdf_io.proofs.Passing.{TookBefore-at_most, TookBefore-more}
use Rattle.kdf_io.proofs.reading.read_all.Goals as goal

pub returns-in_err-taken-clause-took_before : goal.returns-in_err-taken-clause-took_before
returns-in_err-taken-clause-took_before g c =
    let p = err_from_is_err_and c.from_residual.result c.from_residual.ensures.1 in
    rw (p.1, p.2) (TookBefore-more _ (c.args.limit - c.len.result) c.args.limit _ _ _ c.loop-bytes.bytes.items (grind (arith, common_steps))
    c.loop-bytes.invariant.took c.in_err-taken.ensures.took_before)

pub returns-in_err-extend_from_slice-clause-took_before :
    goal.returns-in_err-extend_from_slice-clause-took_before
returns-in_err-extend_from_slice-clause-took_before g c =
    let p = err_from_is_err_and c.from_residual-in_err-extend_from_slice.result c.from_residual-in_err-extend_from_slice.ensures.1 in
    rw (p.1, p.2)
    (TookBefore-more Memory (c.args.limit - c.len.result) c.args.limit _ _ _ c.loop-bytes.bytes.items (grind (arith, common_steps)) c.loop-bytes.invariant.took
    (take c.in_ok-taken.taken c.read_piece.new.buffer, grind (arith, common_steps), c.in_ok-taken.ensures.took))

pub returns-in_err-taken-clause-at_most : goal.returns-in_err-taken-clause-at_most
returns-in_err-taken-clause-at_most g c =
    TookBefore-at_most _ c.args.limit _ _
    (TookBefore-more _ (c.args.limit - c.len.result) c.args.limit _ _ _ c.loop-bytes.bytes.items (grind (arith, common_steps)) c.loop-bytes.invariant.took
    c.in_err-taken.ensures.took_before)

pub returns-in_err-extend_from_slice-clause-at_most : goal.returns-in_err-extend_from_slice-clause-at_most
returns-in_err-extend_from_slice-clause-at_most g c =
    TookBefore-at_most Memory c.args.limit _ _
    (TookBefore-more Memory (c.args.limit - c.len.result) c.args.limit _ _ _ c.loop-bytes.bytes.items (grind (arith, common_steps)) c.loop-bytes.invariant.took
    (take c.in_ok-taken.taken c.read_piece.new.buffer, grind (arith, common_steps), c.in_ok-taken.ensures.took))
