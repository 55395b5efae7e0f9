use Rattle.std.proofs.Common.{◌+◌, ◌<◌, length, ap, ◌∙◌, arith, ◌++◌, ◌∷◌, []}
use Rattle.kdf_lockout.proofs.Ranges.{taken_more}
use Rattle.kdf_lockout.proofs.store.take_groups.Goals as goal

pub loop-k-preserved : goal.loop-k-preserved
loop-k-preserved c =
    let lt : c.args.first + c.loop-k.k < length c.args.groups.now = omega arith in
    let more = taken_more c.args.groups.now c.loop-k.groups c.args.first c.loop-k.k c.index-groups-first.result c.take.result c.take.new.self lt
    c.loop-k.invariant.left c.take.ensures.value c.take.ensures.after in
    record {
      taken = c.push.ensures.items ∙ ap (λ xs. xs ++ c.take.result ∷ []) c.loop-k.invariant.taken ∙ more.0;
      left = more.1;
    }
