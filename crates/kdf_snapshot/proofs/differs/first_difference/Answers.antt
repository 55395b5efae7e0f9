use Rattle.std.proofs.Common.{◌≡◌, length, take, subst, arith}
use Rattle.kdf_snapshot.proofs.Places.{at-end, at-end-of, at-member, more-alike, same-lists}
use Rattle.kdf_snapshot.proofs.differs.first_difference.Goals as goal
use Rattle.kdf_snapshot.proofs.differs.first_difference.Goals.{then-i-those-via-then-i-those, then-i-those-via-else-i-those+then-not-is_same}

pub returns-then-i-those-clause-some : goal.returns-then-i-those-clause-some
returns-then-i-those-clause-some c =
    let xs = c.args.these.now in
    let ys = c.args.those.now in
    elim c.then-i-those.branch [
      | then-i-those-via-then-i-those w ↦ at-end-of xs ys c.loop-i.i c.loop-i.invariant.alike c.loop-i-test.true w.if-i-those.true
      | then-i-those-via-else-i-those+then-not-is_same w ↦ at-member xs ys c.loop-i.i _ _ c.loop-i.invariant.alike c.loop-i-test.true w.if-i-those.false
          (w.is_same.ensures.apart w.if-not-is_same.true)
    ]

pub loop-i-preserved : goal.loop-i-preserved
loop-i-preserved c =
    record {
      alike = more-alike c.args.these.now c.args.those.now c.loop-i.i _ _ c.loop-i-test.true c.if-i-those.false c.loop-i.invariant.alike
          (c.is_same.ensures.same c.if-not-is_same.false);
      within = omega arith;
    }

pub returns-then-these-those-clause-some : goal.returns-then-these-those-clause-some
returns-then-these-those-clause-some c =
    let n : c.loop-i.i ≡ length c.args.these.now = omega arith in
    at-end c.args.these.now c.args.those.now (length c.args.these.now)
    (subst (λ i. take i c.args.these.now ≡ take i c.args.those.now) n c.loop-i.invariant.alike) (omega arith) c.if-these-those.true

pub returns-else-these-those-clause-none : goal.returns-else-these-those-clause-none
returns-else-these-those-clause-none c =
    same-lists c.args.these.now c.args.those.now c.loop-i.i c.loop-i.invariant.alike c.loop-i-test.false (omega arith)
