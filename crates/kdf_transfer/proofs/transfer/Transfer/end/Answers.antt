use Rattle.std.proofs.Common.{◌≡◌, true, is_some, ap, ap₂, ◌∙◌, sym, subst}
use Rattle.kdf_transfer.specs.AtOnce.{has_area}
use Rattle.kdf_transfer.specs.InFlight.{Motion, moved_by, total_of, ended_progress, Covers}
use Rattle.kdf_transfer.specs.Flying.{motion_of}
use Rattle.kdf_transfer.proofs.Words.{all-moved, ended-moved}
use Rattle.kdf_transfer.proofs.transfer.Transfer.end.Goals as goal
use Rattle.kdf_transfer.proofs.transfer.Transfer.end.Goals.{After-run_out}

-- the parts after all moves
whole : (c : After-run_out) → motion_of c.run_out.new.self ≡ moved_by (total_of c.args.self) c.args.self
whole c =
    c.run_out.ensures.motion
    ∙ ap₂ (λ n t. moved_by n t) (c.self.invariant.total ∙ ap total_of c.self.view_is) c.self.view_is

pub finish-requires-clause-all : goal.finish-requires-clause-all
finish-requires-clause-all c =
    let e = whole c in
    ap (λ (t : Motion). t.moved) e ∙ all-moved c.args.self ∙ ap total_of (sym e) ∙ sym c.run_out.ensures.flying.total

pub returns-clause-fixture : goal.returns-clause-fixture
unfolding moved_by
returns-clause-fixture c = c.finish.ensures.fixture ∙ ap (λ (t : Motion). t.fixture) (whole (goal.at.returns-clause-fixture c).After-run_out)

pub returns-clause-progress : goal.returns-clause-progress
returns-clause-progress c =
    c.finish.ensures.progress ∙ ap ended_progress (whole (goal.at.returns-clause-progress c).After-run_out) ∙ ended-moved (total_of c.args.self) c.args.self

pub returns-clause-lease : goal.returns-clause-lease
returns-clause-lease c = c.finish.ensures.lease ∙ ap (λ (t : Motion). t.lease) (whole (goal.at.returns-clause-lease c).After-run_out)

pub returns-clause-some : goal.returns-clause-some
unfolding moved_by
returns-clause-some c =
    ap is_some c.finish.ensures.lease ∙ c.run_out.ensures.flying.lease
    ∙ ap (λ (t : Motion). has_area t.order) (whole (goal.at.returns-clause-some c).After-run_out)

pub returns-clause-covers : goal.returns-clause-covers
unfolding moved_by
returns-clause-covers c = λ has.
    let e = whole (goal.at.returns-clause-covers c).After-run_out in
    let h = subst (λ (t : Motion). has_area t.order ≡ true → Covers t.lease t.first t.last) e c.run_out.ensures.flying.area has in
    subst (λ l. Covers l c.args.self.first c.args.self.last) (sym (c.finish.ensures.lease ∙ ap (λ (t : Motion). t.lease) e)) h
