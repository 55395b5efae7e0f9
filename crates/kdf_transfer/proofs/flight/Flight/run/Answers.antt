use Rattle.std.proofs.Common.{◌≡◌, ◌-◌, ◌≤◌, min, refl, ap, ◌∙◌, sym, arith}
use Rattle.kdf_transfer.specs.InFlight.{moved_by, total_of}
use Rattle.kdf_transfer.specs.Flying.{motion_of}
use Rattle.kdf_transfer.proofs.Moving.{moved_two, moved_none, moved_min}
use Rattle.kdf_transfer.proofs.flight.Flight.run.Goals as goal

pub loop-i-init : goal.loop-i-init
loop-i-init c =
    let fl = c.requires in
    let within : c.args.self.now.moved ≤ total_of (motion_of c.args.self.now) = omega arith in
    record { flying = c.requires; motion = sym (moved_none (motion_of c.args.self.now) within); total = refl; moved = omega arith }

pub step-requires-clause-more : goal.step-requires-clause-more
step-requires-clause-more c = omega (arith, c.min-i-end.ensures)

pub loop-i-preserved : goal.loop-i-preserved
loop-i-preserved c =
    let within : c.args.self.now.moved ≤ total_of (motion_of c.args.self.now) = omega arith in
    record {
      flying = c.step.ensures.flying;
      motion = c.step.ensures.motion ∙ ap (moved_by 1) c.loop-i.invariant.motion ∙ moved_two c.loop-i._i 1 (motion_of c.args.self.now) within;
      total = c.step.ensures.total ∙ c.loop-i.invariant.total;
      moved = omega (arith, c.step.ensures.moved, c.loop-i.invariant.moved);
    }

pub returns-clause-motion : goal.returns-clause-motion
returns-clause-motion c =
    let within : c.args.self.now.moved ≤ total_of (motion_of c.args.self.now) = omega arith in
    let all : c.loop-i._i ≡ min c.args.n (total_of (motion_of c.args.self.now) - c.args.self.now.moved) = omega (arith, c.min-i-end.ensures) in
    c.loop-i.invariant.motion ∙ ap (λ k. moved_by k (motion_of c.args.self.now)) all ∙ moved_min c.args.n (motion_of c.args.self.now) within
