use Rattle.std.proofs.Common.{ap, refl, sym}
use Rattle.kdf_yard.specs.Fields.Batches.{of_seat, AreQuiet, HasBatch, Passes}
use Rattle.kdf_yard.specs.Fields.Parts.{reach}
use Rattle.kdf_yard.specs.Fields.Turned.{HasTried}
use Rattle.kdf_theory.specs.Holders.{held_by}
use Rattle.kdf_theory.proofs.Results.{if_ok, on_err}
use Rattle.kdf_yard.proofs.Turns.TurnsShow.{lent_over, seat_back, shared_back}
use Rattle.kdf_yard.proofs.dispatch.try_next.Goals as goal

-- what was lent ends as the turn leaves it
pub returns-clause-tried : goal.returns-clause-tried
returns-clause-tried c =
    let kept = c.obey_quiet.ensures.same in
    if_ok c.obey_quiet.result.1 _ _
    (λ x h. lent_over (λ r m a s b l. HasBatch of_seat c.args.place (HasTried r (held_by c.args.journal.now.entries) m) c.obey_quiet.result.0 a s b l x.0 x.1)
    _ _ _ _ _ _ _ _ _ _ _ _ (ap (λ w. reach w c.args.stand.now.slot.now) c.window_of.ensures) refl refl refl
    (seat_back c.obey_quiet.new.turn c.args.program.now.p c.obey_quiet.new.registers _ _ _ kept.p refl refl refl)
    (shared_back c.obey_quiet.new.turn _ _ (c.store-1.given.1 (sym kept.same.store)) (ap (λ v. v.items) (c.places-1.given.1 (sym kept.same.places))))
    h)
    c.obey_quiet.ensures.tried

pub returns-clause-err : goal.returns-clause-err
returns-clause-err c =
    let kept = c.obey_quiet.ensures.same in
    on_err c.obey_quiet.result.1 _ _
    (lent_over (λ r m a s b l. AreQuiet (Passes of_seat c.args.place (HasTried r (held_by c.args.journal.now.entries) m)) c.obey_quiet.result.0 a s b l)
    _ _ _ _ _ _ _ _ _ _ _ _ (ap (λ w. reach w c.args.stand.now.slot.now) c.window_of.ensures) refl refl refl
    (seat_back c.obey_quiet.new.turn c.args.program.now.p c.obey_quiet.new.registers _ _ _ kept.p refl refl refl)
    (shared_back c.obey_quiet.new.turn _ _ (c.store-1.given.1 (sym kept.same.store)) (ap (λ v. v.items) (c.places-1.given.1 (sym kept.same.places)))))
    c.obey_quiet.ensures.err
