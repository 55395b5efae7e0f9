use Rattle.std.proofs.Common.{◌≡◌, true, ap}
use Rattle.kdf_processor.specs.Lone.{is_live}
use Rattle.kdf_yard.specs.Fields.Parts.{Seat, reach_of, seat_of}
use Rattle.kdf_theory.specs.Holders.{held_by}
use Rattle.kdf_places.specs.Shared.{Shared, shared_in}
use Rattle.kdf_yard.proofs.Turns.Batching.{runs_by, runs_still}
use Rattle.kdf_theory.proofs.Results.{if_ok, on_err}
use Rattle.kdf_yard.proofs.dispatch.run.Goals as goal
use Rattle.kdf_yard.proofs.dispatch.run.Goals.{After-settle}

-- the program and what is shared: before, and after its orders
abbrev before : After-settle → Seat
before c = seat_of c.args.program.now

abbrev s : After-settle → Shared
s c = shared_in c.args.store.now c.args.places.now.items

abbrev mid : After-settle → Seat
mid c = seat_of c.try_next-tried.new.program

abbrev between : After-settle → Shared
between c = shared_in c.try_next-tried.new.store c.try_next-tried.new.places.items

live : (c : After-settle) → is_live (before c).registers.state ≡ true
live c = ap is_live c.requires.live

pub returns-clause-ran : goal.returns-clause-ran
returns-clause-ran c =
    let at = (goal.at.returns-clause-ran c).After-settle in
    if_ok c.try_next-tried.result.1 _ _
    (λ x h. runs_by (reach_of c.args.stand.now.windows.now c.args.stand.now.slot.now) (held_by c.args.journal.now.entries) c.args.moment c.args.place
    c.try_next-tried.result.0 (before at) (s at) (mid at) (between at) _ _ x.0 x.1 (live at)
    h
    (c.settle.ensures.both c.try_next-tried.new.store))
    c.try_next-tried.ensures.tried

pub returns-clause-err : goal.returns-clause-err
returns-clause-err c =
    let at = (goal.at.returns-clause-err c).After-settle in
    on_err c.try_next-tried.result.1 _ _
    (λ h. runs_still (reach_of c.args.stand.now.windows.now c.args.stand.now.slot.now) (held_by c.args.journal.now.entries) c.args.moment c.args.place
    c.try_next-tried.result.0 (before at) (s at) (mid at) (between at) _ _ (live at)
    h
    (c.settle.ensures.both c.try_next-tried.new.store))
    c.try_next-tried.ensures.err
