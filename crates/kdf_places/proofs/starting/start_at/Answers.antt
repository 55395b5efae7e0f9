use Rattle.std.proofs.Common.{◌∙◌}
use Rattle.std.proofs.lemmas.List.{get_or_default}
use Rattle.kdf_places.specs.declared.place.Place.TheVariants.{Absent}
use Rattle.kdf_places.specs.Transfers.{start_spot}
use Rattle.kdf_places.proofs.OnePlaceChanges.{set_spot}
use Rattle.kdf_places.proofs.starting.start_at.Goals as goal

pub returns-clause-spots : goal.returns-clause-spots
returns-clause-spots c =
    let items = c.args.places.now.items in
    let s = c.args.start in
    set_spot items c.args.d c.index_mut-place.result.now c.begin_in.new.place
    (start_spot s.p s.order s.area.first s.area.last c.args.store.now)
    (c.index_mut-place.ensures.value ∙ get_or_default items c.args.d _ Absent c.requires.there)
    c.begin_in.ensures.spot
