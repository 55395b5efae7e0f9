use Rattle.std.proofs.Common.{◌∙◌, arith}
use Rattle.std.proofs.lemmas.List.{get_or_default}
use Rattle.kdf_places.specs.declared.place.Place.TheVariants.{Absent}
use Rattle.kdf_places.specs.Spots.{left_spot}
use Rattle.kdf_places.proofs.OnePlaceChanges.{set_spot}
use Rattle.kdf_places.proofs.places.take_back_at.Goals as goal

pub returns-then-d-len-clause-spots : goal.returns-then-d-len-clause-spots
returns-then-d-len-clause-spots c =
    set_spot c.args.places.now.items c.args.d c.index_mut-place.result.now c.take_back.new.self left_spot
    (c.index_mut-place.ensures.value ∙ get_or_default c.args.places.now.items c.args.d _ Absent
    (omega (arith, c.if-d-len.true, c.len.ensures, c.args.places.now.ok.0)))
    c.take_back.ensures.spot
