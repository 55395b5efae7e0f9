use Rattle.std.proofs.Common.{◌∙◌, arith}
use Rattle.std.proofs.lemmas.List.{get_or_default}
use Rattle.kdf_places.specs.declared.place.Place.TheVariants.{Absent}
use Rattle.kdf_places.proofs.OnePlaceChanges.{same_spots}
use Rattle.kdf_places.proofs.places.make_ready_at.Goals as goal

pub returns-then-d-len-clause-spots : goal.returns-then-d-len-clause-spots
returns-then-d-len-clause-spots c =
    same_spots c.args.places.now.items c.args.d c.index_mut-place.result.now c.make_ready.new.self
    (c.index_mut-place.ensures.value ∙ get_or_default c.args.places.now.items c.args.d _ Absent
    (omega (arith, c.if-d-len.true, c.len.ensures, c.args.places.now.ok.0)))
    c.make_ready.ensures.spot
