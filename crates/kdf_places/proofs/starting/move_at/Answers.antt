use Rattle.std.proofs.Common.{map, set, ap, ◌∙◌, sym}
use Rattle.std.proofs.lemmas.List.{map-set, get_or_default}
use Rattle.kdf_places.specs.declared.place.Place.TheVariants.{Absent}
use Rattle.kdf_places.specs.Spots.{spot_of}
use Rattle.kdf_places.specs.Transfers.{moved_spot}
use Rattle.kdf_places.proofs.OnePlaceChanges.{spot_there}
use Rattle.kdf_places.proofs.starting.move_at.Goals as goal

pub returns-clause-spots : goal.returns-clause-spots
returns-clause-spots c =
    let items = c.args.places.now.items in
    let old = c.index_mut-place.ensures.value ∙ get_or_default items c.args.d _ Absent c.requires.there in
    map-set spot_of items c.args.d c.move_words.new.self
    ∙ ap (set (map spot_of items) c.args.d) (c.move_words.ensures.spot ∙ ap (moved_spot c.args.n) (ap spot_of old ∙ sym (spot_there items c.args.d)))
