use Rattle.std.proofs.Common.{ap, ◌∙◌, sym}
use Rattle.kdf_places.specs.Spots.{spot_of}
use Rattle.kdf_places.specs.Transfers.{moved_spot}
use Rattle.kdf_places.proofs.OnePlaceChanges.{spot_moved}
use Rattle.kdf_places.proofs.place.Place.move_words.Goals as goal

pub returns-in-Busy-clause-spot : goal.returns-in-Busy-clause-spot
returns-in-Busy-clause-spot c =
    spot_moved c.in-Busy.p c.args.n c.in-Busy.transfer c.move_words.new.self c.move_words.ensures
    ∙ ap (λ q. moved_spot c.args.n (spot_of q)) (sym c.in-Busy.is)
