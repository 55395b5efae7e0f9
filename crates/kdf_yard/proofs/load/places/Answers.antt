use Rattle.std.proofs.Common.{map, sym, ap, ◌∙◌, subst}
use Rattle.kdf_yard.specs.Fields.Filled.{idle_place, idle_spot, loaded}
use Rattle.kdf_places.specs.Spots.{AreDry, spot_of}
use Rattle.kdf_theory.proofs.Lists.{map_twice}
use Rattle.kdf_transfer.proofs.Numbers.{sixteen_numbers}
use Rattle.kdf_yard.proofs.Loading.PlacesLoaded.{dry_is}
use Rattle.kdf_yard.proofs.load.places.Goals as goal

pub returns : goal.returns
returns c =
    record {
      spots = ap (map spot_of) c.put_all.ensures ∙ map_twice spot_of idle_place c.in_ok-idle.idle.items ∙ c.in_ok-idle.ensures.spots
          ∙ sixteen_numbers (idle_spot (map loaded c.args.slots.now));
      dry = subst AreDry (sym c.put_all.ensures) (dry_is c.in_ok-idle.idle.items c.in_ok-idle.ensures.rings);
    }
