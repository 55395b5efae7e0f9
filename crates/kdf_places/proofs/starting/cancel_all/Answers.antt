use Rattle.std.proofs.Common.{sym, subst, arith}
use Rattle.std.proofs.lemmas.List.{length-map}
use Rattle.kdf_places.specs.Spots.{spot_of}
use Rattle.kdf_places.specs.Shared.{IsSound, left_in}
use Rattle.kdf_places.proofs.PlacesGivenUp.{none_of, back_last, sound_left, sound_first, all_back}
use Rattle.kdf_places.proofs.starting.cancel_all.Goals as goal

pub loop-place-init : goal.loop-place-init
loop-place-init c =
    record {
      few = omega (arith, c.requires.sound.spots, length-map c.args.places.items spot_of);
      sound = sound_first c.args.store.now c.args.places.items (omega (arith, c.requires.sound.spots, length-map c.args.places.items spot_of)) c.requires.sound;
    }

pub cancel-requires : goal.cancel-requires
cancel-requires c = back_last c.loop-place.store c.loop-place.places.items c.pop.new.self.items c.in-Some.place c.in-Some.ensures.items
    c.loop-place.invariant.few c.loop-place.invariant.sound

pub loop-place-preserved : goal.loop-place-preserved
loop-place-preserved c =
    record {
      few = omega (arith, c.loop-place.invariant.few, c.pop.ensures.len);
      sound = subst (λ cells. IsSound (left_in cells c.pop.new.self.items)) (sym c.cancel.ensures)
          (sound_left c.loop-place.store c.loop-place.places.items c.pop.new.self.items c.in-Some.place c.in-Some.ensures.items c.loop-place.invariant.few
          c.loop-place.invariant.sound);
    }

pub returns : goal.returns
returns c = all_back c.loop-place.store c.loop-place.places.items
    (none_of c.loop-place.places.items (omega (arith, c.loop-place.places.ok, c.in_default.ensures.cases.0))) c.loop-place.invariant.sound
