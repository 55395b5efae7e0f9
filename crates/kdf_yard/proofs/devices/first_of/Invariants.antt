use Rattle.std.proofs.Common.{◌≡◌, drop, map}
use Rattle.kdf_places.specs.Spots.{own_from, spot_of}
use Rattle.kdf_yard.proofs.devices.first_of.Given as goal

abbrev pub invariant-loop-d : goal.invariant-loop-d
invariant-loop-d l = own_from l.p 0 (map spot_of l.places) ≡ own_from l.p l.d (map spot_of (drop l.d l.places))
