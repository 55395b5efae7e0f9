-- Parts with the same slot, window, devices and pool.
use Rattle.std.proofs.Common.{◌≡◌, ℕ, true, refl, sym, ◌∙◌, arith}
use Rattle.kdf_places.specs.Spots.{Held, Spot}
use Rattle.kdf_yard.specs.Fields.Parts.{Part, has_device}
use Rattle.kdf_yard.specs.Fields.Sound.{IsFlightOf}

pub record SamePart (q q' : Part) : Type 0 where
  pub p : q'.p ≡ q.p
  pub base : q'.base ≡ q.base
  pub size : q'.size ≡ q.size
  pub devices : q'.devices ≡ q.devices
  pub pool : q'.pool ≡ q.pool

-- a flight of one is a flight of the other, if that has the device
pub flight_same : (q q' : Part) (d : ℕ) (x : Spot) (h : Held) → SamePart q q' → has_device q' d ≡ true → IsFlightOf q d x h → IsFlightOf q' d x h
flight_same q q' d x h same has is =
    record {
      owner = is.owner ∙ sym same.p;
      its = has;
      fixture = is.fixture;
      progress = is.progress;
      lease = is.lease;
      covers = is.covers;
      low = λ area. (let a = is.low area in let b = same.base in omega arith);
      high = λ area. (let a = is.high area in let b = same.base in let c = same.size in omega arith);
      moved = is.moved;
    }

pub same_part : (q : Part) → SamePart q q
same_part q = record { p = refl; base = refl; size = refl; devices = refl; pool = refl }
