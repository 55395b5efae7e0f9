-- What a transfer is to the program whose it is.
use Rattle.std.specs.Prelude.{◌≡◌, ℕ, ◌+◌, ◌<◌, ◌≤◌, true, Some, is_some}
use Rattle.kdf_transfer.specs.AtOnce.{has_area}
use Rattle.kdf_transfer.specs.InFlight.{Covers, total_of}
use Rattle.kdf_places.specs.Spots.{Held, Spot}
use Rattle.kdf_yard.specs.Fields.Parts.{Part, has_device}

-- a transfer is over a device that is the program's, and its area lies in the program's window
pub record IsFlightOf (q : Part) (d : ℕ) (s : Spot) (h : Held) : Type 0 where
  pub owner : h.p ≡ q.p
  pub its : has_device q d ≡ true
  pub fixture : s.fixture ≡ Some h.motion.fixture
  pub progress : s.progress ≡ h.motion.progress
  pub lease : is_some h.motion.lease ≡ has_area h.motion.order
  pub covers : has_area h.motion.order ≡ true → Covers h.motion.lease h.motion.first h.motion.last
  pub low : has_area h.motion.order ≡ true → q.base ≤ h.motion.first
  pub high : has_area h.motion.order ≡ true → h.motion.last < q.base + q.size
  pub moved : h.motion.moved ≤ total_of h.motion
