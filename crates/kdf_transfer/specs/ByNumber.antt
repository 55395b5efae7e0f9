-- What stands at each place of a device.
use Rattle.std.specs.Prelude.{ℕ, List, map}
use Rattle.std.specs.List.{range_with_len}

-- how many places of devices there are; opaque, so that no goal has a case for each of them
unfoldable pub device_count : ℕ
device_count = 16

-- what stands at each place of a device, by number
unfoldable pub by_number : {X : Type 0} → (ℕ → X) → List X
by_number f = map f (range_with_len 0 device_count)
