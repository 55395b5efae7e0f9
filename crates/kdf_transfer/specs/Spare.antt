-- What a device needs for an order beforehand.
use Rattle.std.specs.Prelude.{◌+◌, ◌^◌, ◌<◌, ◌≤◌}
use Rattle.kdf_transfer.specs.AtOnce.{blocks_out}
use Rattle.kdf_transfer.specs.Devices.{progress_of, room_of}
use Rattle.kdf_transfer.specs.declared.device.Device.{Device}
use Rattle.kdf_transfer.specs.declared.order.TransferOrder.{TransferOrder}

-- it has memory for the blocks that the order adds, and fewer than 2^32 - 1 blocks yet
pub record HasSpare (order : TransferOrder) (device : Device) : Type 0 where
  pub spare : blocks_out order ≤ room_of device
  pub few : (progress_of device).place + blocks_out order < 2 ^ 32
