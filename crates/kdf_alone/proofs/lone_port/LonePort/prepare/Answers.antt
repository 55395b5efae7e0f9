use Rattle.std.proofs.Common.{refl}
use Rattle.kdf_alone.proofs.Rooms.{room_same}
use Rattle.kdf_alone.proofs.lone_port.LonePort.prepare.Goals as goal

pub returns-clause-room : goal.returns-clause-room
returns-clause-room c = room_same _ _ refl refl refl refl refl
