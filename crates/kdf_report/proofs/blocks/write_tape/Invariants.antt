use Rattle.std.proofs.Common.{map, take}
use Rattle.kdf_text.specs.Text.{Adds}
use Rattle.kdf_report.specs.Devices.{tape_line}
use Rattle.kdf_report.proofs.blocks.write_tape.Given as goal

abbrev pub invariant-loop-block : goal.invariant-loop-block
invariant-loop-block l = Adds l.initial.out l.out (map tape_line (take l.block-index l.blocks))
