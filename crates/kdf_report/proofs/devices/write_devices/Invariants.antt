use Rattle.std.proofs.Common.{◌-◌, ◌≤◌}
use Rattle.std.specs.List.{flat_map, range_with_len}
use Rattle.kdf_text.specs.Text.{Adds}
use Rattle.kdf_report.specs.Devices.{device_lines}
use Rattle.kdf_report.proofs.devices.write_devices.Given as goal

abbrev pub invariant-loop-d : goal.invariant-loop-d
invariant-loop-d g l = record {
  written : Adds l.initial.out l.out (flat_map (device_lines (g.P.Program.state l.program)) (range_with_len 0 (l.d - 0)));
  most : l.d ≤ 16;
}
