use Rattle.std.proofs.Common.{arith}
use Rattle.kdf_report.specs.Devices.{device_lines}
use Rattle.kdf_text.proofs.Texts.{text_lines_more}
use Rattle.kdf_report.proofs.devices.write_devices.Goals as goal

pub loop-d-preserved : goal.loop-d-preserved
loop-d-preserved g c = record {
  written = text_lines_more (device_lines (g.P.Program.state c.args.program.now)) 0 c.loop-d.d _ _ _ (omega arith)
      c.loop-d.invariant.written c.in_ok-write_numbered.ensures;
  most = omega arith;
}
