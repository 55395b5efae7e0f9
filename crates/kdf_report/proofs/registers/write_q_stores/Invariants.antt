use Rattle.std.proofs.Common.{◌-◌, ◌≤◌}
use Rattle.std.specs.List.{flat_map, range_with_len}
use Rattle.kdf_qstore.specs.Triples.{triple_at}
use Rattle.kdf_text.specs.Text.{Adds}
use Rattle.kdf_report.specs.Text.{q_line}
use Rattle.kdf_report.proofs.registers.write_q_stores.Given as goal

abbrev pub invariant-loop-q : goal.invariant-loop-q
invariant-loop-q l = record {
  written : Adds l.initial.out l.out (flat_map (λ q. q_line q (triple_at l.q_stores q)) (range_with_len 1 (l.q - 1)));
  some : 1 ≤ l.q;
  most : l.q ≤ 16;
}
