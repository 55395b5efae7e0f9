use Rattle.std.proofs.Common.{arith}
use Rattle.kdf_qstore.specs.Triples.{triple_at}
use Rattle.kdf_report.specs.Text.{q_line}
use Rattle.kdf_text.proofs.Texts.{text_lines_more}
use Rattle.kdf_report.proofs.registers.write_q_stores.Goals as goal

pub loop-q-preserved : goal.loop-q-preserved
loop-q-preserved c = record {
  written = text_lines_more (λ q. q_line q (triple_at c.args.q_stores.now q)) 1 c.loop-q.q _ _ _ c.loop-q.invariant.some
      c.loop-q.invariant.written c.in_ok-write_q_store.ensures;
  some = omega arith;
  most = omega arith;
}
