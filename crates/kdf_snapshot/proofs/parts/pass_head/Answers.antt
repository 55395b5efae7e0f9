use Rattle.std.proofs.Common.{ap, refl, List, ℕ, rules}
use Rattle.kdf_text.specs.Lines.{is_text, line}
use Rattle.kdf_text.proofs.Cutting.{no-lines}
use Rattle.kdf_snapshot.specs.Snapshot.{journal_line}
use Rattle.kdf_snapshot.proofs.parts.pass_head.Goals as goal

pub returns-then-is_at_end-clause-fault : goal.returns-then-is_at_end-clause-fault
returns-then-is_at_end-clause-fault c =
    (ap (λ (ls : List (List ℕ)). is_text journal_line (line ls 1)) (no-lines c.args.at.now.lines.rest.now (search rules)), refl)
