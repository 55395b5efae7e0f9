use Rattle.std.proofs.Common.{◌≡◌, length, ap, ◌∙◌}
use Rattle.kdf_job.specs.Made.{made_text}
use Rattle.kdf_job.proofs.MadeLengths.{made_bytes}
use Rattle.kdf_job.proofs.MadeTexts.{all_written}
use Rattle.kdf_job.proofs.made.generated.Goals as goal
use Rattle.kdf_job.proofs.made.generated.Goals.{After-into_bytes}

told : (c : After-into_bytes) → c.into_bytes.result.items ≡ made_text c.args.n
told c = ap (λ v. v.items) c.into_bytes.ensures.value ∙ all_written c.args.n _ _ c.new-out.ensures.bytes c.in_ok-write_job.ensures

pub returns-clause-text : goal.returns-clause-text
returns-clause-text c = told c

pub returns-clause-bytes : goal.returns-clause-bytes
returns-clause-bytes c = ap length (told c) ∙ made_bytes c.args.n
