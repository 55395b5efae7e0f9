use Rattle.std.proofs.Common.{sym, ◌∙◌}
use Rattle.kdf_processor.proofs.RowFacts.{store_lone, size_lone}
use Rattle.kdf_processor.proofs.laws.store_size.Goals as goal

pub returns-clause-kept : goal.returns-clause-kept
returns-clause-kept c start answers n e = store_lone start answers n ∙ e ∙ sym (size_lone start answers n)
