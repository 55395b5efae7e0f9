use Rattle.std.proofs.Common.{refl}
use Rattle.kdf_journal.specs.Steps.{Sets, Swaps, Waits}
use Rattle.kdf_check.proofs.Kept.{ended_keeps, held_keeps, moved_keeps, obeyed_keeps, still_keeps}
use Rattle.kdf_check.proofs.laws.table_kept.Goals as goal

pub returns-clause-obeyed : goal.returns-clause-obeyed
returns-clause-obeyed c = obeyed_keeps

pub returns-clause-ended : goal.returns-clause-ended
returns-clause-ended c = ended_keeps

pub returns-clause-moved : goal.returns-clause-moved
returns-clause-moved c = moved_keeps

pub returns-clause-held : goal.returns-clause-held
returns-clause-held c = held_keeps

pub returns-clause-waited : goal.returns-clause-waited
returns-clause-waited c slots J table are l tells = still_keeps slots J Waits table are l tells (λ x. refl) (λ x. refl)

pub returns-clause-set : goal.returns-clause-set
returns-clause-set c slots J t table are l tells = still_keeps slots J (Sets t) table are l tells (λ x. refl) (λ x. refl)

pub returns-clause-exchanged : goal.returns-clause-exchanged
returns-clause-exchanged c slots J p q table are l tells = still_keeps slots J (Swaps p q) table are l tells (λ x. refl) (λ x. refl)
