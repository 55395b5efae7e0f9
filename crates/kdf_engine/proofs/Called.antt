-- An answer that is given where nothing failed is called for.
use Rattle.std.proofs.Common.{◌≢◌, refl}
use Rattle.kdf_top.specs.declared.status.Status.{Status}
use Rattle.kdf_top.specs.declared.status.Status.TheVariants as status
use Rattle.kdf_top.specs.Answers.{Answers}

pub called_for : (wanted : Status → Type 0) (given : Status) (read_failed write_failed : Type 0) → Answers wanted given read_failed write_failed
    → given ≢ status.ReadFault → given ≢ status.WriteFault → given ≢ status.Memory → wanted given
called_for wanted status.ReadFault r w is read write memory = absurd (read refl)
called_for wanted status.WriteFault r w is read write memory = absurd (write refl)
called_for wanted status.Memory r w is read write memory = absurd (memory refl)
called_for wanted status.Done r w is read write memory = is
called_for wanted status.Usage r w is read write memory = is
called_for wanted (status.Job fault line) r w is read write memory = is
called_for wanted (status.Deck slot fault place) r w is read write memory = is
called_for wanted status.Large r w is read write memory = is
called_for wanted (status.Snapshot fault line) r w is read write memory = is

pub answers_called : (wanted : Status → Type 0) (given : Status) (read_failed write_failed : Type 0) → wanted given
    → given ≢ status.ReadFault → given ≢ status.WriteFault → Answers wanted given read_failed write_failed
answers_called wanted status.ReadFault r w is read write = absurd (read refl)
answers_called wanted status.WriteFault r w is read write = absurd (write refl)
answers_called wanted status.Memory r w is read write = tt {0}
answers_called wanted status.Done r w is read write = is
answers_called wanted status.Usage r w is read write = is
answers_called wanted (status.Job fault line) r w is read write = is
answers_called wanted (status.Deck slot fault place) r w is read write = is
answers_called wanted status.Large r w is read write = is
answers_called wanted (status.Snapshot fault line) r w is read write = is
