use Rattle.kdf_theory.proofs.Seen.NoneInFlight.{over_row}
use Rattle.kdf_director.proofs.laws.none_at_the_end.Goals as goal

pub returns : goal.returns
returns c flights answer s flying none live over = over_row flights answer s flying none live over
