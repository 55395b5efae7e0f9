use Rattle.kdf_theory.proofs.Seen.NoneInFlight.{nothing_flying}
use Rattle.kdf_theory.proofs.Seen.SeenStates.{seen_nothing}
use Rattle.kdf_director.proofs.laws.nothing_in_flight.Goals as goal

pub returns-clause-seen : goal.returns-clause-seen
returns-clause-seen c flights s none = seen_nothing flights s none

pub returns-clause-flying : goal.returns-clause-flying
returns-clause-flying c flights s sized none = nothing_flying flights s sized none
