use Rattle.std.proofs.Common.{sym}
use Rattle.kdf_theory.specs.Seen.{pending_in_flight, seen}
use Rattle.kdf_theory.proofs.Seen.SeenStates.{seen_agrees}
use Rattle.kdf_processor.proofs.FrameLemmas.{first_agree, needs_agree}
use Rattle.kdf_director.proofs.laws.same_needs.Goals as goal

pub returns-clause-all : goal.returns-clause-all
returns-clause-all c flights mine s none = needs_agree (pending_in_flight flights) mine s (seen flights s) (seen_agrees flights s) none

pub returns-clause-first : goal.returns-clause-first
returns-clause-first c flights mine s = sym (first_agree (pending_in_flight flights) mine s (seen flights s) (seen_agrees flights s))
