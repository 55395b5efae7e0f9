use Rattle.std.proofs.Common.{refl}
use Rattle.std.specs.Fmt.{digits}
use Rattle.kdf_report.proofs.examples.entries.Goals as goal

pub returns-clause-orders : goal.returns-clause-orders
unfolding digits
returns-clause-orders c = refl

pub returns-clause-holds : goal.returns-clause-holds
unfolding digits
returns-clause-holds c = refl

pub returns-clause-events : goal.returns-clause-events
unfolding digits
returns-clause-events c = refl

pub returns-clause-pool : goal.returns-clause-pool
unfolding digits
returns-clause-pool c = refl
