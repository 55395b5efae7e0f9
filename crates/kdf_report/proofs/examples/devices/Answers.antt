use Rattle.std.proofs.Common.{refl}
use Rattle.std.specs.Fmt.{digits}
use Rattle.kdf_report.proofs.examples.devices.Goals as goal

pub returns-clause-reader : goal.returns-clause-reader
unfolding digits
returns-clause-reader c = refl

pub returns-clause-cards : goal.returns-clause-cards
unfolding digits
returns-clause-cards c = refl

pub returns-clause-punch : goal.returns-clause-punch
unfolding digits
returns-clause-punch c = refl

pub returns-clause-printer : goal.returns-clause-printer
unfolding digits
returns-clause-printer c = refl

pub returns-clause-tape : goal.returns-clause-tape
unfolding digits
returns-clause-tape c = refl
