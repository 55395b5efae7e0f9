use Rattle.std.proofs.Common.{ap, ◌∙◌, []}
use Rattle.kdf_usercode.specs.Faults.{least}
use Rattle.kdf_place.specs.Late.{twice}
use Rattle.kdf_place.proofs.twice.table.Goals as goal

pub returns-clause-means : goal.returns-clause-means
returns-clause-means g c = c.in_ok-sort.ensures.means

pub returns-clause-faults : goal.returns-clause-faults
returns-clause-faults g c =
    c.first_twice-found.ensures ∙ ap (λ es. least (twice c.args.fault [] es)) c.deref.ensures.value ∙ c.in_ok-sort.ensures.faults c.args.fault
