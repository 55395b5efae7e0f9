use Rattle.std.proofs.Common.{◌∙◌, ap}
use Rattle.kdf_processor.specs.Row.{row}
use Rattle.kdf_theory.specs.Flights.{flights_after}
use Rattle.kdf_theory.specs.Seen.{seen}
use Rattle.kdf_theory.proofs.Seen.OrdersSeen.{begun_seen}
use Rattle.kdf_director.proofs.laws.begins.Goals as goal

pub returns : goal.returns
returns c flights mine answer s d o first last after begins none =
    begun_seen flights mine s none answer ∙ ap (λ e. seen (flights_after flights s e) (row s answer)) begins
