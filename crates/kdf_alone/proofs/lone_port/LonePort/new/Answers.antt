use Rattle.std.proofs.Common.{refl, rules}
use Rattle.kdf_alone.proofs.Stints.{begun_lent}
use Rattle.kdf_alone.proofs.lone_port.LonePort.new.Goals as goal

pub invariant_of-result-clause-lent : goal.invariant_of-result-clause-lent
invariant_of-result-clause-lent c = begun_lent c.args.places.items _ _ c.requires.sixteen refl c.requires.unlent (search rules)
