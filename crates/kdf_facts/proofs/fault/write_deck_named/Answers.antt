use Rattle.kdf_facts.specs.Faults.{deck_named}
use Rattle.kdf_facts.proofs.fault.write_deck_named.Goals as goal

pub returns : goal.returns
unfolding deck_named
returns c = c.write.ensures.bytes
