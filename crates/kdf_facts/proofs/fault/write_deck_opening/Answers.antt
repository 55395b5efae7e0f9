use Rattle.kdf_facts.specs.Faults.{deck_opening}
use Rattle.kdf_facts.proofs.fault.write_deck_opening.Goals as goal

pub returns : goal.returns
unfolding deck_opening
returns c = c.write.ensures.bytes
