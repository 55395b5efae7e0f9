use Rattle.kdf_account.specs.Json.{over_json}
use Rattle.kdf_account.proofs.tallies.write_over.Goals as goal

pub returns : goal.returns
unfolding over_json
returns c = c.write.ensures.bytes
