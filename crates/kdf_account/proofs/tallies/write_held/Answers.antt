use Rattle.kdf_account.specs.Json.{held_json}
use Rattle.kdf_account.proofs.tallies.write_held.Goals as goal

pub returns : goal.returns
unfolding held_json
returns c = c.write.ensures.bytes
