use Rattle.kdf_account.specs.Json.{times_json}
use Rattle.kdf_account.proofs.tallies.write_times.Goals as goal

pub returns : goal.returns
unfolding times_json
returns c = c.write.ensures.bytes
