use Rattle.kdf_account.specs.Json.{slot_json}
use Rattle.kdf_account.proofs.calls.write_number.Goals as goal

pub returns : goal.returns
unfolding slot_json
returns c = c.write.ensures.bytes
