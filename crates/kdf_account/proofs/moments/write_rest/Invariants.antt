use Rattle.std.proofs.Common.{◌≡◌, ◌++◌, take}
use Rattle.std.specs.Prelude.{string_bytes}
use Rattle.kdf_account.specs.Json.{rest_json}
use Rattle.kdf_account.proofs.moments.write_rest.Given as goal

abbrev pub invariant-loop-moment : goal.invariant-loop-moment
invariant-loop-moment l = string_bytes l.out ≡ string_bytes l.initial.out ++ rest_json (take l.moment-index l.moments)
