use Rattle.std.proofs.Common.{◌≡◌, ◌++◌, take}
use Rattle.std.specs.Prelude.{string_bytes}
use Rattle.kdf_account.specs.Json.{rest_calls_json}
use Rattle.kdf_account.proofs.calls.write_rest.Given as goal

abbrev pub invariant-loop-p : goal.invariant-loop-p
invariant-loop-p l =
    string_bytes l.out ≡ string_bytes l.initial.out ++ rest_calls_json l.fn.free l.fn.moments (take l.p-index l.slots)
