use Rattle.std.proofs.Common.{◌≡◌, ◌++◌, map, take, string_bytes}
use Rattle.kdf_code.specs.Code.{host_of}
use Rattle.kdf_report.proofs.characters.write_characters.Given as goal

abbrev pub invariant-loop-code : goal.invariant-loop-code
invariant-loop-code l =
    string_bytes l.out ≡ string_bytes l.initial.out ++ map host_of (take l.code-index l.codes)
