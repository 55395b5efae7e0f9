use Rattle.std.proofs.Common.{◌≡◌, ◌/◌, ◌%◌, ◌++◌, take, string_bytes, codes, decimal}
use Rattle.std.specs.List.{flat_map}
use Rattle.kdf_report.proofs.registers.write_places.Given as goal

abbrev pub invariant-loop-i : goal.invariant-loop-i
invariant-loop-i l =
    string_bytes l.out ≡ string_bytes l.initial.out
    ++ flat_map (λ n. codes " " ++ decimal (n % 8192) ++ codes "/" ++ decimal (n / 8192)) (take l.i l.links)
