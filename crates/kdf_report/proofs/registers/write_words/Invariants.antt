use Rattle.std.proofs.Common.{◌≡◌, ◌++◌, take, string_bytes, codes}
use Rattle.std.specs.List.{flat_map}
use Rattle.kdf_text.specs.Text.{octal}
use Rattle.kdf_report.proofs.registers.write_words.Given as goal

abbrev pub invariant-loop-i : goal.invariant-loop-i
invariant-loop-i l =
    string_bytes l.out ≡ string_bytes l.initial.out ++ flat_map (λ w. codes " " ++ octal w) (take l.i l.nest)
