use Rattle.std.proofs.Common.{◌≡◌, ◌++◌, take}
use Rattle.std.specs.Prelude.{string_bytes}
use Rattle.kdf_report.specs.Text.{spaced_numbers}
use Rattle.kdf_report.proofs.registers.write_numbers.Given as goal

abbrev pub invariant-loop-number : goal.invariant-loop-number
invariant-loop-number l = string_bytes l.out ≡ string_bytes l.initial.out ++ spaced_numbers (take l.number-index l.numbers)
