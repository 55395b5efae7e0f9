use Rattle.std.proofs.Common.{◌≡◌, ◌++◌, ◌≤◌, map, string_bytes, codes, decimal}
use Rattle.std.specs.List.{range_with_len}
use Rattle.kdf_text.specs.Text.{text}
use Rattle.kdf_job.proofs.made.write_round.Given as goal

abbrev pub invariant-loop-d : goal.invariant-loop-d
invariant-loop-d l = record {
  written : string_bytes l.out ≡ string_bytes l.initial.out ++ text (map (λ d. codes "END " ++ decimal d) (range_with_len 0 l.d));
  few : l.d ≤ 8;
}
