use Rattle.std.proofs.Common.{◌≡◌, ◌++◌, ◌≤◌, string_bytes}
use Rattle.std.specs.List.{flat_map, range_with_len}
use Rattle.kdf_text.specs.Text.{text}
use Rattle.kdf_job.specs.Made.{made_round}
use Rattle.kdf_job.proofs.made.write_rounds.Given as goal

abbrev pub invariant-loop : goal.invariant-loop
invariant-loop l = record {
  written : string_bytes l.out ≡ string_bytes l.fn.out ++ text (flat_map (λ round. made_round) (range_with_len 0 l.counter));
  few : l.counter ≤ 410;
}
