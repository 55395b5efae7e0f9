use Rattle.std.proofs.Common.{◌≡◌, ◌++◌, ◌*◌, ◌≤◌, map, string_bytes}
use Rattle.std.specs.List.{range_with_len}
use Rattle.kdf_text.specs.Text.{text}
use Rattle.kdf_job.specs.Made.{after_steps, reader_line}
use Rattle.kdf_job.proofs.made.write_reader.Given as goal

abbrev pub invariant-loop : goal.invariant-loop
invariant-loop l = record {
  written : string_bytes l.out ≡ string_bytes l.fn.out ++ text (map (reader_line l.fn.letters.x 0) (range_with_len 0 l.counter));
  next : l.letters.x ≡ after_steps l.fn.letters.x (16 * l.counter);
  few : l.counter ≤ 200;
}
