use Rattle.std.proofs.Common.{◌≡◌, ◌++◌, ◌≤◌, string_bytes}
use Rattle.kdf_job.specs.Made.{after_steps}
use Rattle.kdf_job.proofs.MadeTexts.{front}
use Rattle.kdf_job.proofs.made.write_reader_line.Given as goal

abbrev pub invariant-loop : goal.invariant-loop
invariant-loop l = record {
  written : string_bytes l.out ≡ string_bytes l.fn.out ++ front l.fn.letters.x l.counter;
  next : l.letters.x ≡ after_steps l.fn.letters.x l.counter;
  few : l.counter ≤ 16;
}
