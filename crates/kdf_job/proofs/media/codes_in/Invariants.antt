use Rattle.std.proofs.Common.{◌≡◌, ◌<◌, length}
use Rattle.std.specs.Prelude.{All}
use Rattle.kdf_job.specs.Media.{codes_in}
use Rattle.kdf_job.proofs.CodesRead.{behind}
use Rattle.kdf_job.proofs.media.codes_in.Given as goal

abbrev pub invariant-loop-byte : goal.invariant-loop-byte
invariant-loop-byte l = record {
  read : codes_in l.text ≡ behind l.codes.items l.byte-index l.text;
  small : All (λ c. c < 64) l.codes.items;
  many : length l.codes.items ≡ l.byte-index;
}
