use Rattle.std.proofs.Common.{◌≡◌, ◌+◌, ◌*◌, ◌/◌, length, take}
use Rattle.kdf_word.specs.Characters.{codes_of_all}
use Rattle.kdf_transfer.specs.Runs.{lent_words}
use Rattle.kdf_transfer.proofs.run.put_group.Given as goal

abbrev pub invariant-loop-k : goal.invariant-loop-k
invariant-loop-k l =
    record {
      block : take (8 * (l.from + l.k)) l.block ≡ codes_of_all (take (l.from + l.k) (lent_words l.lease l.fn.area.first (length l.initial.block / 8)));
      size : length l.block ≡ length l.initial.block;
    }
