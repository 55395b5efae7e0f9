use Rattle.std.proofs.Common.{◌≡◌, ◌-◌, ◌≤◌, ◌*◌, ◌/◌, length, take}
use Rattle.kdf_word.specs.Characters.{codes_of_all}
use Rattle.kdf_transfer.specs.Runs.{lent_words}
use Rattle.kdf_transfer.proofs.run.put_area.Given as goal

abbrev pub invariant-loop-i : goal.invariant-loop-i
invariant-loop-i l =
    record {
      block : take (8 * l.i) l.block ≡ codes_of_all (take l.i (lent_words l.lease l.area.first (length l.initial.block / 8)));
      size : length l.block ≡ length l.initial.block;
      within : l.i ≤ length l.initial.block / 8;
    }

abbrev pub decreases-loop-i : goal.decreases-loop-i
decreases-loop-i l = length l.block / 8 - l.i
