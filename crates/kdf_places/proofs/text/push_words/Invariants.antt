use Rattle.std.proofs.Common.{◌≡◌, map}
use Rattle.std.specs.List.{range_with_len}
use Rattle.std.specs.Vec.{vec_capacity}
use Rattle.kdf_word.specs.Characters.{codes_of_all}
use Rattle.kdf_lockout.specs.Groups.{word_here}
use Rattle.kdf_places.proofs.text.push_words.Given as goal

abbrev pub invariant-loop-i : goal.invariant-loop-i
invariant-loop-i l =
    record {
      block : l.block.items ≡ codes_of_all (map (word_here l.store) (range_with_len l.first l.i));
      room : vec_capacity l.block ≡ vec_capacity l.initial.block;
    }
