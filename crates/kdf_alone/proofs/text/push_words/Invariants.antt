use Rattle.std.proofs.Common.{◌≡◌, take}
use Rattle.std.specs.Vec.{vec_capacity}
use Rattle.kdf_word.specs.Characters.{codes_of_all}
use Rattle.kdf_alone.proofs.text.push_words.Given as goal

abbrev pub invariant-loop-word : goal.invariant-loop-word
invariant-loop-word l =
    record {
      block : l.block.items ≡ codes_of_all (take l.word-index l.words);
      room : vec_capacity l.block ≡ vec_capacity l.initial.block;
    }
