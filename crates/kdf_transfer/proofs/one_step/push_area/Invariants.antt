use Rattle.std.proofs.Common.{◌≡◌, ◌++◌, take, drop}
use Rattle.std.specs.Vec.{vec_capacity}
use Rattle.kdf_word.specs.Characters.{codes_of_all}
use Rattle.kdf_transfer.specs.AtOnce.{stopped}
use Rattle.kdf_transfer.proofs.one_step.push_area.Given as goal

abbrev pub invariant-loop-word : goal.invariant-loop-word
invariant-loop-word l =
    record {
      block : l.block.items ≡ codes_of_all (take l.word-index l.words);
      sent : stopped l.order l.words ≡ take l.word-index l.words ++ stopped l.order (drop l.word-index l.words);
      room : vec_capacity l.block ≡ vec_capacity l.initial.block;
    }
