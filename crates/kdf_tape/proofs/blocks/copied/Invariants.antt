use Rattle.std.proofs.Common.{◌≡◌, ◌+◌, ◌≤◌, length, take}
use Rattle.std.specs.Vec.{vec_capacity}
use Rattle.kdf_tape.proofs.blocks.copied.Given as goal

abbrev pub invariant-loop-block : goal.invariant-loop-block
invariant-loop-block l =
    record {
      items : l.copied.items ≡ take l.block-index l.blocks;
      room : length l.blocks + l.more ≤ vec_capacity l.copied;
    }
