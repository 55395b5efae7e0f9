-- The blocks of a tape, its own or shared.
use Rattle.std.specs.Prelude.{ℕ, ◌-◌, List, vec_len}
use Rattle.std.specs.Vec.{vec_capacity}
use Rattle.kdf_tape.specs.Tape.{Recorded}
use Rattle.kdf_tape.specs.declared.blocks.Blocks.{Blocks}
use Rattle.kdf_tape.specs.declared.blocks.Blocks.TheVariants.{Own, Shared}

-- the blocks, the first one first
abbrev pub blocks_in : Blocks → List Recorded
blocks_in (Own blocks) = blocks.items
blocks_in (Shared blocks) = blocks.value.items

-- for how many blocks more there is memory
abbrev pub room_in : Blocks → ℕ
room_in (Own blocks) = vec_capacity blocks - vec_len blocks
room_in (Shared blocks) = 0
