-- Magnetic tape: the blocks before and after the place, and what an order leaves.
use Rattle.std.specs.Prelude.{◌≡◌, ℕ, ◌+◌, ◌-◌, ◌%◌, ◌^◌, ◌<◌, ◌≤◌, nat_lt, Bool, false, if◌then◌else◌, Option, None, Some, List, [], ◌∷◌, ◌++◌, length, take}
use Rattle.std.specs.Prelude.{drop, reverse}
use Rattle.std.specs.List.{All, slice_get}

-- codes of whole words
pub record IsWhole (codes : List ℕ) : Type 0 where
  pub small : All (λ c. c < 64) codes
  pub whole : length codes % 8 ≡ 0

-- a block: its words, and whether it has the last-block mark
pub record Recorded : Type 0 where
  pub words : List ℕ
  pub mark : Bool

-- a tape: its blocks, how many of them lie before the place, flag and mark, and for how many blocks more it has memory
pub record TapeState : Type 0 where
  pub label : ℕ
  pub blocks : List Recorded
  pub place : ℕ
  pub flag : Bool
  pub mark : Bool
  pub room : ℕ

-- fewer than 2^32 blocks, and a place among them
pub record IsInside (blocks : List Recorded) (place : ℕ) : Type 0 where
  pub few : length blocks < 2 ^ 32
  pub inside : place ≤ length blocks

-- the blocks that lie after the place, or before it, the nearest first
abbrev pub ahead : Bool → TapeState → List Recorded
ahead forward t = if forward then drop t.place t.blocks else reverse (take t.place t.blocks)

-- the block that is passed next
abbrev pub nearest : Bool → TapeState → Option Recorded
nearest forward t = slice_get (ahead forward t) 0

abbrev pub mark_of : Option Recorded → Bool
mark_of None = false
mark_of (Some block) = block.mark

-- the mark of the last of some blocks, none where there is no block
abbrev pub last_mark : List Recorded → Bool
last_mark blocks = mark_of (slice_get (reverse blocks) 0)

-- a tape after MFSKQ, or MBSKQ, of so many blocks; MFRQ and MBRQ pass one
unfoldable pub after_skip : Bool → ℕ → TapeState → TapeState
after_skip forward count t =
    let passed = take count (ahead forward t) in
    record t {
      place = if forward then t.place + length passed else t.place - length passed;
      flag = nat_lt (length passed) count;
      mark = last_mark passed;
    }

-- a tape after MWQ, or MLWQ whose block has the mark: the blocks from the place on go, and their memory is room
unfoldable pub after_write : Recorded → TapeState → TapeState
after_write block t =
    record t {
      blocks = take t.place t.blocks ++ block ∷ [];
      place = t.place + 1;
      flag = false;
      mark = block.mark;
      room = t.room + length t.blocks - (t.place + 1);
    }

-- a tape after MRWDQ
unfoldable pub rewound : TapeState → TapeState
rewound t = record t { place = 0; flag = false; mark = false }
