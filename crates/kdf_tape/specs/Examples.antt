-- A tape on which the definitions are worked.
use Rattle.std.specs.Prelude.{ℕ, Bool, false, true, List, [], ◌∷◌}
use Rattle.kdf_tape.specs.Tape.{Recorded, TapeState}

abbrev pub block : List ℕ → Bool → Recorded
block words mark = record { words = words; mark = mark }

-- three blocks, of which the second has the mark
abbrev pub blocks : List Recorded
blocks = block (1 ∷ 2 ∷ []) false ∷ block (3 ∷ []) true ∷ block (4 ∷ 5 ∷ 6 ∷ []) false ∷ []

-- a tape of these blocks
abbrev pub holding : List Recorded → ℕ → Bool → Bool → ℕ → TapeState
holding list place flag mark room = record { label = 7; blocks = list; place = place; flag = flag; mark = mark; room = room }

-- the tape of three blocks, with flag and mark
abbrev pub tape : ℕ → Bool → Bool → TapeState
tape place flag mark = holding blocks place flag mark 1

-- a tape without blocks
abbrev pub empty : Bool → Bool → TapeState
empty flag mark = holding [] 0 flag mark 1
