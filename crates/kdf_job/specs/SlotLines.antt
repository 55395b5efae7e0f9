-- The lines of a job that are those of a slot, and those of the pool.
use Rattle.std.specs.Prelude.{ℕ, ◌==◌, Bool, true, false, List, [], ◌∷◌, Result, Ok, Err, if◌then◌else◌}
use Rattle.kdf_text.specs.Lines.{lines}
use Rattle.kdf_job.specs.declared.line_place.LinePlace.{LinePlace}
use Rattle.kdf_job.specs.declared.line_place.LinePlace.TheVariants.{First, BehindSlot, BehindPool}
use Rattle.kdf_job.specs.declared.fault.JobFault.{JobFault}
use Rattle.kdf_job.specs.Forms.{Form, ASlot, APool, ASchedule, next_place, told_at}

-- where the line after one stands, which tells this at its place; a line without a form changes nothing
abbrev pub place_behind : LinePlace → Result Form JobFault → LinePlace
place_behind place (Ok form) = next_place form
place_behind place (Err fault) = place

-- `SLOT p`
abbrev pub begins : ℕ → Result Form JobFault → Bool
begins p (Ok (ASlot q)) = q == p
begins p _ = false

-- the next `SLOT q`, `POOL` or `SCHEDULE`
abbrev pub ends : Result Form JobFault → Bool
ends (Ok (ASlot q)) = true
ends (Ok APool) = true
ends (Ok ASchedule) = true
ends _ = false

-- the lines before the one that ends the slot, where the first stands at this place
abbrev pub rest_of_slot : LinePlace → List (List ℕ) → List (List ℕ)
rest_of_slot place [] = []
rest_of_slot place (line ∷ lines) =
    if ends (told_at place line) then []
    else line ∷ rest_of_slot (place_behind place (told_at place line)) lines

-- those from the one on that begins slot p
abbrev pub lines_from : ℕ → LinePlace → List (List ℕ) → List (List ℕ)
lines_from p place [] = []
lines_from p place (line ∷ lines) =
    if begins p (told_at place line) then line ∷ rest_of_slot (BehindSlot p) lines
    else lines_from p (place_behind place (told_at place line)) lines

-- the lines of slot p of a job: from `SLOT p` to the line before the next `SLOT q`, `POOL` or `SCHEDULE`, which a line
-- of a deck never is; none where the job doesn't have the slot
unfoldable pub slot_lines : ℕ → List ℕ → List (List ℕ)
slot_lines p bytes = lines_from p First (lines bytes)

-- `POOL`
abbrev pub opens : Result Form JobFault → Bool
opens (Ok APool) = true
opens _ = false

-- `SCHEDULE`
abbrev pub closes : Result Form JobFault → Bool
closes (Ok ASchedule) = true
closes _ = false

-- the lines after `POOL` before the one that ends the pool
abbrev pub rest_of_pool : List (List ℕ) → List (List ℕ)
rest_of_pool [] = []
rest_of_pool (line ∷ lines) =
    if closes (told_at BehindPool line) then [] else line ∷ rest_of_pool lines

-- those from the one on that begins the pool, where the first stands at this place
abbrev pub pool_from : LinePlace → List (List ℕ) → List (List ℕ)
pool_from place [] = []
pool_from place (line ∷ lines) =
    if opens (told_at place line) then line ∷ rest_of_pool lines
    else pool_from (place_behind place (told_at place line)) lines

-- the lines of the pool of a job: from `POOL` to the line before `SCHEDULE`; none where the job doesn't have a pool
unfoldable pub pool_lines : List ℕ → List (List ℕ)
pool_lines bytes = pool_from First (lines bytes)
