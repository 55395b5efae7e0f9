-- The job at the front of a text, which ends where its schedule does; what stands after it is no part of it.
use Rattle.std.specs.Prelude.{ℕ, min, Bool, true, false, List, [], ◌∷◌, length, take, Option, if◌then◌else◌}
use Rattle.kdf_text.specs.Lines.{lines}
use Rattle.kdf_text.specs.Text.{text}
use Rattle.kdf_job.specs.declared.line_place.LinePlace.{LinePlace}
use Rattle.kdf_job.specs.declared.line_place.LinePlace.TheVariants.{First, BehindEnd}
use Rattle.kdf_job.specs.declared.fault.JobFault.{JobFault}
use Rattle.kdf_job.specs.Forms.{told_at}
use Rattle.kdf_job.specs.Job.{ShownJob}
use Rattle.kdf_job.specs.Reading.{job, job_fault}
use Rattle.kdf_job.specs.SlotLines.{place_behind}

-- the line before told that the job ends
abbrev pub is_behind_end : LinePlace → Bool
is_behind_end BehindEnd = true
is_behind_end _ = false

-- the lines up to that of the job's end, where the first stands at this place; all lines where none is its end
abbrev pub lines_to_end : LinePlace → List (List ℕ) → List (List ℕ)
lines_to_end place [] = []
lines_to_end place (line ∷ lines) =
    if is_behind_end place then []
    else line ∷ lines_to_end (place_behind place (told_at place line)) lines

-- the lines of the job at the front: up to the line `ENDJOB` that ends its schedule, which a line of a deck never does
unfoldable pub front_lines : List ℕ → List (List ℕ)
front_lines bytes = lines_to_end First (lines bytes)

-- how many bytes they are, each with the byte that ends it, which the last line of the text may lack
unfoldable pub front_length : List ℕ → ℕ
front_length bytes = min (length (text (front_lines bytes))) (length bytes)

-- the bytes of the job at the front
abbrev pub front : List ℕ → List ℕ
front bytes = take (front_length bytes) bytes

-- the first faulty line of the job at the front, and that job, where it has none
abbrev pub front_fault : List ℕ → Option (JobFault × ℕ)
front_fault bytes = job_fault (front bytes)

abbrev pub front_job : List ℕ → ShownJob
front_job bytes = job (front bytes)
