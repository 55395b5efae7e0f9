-- The first faulty line of a job, and the job that lines without a fault tell.
use Rattle.std.specs.Prelude.{◌≡◌, ℕ, ◌+◌, List, [], ◌∷◌, Option, Some, None, Result, Ok, Err}
use Rattle.kdf_text.specs.Lines.{lines}
use Rattle.kdf_job.specs.declared.line_place.LinePlace.{LinePlace}
use Rattle.kdf_job.specs.declared.line_place.LinePlace.TheVariants.{First, BehindEnd}
use Rattle.kdf_job.specs.declared.fault.JobError.{JobError}
use Rattle.kdf_job.specs.declared.fault.JobError.TheVariants.{Fault, Memory}
use Rattle.kdf_job.specs.declared.fault.JobFault.{JobFault}
use Rattle.kdf_job.specs.declared.fault.JobFault.TheVariants.{Header, BadLine}
use Rattle.kdf_job.specs.Draft.{ShownDraft, blank, with_line, fault_of, job_of}
use Rattle.kdf_job.specs.Forms.{Form, told_at}
use Rattle.kdf_job.specs.Job.{ShownJob}

-- the draft with a line of this form more, or what is wrong with it
abbrev pub or_fault : Form → ShownDraft → Option JobFault → Result ShownDraft JobFault
or_fault form d None = Ok (with_line form d)
or_fault form d (Some fault) = Err fault

abbrev pub with_told : ShownDraft → Result Form JobFault → Result ShownDraft JobFault
with_told d (Err fault) = Err fault
with_told d (Ok form) = or_fault form d (fault_of form d)

-- the draft with a line more, or what is wrong with the line
unfoldable pub read_line : ShownDraft → List ℕ → Result ShownDraft JobFault
read_line d line = with_told d (told_at d.place line)

-- the end of the text counts as a line more, which has no form; it stands after ENDJOB alone
abbrev pub end_fault : LinePlace → Option JobFault
end_fault First = Some Header
end_fault BehindEnd = None
end_fault _ = Some BadLine

abbrev pub at_line : ℕ → Option JobFault → Option (JobFault × ℕ)
at_line n None = None
at_line n (Some fault) = Some (fault, n)

-- what follows a line that was read, or its fault
abbrev pub behind_line : ℕ → Result ShownDraft JobFault → (ShownDraft → Option (JobFault × ℕ)) → Option (JobFault × ℕ)
behind_line n (Err fault) follows = Some (fault, n)
behind_line n (Ok d) follows = follows d

-- the first fault of the lines, from number n on, after those of a draft
abbrev pub fault_from : ℕ → ShownDraft → List (List ℕ) → Option (JobFault × ℕ)
fault_from n d [] = at_line n (end_fault d.place)
fault_from n d (line ∷ rest) = behind_line n (read_line d line) (λ e. fault_from (n + 1) e rest)

-- the first faulty line of a job, and the least of its faults
unfoldable pub job_fault : List ℕ → Option (JobFault × ℕ)
job_fault bytes = fault_from 1 blank (lines bytes)

-- the draft after a line; one with a fault tells nothing
abbrev pub or_same : ShownDraft → Result ShownDraft JobFault → ShownDraft
or_same d (Err fault) = d
or_same d (Ok e) = e

abbrev pub draft_of : ShownDraft → List (List ℕ) → ShownDraft
draft_of d [] = d
draft_of d (line ∷ rest) = draft_of (or_same d (read_line d line)) rest

-- what the lines of a job without a fault mean
unfoldable pub job : List ℕ → ShownJob
job bytes = job_of (draft_of blank (lines bytes))

-- the error tells the fault; or there was no memory, which tells nothing
abbrev pub Says : JobError → Option (JobFault × ℕ) → Type 0
Says (Fault fault line) found = found ≡ Some (fault, line)
Says Memory found = Unit {0}
