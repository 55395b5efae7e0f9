-- What is said of a line that was read after the lines of a draft.
use Rattle.std.specs.Prelude.{◌≡◌, ℕ, ◌+◌, ◌<◌, ◌≤◌, ◌∷◌, length, Option, None, Ok}
use Rattle.kdf_text.specs.declared.lines.Lines.{Lines}
use Rattle.kdf_text.specs.Ahead.{ahead}
use Rattle.kdf_text.specs.Lines.{line}
use Rattle.kdf_job.specs.declared.draft.Draft.{Draft}
use Rattle.kdf_job.specs.declared.fault.JobFault.{JobFault}
use Rattle.kdf_job.specs.declared.job.TheConstants.{TEXT_LIMIT}
use Rattle.kdf_job.specs.Draft.{ShownDraft}
use Rattle.kdf_job.specs.Lengths.{weight}
use Rattle.kdf_job.specs.Reading.{behind_line, read_line}
use Rattle.kdf_job.specs.Shows.{shown_draft}
use Rattle.kdf_job.specs.Taking.{IsSound}

-- the draft has the next line, and the lines after it are ahead
pub record Reads (old : Lines) (before : ShownDraft) (new : Lines) (after : ShownDraft) : Type 0 where
  pub here : ahead old ≡ line (ahead old) 1 ∷ ahead new
  pub next : new.number ≡ old.number + 1
  pub read : read_line before (line (ahead old) 1) ≡ Ok after

pub record Passes (old : Lines) (before : Draft) (new : Lines) (after : Draft)
    : Type 0 where
  pub reads : Reads old (shown_draft before) new (shown_draft after)
  pub sound : IsSound after
  pub fits : 0 < length new.rest.now → weight (shown_draft after) + length new.rest.now ≤ TEXT_LIMIT

-- what is wrong with the next line, with its number
abbrev pub next_fault : Lines → ShownDraft → Option (JobFault × ℕ)
next_fault at d = behind_line at.number (read_line d (line (ahead at) 1)) (λ e. None)
