use Rattle.std.proofs.Common.{◌≡◌, ◌+◌, ◌<◌, ◌≤◌, length}
use Rattle.kdf_text.specs.Ahead.{ahead}
use Rattle.kdf_text.specs.Lines.{lines}
use Rattle.kdf_job.specs.declared.job.TheConstants.{TEXT_LIMIT}
use Rattle.kdf_job.specs.Draft.{blank}
use Rattle.kdf_job.specs.Lengths.{weight}
use Rattle.kdf_job.specs.Reading.{draft_of, fault_from}
use Rattle.kdf_job.specs.Shows.{shown_draft}
use Rattle.kdf_job.specs.Taking.{IsSound}
use Rattle.kdf_job.proofs.reader.read_job.Given as goal

abbrev pub invariant-loop-lines : goal.invariant-loop-lines
invariant-loop-lines l = record {
  fault : fault_from 1 blank (lines l.fn.bytes) ≡ fault_from l.lines.number (shown_draft l.draft) (ahead l.lines);
  job : draft_of blank (lines l.fn.bytes) ≡ draft_of (shown_draft l.draft) (ahead l.lines);
  sound : IsSound l.draft;
  fits : 0 < length l.lines.rest.now → weight (shown_draft l.draft) + length l.lines.rest.now ≤ TEXT_LIMIT;
}

abbrev pub decreases-loop-lines : goal.decreases-loop-lines
decreases-loop-lines l = length l.lines.rest.now
