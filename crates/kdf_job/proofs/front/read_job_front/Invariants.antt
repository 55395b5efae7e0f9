use Rattle.std.proofs.Common.{◌≡◌, ◌+◌, ◌<◌, ◌≤◌, length}
use Rattle.kdf_text.specs.Ahead.{ahead}
use Rattle.kdf_text.specs.Text.{text}
use Rattle.kdf_job.specs.declared.job.TheConstants.{TEXT_LIMIT}
use Rattle.kdf_job.specs.Draft.{blank}
use Rattle.kdf_job.specs.Front.{front_lines, lines_to_end}
use Rattle.kdf_job.specs.Lengths.{weight}
use Rattle.kdf_job.specs.Reading.{draft_of, fault_from}
use Rattle.kdf_job.specs.Shows.{shown_draft}
use Rattle.kdf_job.specs.Taking.{IsSound}
use Rattle.kdf_job.proofs.front.read_job_front.Given as goal

abbrev pub invariant-loop-alloc : goal.invariant-loop-alloc
invariant-loop-alloc l = record {
  fault : fault_from 1 blank (front_lines l.fn.bytes) ≡ fault_from l.lines.number (shown_draft l.draft) (lines_to_end l.draft.place (ahead l.lines));
  job : draft_of blank (front_lines l.fn.bytes) ≡ draft_of (shown_draft l.draft) (lines_to_end l.draft.place (ahead l.lines));
  offset : length (text (front_lines l.fn.bytes)) ≡ l.length + length (text (lines_to_end l.draft.place (ahead l.lines)));
  most : l.length ≤ length l.fn.bytes + 1;
  within : 0 < length l.lines.rest.now → l.length + length l.lines.rest.now ≤ length l.fn.bytes;
  sound : IsSound l.draft;
  fits : 0 < length l.lines.rest.now → weight (shown_draft l.draft) + length l.lines.rest.now ≤ TEXT_LIMIT;
}

abbrev pub decreases-loop-alloc : goal.decreases-loop-alloc
decreases-loop-alloc l = length l.lines.rest.now
