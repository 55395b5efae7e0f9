-- What a job calls for, by its length, its first fault, and the first of its decks.
use Rattle.std.proofs.Common.{◌≡◌, ℕ, ◌<◌, ◌≤◌, List, length, Option, Some, None, refl, sym, ap, ◌∙◌}
use Rattle.std.proofs.lemmas.Bool.{lt-ltb, le-ltb}
use Rattle.kdf_job.specs.Job.{ShownJob}
use Rattle.kdf_job.specs.Reading.{job, job_fault}
use Rattle.kdf_job.specs.declared.fault.JobFault.{JobFault}
use Rattle.kdf_top.specs.Answers.{or_decks, status_of_decks}
use Rattle.kdf_command.specs.Commands.{job_limit}
use Rattle.kdf_top.specs.Deck.{deck_fault}
use Rattle.kdf_top.specs.Snapshots.{status_of_line}
use Rattle.kdf_top.specs.declared.status.Status.TheVariants as status
use Rattle.kdf_facts.specs.Told.{called_over}

pub called_large : (bytes : List ℕ) → job_limit < length bytes → status.Large ≡ called_over bytes
called_large bytes more = rw (lt-ltb job_limit (length bytes) more) refl

called_short : (bytes : List ℕ) → length bytes ≤ job_limit → or_decks (status_of_line (job_fault bytes)) (deck_fault (job bytes).slots) ≡ called_over bytes
called_short bytes few = rw (le-ltb job_limit (length bytes) few) refl

pub called_fault : (bytes : List ℕ) (fault : JobFault) (line : ℕ) → length bytes ≤ job_limit → job_fault bytes ≡ Some (fault, line)
    → status.Job fault line ≡ called_over bytes
called_fault bytes fault line few is =
    ap (λ (o : Option (JobFault × ℕ)). or_decks (status_of_line o) (deck_fault (job bytes).slots)) (sym is) ∙ called_short bytes few

pub called_decks : (bytes : List ℕ) (j : ShownJob) → length bytes ≤ job_limit → job_fault bytes ≡ None → j ≡ job bytes
    → status_of_decks (deck_fault j.slots) ≡ called_over bytes
called_decks bytes j few none is =
    ap (λ (k : ShownJob). status_of_decks (deck_fault k.slots)) is
    ∙ (ap (λ (o : Option (JobFault × ℕ)). or_decks (status_of_line o) (deck_fault (job bytes).slots)) (sym none) ∙ called_short bytes few)
