-- What is called for over jobs with a fault, worked out by computation.
use Rattle.std.proofs.Common.{◌≡◌, [], ◌∷◌, codes, refl}
use Rattle.kdf_text.specs.Lines.{lines, words}
use Rattle.kdf_text.specs.Numbers.{value}
use Rattle.kdf_text.specs.Text.{text}
use Rattle.kdf_schedule.specs.Events.{event}
use Rattle.kdf_usercode.specs.declared.fault.DeckFault.TheVariants.{NoFinish}
use Rattle.kdf_usercode.specs.Grammar.{statement_faults, phase_after, statements_of}
use Rattle.kdf_usercode.specs.Phase.{start}
use Rattle.kdf_place.specs.Assembled.{assembled}
use Rattle.kdf_place.specs.Placement.{placed}
use Rattle.kdf_job.specs.declared.fault.JobFault.TheVariants.{Header, ShowRange}
use Rattle.kdf_job.specs.Reading.{job, job_fault, read_line}
use Rattle.kdf_top.specs.Answers.{called_for}
use Rattle.kdf_command.specs.Commands.{command}
use Rattle.kdf_top.specs.declared.status.Status.TheVariants as status

pub then_deck : called_for (codes "run" ∷ [])
    (text (codes "KDF9 JOB 1" ∷ codes "SLOT 0" ∷ codes "STORE 32" ∷ codes "DECK" ∷ codes "ENDDECK" ∷ codes "SHOW 3 3" ∷ codes "SCHEDULE" ∷ codes "ORDERS 10"
    ∷ codes "ENDJOB" ∷ [])) ≡ status.Deck 0 NoFinish 0
unfolding assembled start statement_faults phase_after statements_of placed value lines words event read_line job job_fault command text
then_deck = refl

pub job_first : called_for (codes "run" ∷ [])
    (text (codes "KDF9 JOB 1" ∷ codes "SLOT 0" ∷ codes "STORE 32" ∷ codes "DECK" ∷ codes "ENDDECK" ∷ codes "SHOW 3 32" ∷ codes "SCHEDULE" ∷ codes "ORDERS 10"
    ∷ codes "ENDJOB" ∷ [])) ≡ status.Job ShowRange 6
unfolding assembled start statement_faults phase_after statements_of placed value lines words event read_line job job_fault command text
job_first = refl

pub no_line : called_for (codes "run" ∷ []) [] ≡ status.Job Header 1
unfolding lines read_line job job_fault command
no_line = refl

pub two_words : called_for (codes "run" ∷ codes "run" ∷ []) [] ≡ status.Usage
unfolding command
two_words = refl
