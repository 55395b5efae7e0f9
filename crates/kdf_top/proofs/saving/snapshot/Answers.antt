use Rattle.std.proofs.Common.{◌∙◌, ap}
use Rattle.kdf_text.specs.Text.{text}
use Rattle.kdf_job.specs.Shows.{shown_job}
use Rattle.kdf_theory.specs.MachineView.{state_at}
use Rattle.kdf_report.specs.Text.{journal_lines}
use Rattle.kdf_top.proofs.Sealing.{snapshot_whole}
use Rattle.kdf_top.proofs.saving.snapshot.Goals as goal

pub returns : goal.returns
returns c =
    snapshot_whole c.args.job_bytes.now (shown_job c.args.job.now) c.args.machine.now.journal (state_at c.args.machine.now) _ _ _ _ _ _ _ _ _
    c.in_ok-out.ensures c.as_slice.ensures
    c.in_ok-extend_from_slice.ensures.items (c.deref.ensures.value ∙ c.in_ok-journal_text.ensures ∙ ap (λ J. text (journal_lines J)) c.journal.ensures.entries)
    c.in_ok-extend_from_slice-2.ensures.items c.as_slice-2.ensures
    c.in_ok-extend_from_slice-3.ensures.items (c.deref-2.ensures.value ∙ c.in_ok-sealed_text.ensures) c.in_ok-extend_from_slice-4.ensures.items
