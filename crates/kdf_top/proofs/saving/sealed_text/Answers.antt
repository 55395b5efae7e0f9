use Rattle.std.proofs.Common.{◌∙◌}
use Rattle.kdf_job.specs.Shows.{shown_job}
use Rattle.kdf_theory.specs.MachineView.{state_at}
use Rattle.kdf_top.proofs.Sealing.{sealed_whole}
use Rattle.kdf_top.proofs.saving.sealed_text.Goals as goal

pub returns : goal.returns
returns c =
    sealed_whole (shown_job c.args.job.now) (state_at c.args.machine.now) _ _ _ _ _ c.in_ok-out.ensures (c.deref.ensures.value ∙ c.in_ok-dump.ensures)
    c.as_slice.ensures
    c.in_ok-extend_from_slice.ensures.items c.in_ok-extend_from_slice-2.ensures.items
