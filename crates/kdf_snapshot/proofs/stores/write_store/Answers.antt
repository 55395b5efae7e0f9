use Rattle.kdf_processor.specs.State.{word_at}
use Rattle.kdf_theory.specs.MachineView.{state_at}
use Rattle.kdf_snapshot.specs.Stores.{word_lines}
use Rattle.kdf_snapshot.proofs.Words.{one_more}
use Rattle.kdf_snapshot.proofs.stores.write_store.Goals as goal

pub loop-address-preserved : goal.loop-address-preserved
loop-address-preserved c =
    let slot = c.args.slot.now in
    one_more (λ a. word_lines slot.p a (word_at (state_at c.args.machine.now slot.p) a)) c.loop-address.address _ _ _ c.loop-address.invariant
    c.in_ok-write_word.ensures
