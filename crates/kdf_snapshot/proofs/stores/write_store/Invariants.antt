use Rattle.std.specs.List.{flat_map, range_with_len}
use Rattle.kdf_text.specs.Text.{Adds}
use Rattle.kdf_processor.specs.State.{word_at}
use Rattle.kdf_theory.specs.MachineView.{state_at}
use Rattle.kdf_snapshot.specs.Stores.{word_lines}
use Rattle.kdf_snapshot.proofs.stores.write_store.Given as goal

abbrev pub invariant-loop-address : goal.invariant-loop-address
invariant-loop-address l =
    Adds l.initial.out l.out (flat_map (λ a. word_lines l.slot.p a (word_at (state_at l.machine l.slot.p) a)) (range_with_len 0 l.address))
