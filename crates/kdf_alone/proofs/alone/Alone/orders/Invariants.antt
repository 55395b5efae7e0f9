use Rattle.std.specs.Prelude.{true}
use Rattle.std.proofs.Common.{◌≡◌}
use Rattle.kdf_processor.specs.Buffered.{Agrees}
use Rattle.kdf_processor.specs.Lone.{is_live, lone}
use Rattle.kdf_alone.specs.LonePort.{words_of}
use Rattle.kdf_alone.proofs.alone.Alone.orders.Given as goal

abbrev pub invariant-loop-i : goal.invariant-loop-i
invariant-loop-i l = (l.self ≡ lone l.fn.self l.answers l._i) × (is_live l.self.registers.state ≡ true) × Agrees (words_of l.self) l.held
