use Rattle.std.proofs.Common.{◌≡◌, ◌+◌, ◌-◌, ◌<◌, ◌≤◌}
use Rattle.kdf_processor.specs.declared.registers.Life.TheVariants as life
use Rattle.kdf_processor.specs.Buffered.{Agrees}
use Rattle.kdf_yard.specs.declared.remark.Remark.TheVariants.{Quiet}
use Rattle.kdf_yard.specs.Fields.Batches.{of_seat, AreQuiet, Passes}
use Rattle.kdf_yard.specs.Fields.MachinePort.{held_in, reach_in, seat_in, shared, shown, SameProgram}
use Rattle.kdf_yard.specs.Fields.Turned.{HasTried}
use Rattle.kdf_yard.proofs.dispatch.obey_quiet.Given as goal

abbrev pub invariant-loop-registers : goal.invariant-loop-registers
invariant-loop-registers l =
    record {
      same : SameProgram l.fn.turn l.turn;
      live : l.registers.state ≡ life.Live;
      first : l.first ≡ l.fn.registers.ran;
      last : l.last ≡ l.first + l.most;
      least : l.first ≤ l.registers.ran;
      few : l.registers.ran < l.last;
      quiet : l.turn.note ≡ Quiet;
      agrees : Agrees (shown l.turn) l.held;
      earlier :
          AreQuiet (Passes of_seat l.place (HasTried (reach_in l.fn.turn) (held_in l.fn.turn) l.fn.turn.moment))
          (l.registers.ran - l.first) (seat_in l.fn.turn l.fn.registers) (shared l.fn.turn) (seat_in l.turn l.registers) (shared l.turn);
    }

abbrev pub decreases-loop-registers : goal.decreases-loop-registers
decreases-loop-registers l = l.last - l.registers.ran
