use Rattle.std.proofs.Common.{Option, None}
use Rattle.kdf_journal.specs.declared.need.Need.{Need}
use Rattle.kdf_yard.specs.declared.program.Program.{Program}
use Rattle.kdf_yard.specs.declared.slot.Loaded.{Loaded}
use Rattle.kdf_yard.specs.Fields.Filled.{first_seat, loaded}
use Rattle.kdf_yard.specs.Fields.Parts.{seat_of}
use Rattle.kdf_yard.proofs.Loading.OneMoreLoaded.{take_more}
use Rattle.kdf_yard.proofs.load.first_programs.Goals as goal

pub loop-slot-preserved : goal.loop-slot-preserved
loop-slot-preserved c =
    record {
      seats = take_more seat_of (λ (l : Loaded). first_seat (loaded l)) c.loop-slot.programs.items c.push.new.self.items c.first_program.result
          c.args.slots.now c.loop-slot.slot-index c.slot-item.result c.loop-slot-test.true c.slot-item.is c.in_ok-push.ensures.items
          c.first_program.ensures.seat c.loop-slot.invariant.seats;
      no_hold = take_more (λ (x : Program). x.hold) (λ (l : Loaded). (let o : Option Need = None in o)) c.loop-slot.programs.items c.push.new.self.items
          c.first_program.result c.args.slots.now c.loop-slot.slot-index c.slot-item.result c.loop-slot-test.true c.slot-item.is c.in_ok-push.ensures.items
          c.first_program.ensures.no_hold c.loop-slot.invariant.no_hold;
    }
