use Rattle.std.proofs.Common.{map, ◌∙◌, arith}
use Rattle.std.proofs.lemmas.List.{length-set}
use Rattle.kdf_yard.specs.Fields.Parts.{seat_of}
use Rattle.kdf_places.specs.Shared.{shared_in}
use Rattle.kdf_yard.specs.Fields.Settled.{both_of}
use Rattle.kdf_places.specs.Spots.{spot_of}
use Rattle.kdf_yard.proofs.Turns.DevicesLeave.{retired_more, retired_one}
use Rattle.kdf_yard.proofs.dispatch.retire_all.Goals as goal

pub loop-i-preserved : goal.loop-i-preserved
loop-i-preserved c =
    let was = c.loop-i.program in
    record {
      both = λ cells.
          retired_more c.loop-i.i (both_of (seat_of c.args.program.now) (shared_in cells c.args.places.now.items))
          (both_of (seat_of was) (shared_in cells c.loop-i.places.items)) _ (c.loop-i.invariant.both cells)
          (retired_one cells was.p was.registers was.claimed was.spooled.items was.stints.items (map spot_of c.loop-i.places.items)
          (map spot_of c.retire.new.places.items) c.loop-i.i c.index_mut.result.now c.retire.new.stint _
          (omega (arith, c.loop-i-test.true, c.loop-i.invariant.many, c.len-i-end.ensures, c.args.program.now.stints.ok.0))
          c.index_mut.ensures.value c.retire.ensures.stint c.retire.ensures.spots);
      many = length-set was.stints.items c.loop-i.i c.retire.new.stint ∙ c.loop-i.invariant.many;
      hold = c.loop-i.invariant.hold;
      dry = λ dry. c.retire.ensures.dry (c.loop-i.invariant.dry dry);
    }
