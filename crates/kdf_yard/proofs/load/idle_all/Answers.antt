use Rattle.std.proofs.Common.{◌+◌, [], map, ap, ◌∙◌, arith}
use Rattle.kdf_yard.specs.Fields.Filled.{idle_place, idle_ring, idle_spot, loaded}
use Rattle.kdf_places.specs.Spots.{spot_of}
use Rattle.kdf_transfer.proofs.Numbers.{one_more}
use Rattle.kdf_yard.proofs.load.idle_all.Goals as goal

pub loop-d-preserved : goal.loop-d-preserved
loop-d-preserved c =
    record {
      spots = one_more (λ o. spot_of (idle_place o)) (idle_spot (map loaded c.args.slots.now)) c.loop-d.idle.items c.push_reserved.new.self.items
          c.in_ok-idle_of.field-0 c.loop-d.d c.loop-d.invariant.spots c.push_reserved.ensures.items c.in_ok-idle_of.ensures.spot;
      rings = one_more idle_ring (λ _. []) c.loop-d.idle.items c.push_reserved.new.self.items c.in_ok-idle_of.field-0 c.loop-d.d c.loop-d.invariant.rings
          c.push_reserved.ensures.items c.in_ok-idle_of.ensures.ring;
      many = c.push_reserved.ensures.len ∙ ap (λ n. n + 1) c.loop-d.invariant.many;
      room = omega (arith, c.push_reserved.ensures.capacity, c.loop-d.invariant.room);
    }

pub push_reserved-requires : goal.push_reserved-requires
push_reserved-requires c = omega (arith, c.loop-d.invariant.many, c.loop-d.invariant.room, c.loop-d-test.true)
