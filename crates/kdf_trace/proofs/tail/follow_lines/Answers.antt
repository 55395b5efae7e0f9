use Rattle.std.proofs.Common.{refl, ◌∙◌}
use Rattle.kdf_trace.proofs.Tails.{all_take, few_take, rises_take, room_drop, room_take}
use Rattle.kdf_trace.proofs.tail.follow_lines.Goals as goal

pub follow-requires-clause-few : goal.follow-requires-clause-few
follow-requires-clause-few g c = rw c.first_events.ensures (few_take c.args.events.now c.first_of_last-first.result c.requires.few)

pub follow-requires-clause-room : goal.follow-requires-clause-room
follow-requires-clause-room g c = rw c.first_events.ensures (room_take c.args.events.now c.first_of_last-first.result _ c.requires.room)

pub follow-requires-clause-rises : goal.follow-requires-clause-rises
follow-requires-clause-rises g c = rw c.first_events.ensures (rises_take c.args.events.now c.first_of_last-first.result 0 c.requires.rises)

pub follow-requires-clause-in_range : goal.follow-requires-clause-in_range
follow-requires-clause-in_range g c = rw c.first_events.ensures (all_take c.args.events.now c.first_of_last-first.result c.requires.in_range)

pub loop-i-init : goal.loop-i-init
loop-i-init g c = record {
  slots = refl;
  journal = rw c.first_events.ensures at c.in_ok-follow.ensures.journal;
  room = room_drop c.args.events.now c.first_of_last-first.result _ _ c.requires.room (rw c.first_events.ensures at c.in_ok-follow.ensures.room);
  seen = c.in_ok-follow.ensures.seen;
}

pub loop-i-preserved : goal.loop-i-preserved
loop-i-preserved g c = record {
  slots = c.in_ok-follow_next.ensures.slots ∙ c.loop-i.invariant.slots;
  journal = c.in_ok-follow_next.ensures.journal;
  room = c.in_ok-follow_next.ensures.room;
  seen = c.in_ok-follow_next.ensures.seen;
}
