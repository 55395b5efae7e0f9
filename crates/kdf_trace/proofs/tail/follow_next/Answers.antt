use Rattle.std.proofs.Common.{◌+◌}
use Rattle.std.proofs.lemmas.Result.{on_ok_weaker}
use Rattle.kdf_trace.proofs.Tails.{all_take, few_take, followed_take, rises_take, room_after, room_for_next, within_next}
use Rattle.kdf_trace.proofs.tail.follow_next.Goals as goal

pub follow_on-requires-clause-within : goal.follow_on-requires-clause-within
follow_on-requires-clause-within g c = rw c.first_events.ensures (within_next c.args.events.now c.args.i c.requires.within)

pub follow_on-requires-clause-followed : goal.follow_on-requires-clause-followed
follow_on-requires-clause-followed g c = rw c.first_events.ensures (followed_take c.args.events.now c.args.i _ _ _ c.requires.followed)

pub follow_on-requires-clause-few : goal.follow_on-requires-clause-few
follow_on-requires-clause-few g c = rw c.first_events.ensures (few_take c.args.events.now (c.args.i + 1) c.requires.few)

pub follow_on-requires-clause-room : goal.follow_on-requires-clause-room
follow_on-requires-clause-room g c = rw c.first_events.ensures (room_for_next c.args.events.now c.args.i _ c.requires.room)

pub follow_on-requires-clause-rises : goal.follow_on-requires-clause-rises
follow_on-requires-clause-rises g c = rw c.first_events.ensures (rises_take c.args.events.now (c.args.i + 1) 0 c.requires.rises)

pub follow_on-requires-clause-in_range : goal.follow_on-requires-clause-in_range
follow_on-requires-clause-in_range g c = rw c.first_events.ensures (all_take c.args.events.now (c.args.i + 1) c.requires.in_range)

pub returns-clause-journal : goal.returns-clause-journal
returns-clause-journal g c = rw c.first_events.ensures at c.follow_on.ensures.journal

pub returns-clause-room : goal.returns-clause-room
returns-clause-room g c =
    on_ok_weaker _ (λ stays. room_after c.args.events.now c.args.i _ _ c.requires.room stays) (rw c.first_events.ensures at c.follow_on.ensures.room)
