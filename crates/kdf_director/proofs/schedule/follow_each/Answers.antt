use Rattle.std.proofs.Common.{◌+◌, refl, sym, ◌∙◌, arith, drop}
use Rattle.kdf_journal.specs.Counts.{clock}
use Rattle.kdf_journal.specs.Steps.{steps}
use Rattle.kdf_theory.proofs.Course.EventsInTurn.{no_calls, ended_early, ended_late, some_more, rises-first, rises-rest}
use Rattle.kdf_director.proofs.Course.Rows.{calls_split, entries_split, orders_split, rises_split}
use Rattle.kdf_director.proofs.schedule.follow_each.Goals as goal

pub loop-made-init : goal.loop-made-init
loop-made-init g c = record {
  taken = no_calls c.args.machine.now.slots (steps c.args.machine.now.journal) c.args.events.now;
  few = c.requires.few;
  room = c.requires.room;
  spent = omega arith;
  rises = c.requires.rises;
  same_slots = refl;
  truly = c.requires.truly;
}

pub returns-then-not-is_any_live-clause-steps : goal.returns-then-not-is_any_live-clause-steps
returns-then-not-is_any_live-clause-steps g c =
    ended_early c.args.machine.now.slots (steps c.args.machine.now.journal) c.args.events.now c.loop-made.made c.loop-made.machine.slots
    c.loop-made.machine.journal
    c.if-not-is_any_live.ensures.legal c.loop-made.invariant.same_slots c.loop-made.invariant.taken (sym c.if-not-is_any_live.ensures.live)

pub returns-clause-steps : goal.returns-clause-steps
returns-clause-steps g c =
    ended_late c.args.machine.now.slots (steps c.args.machine.now.journal) c.args.events.now c.loop-made.made c.loop-made.machine.slots
    c.loop-made.machine.journal
    c.journal-journal.ensures.legal c.loop-made.invariant.same_slots c.loop-made.invariant.taken (omega arith)

pub loop-made-preserved : goal.loop-made-preserved
loop-made-preserved g c =
    let es = c.args.events.now in
    let i = c.loop-made.made in
    let k = c.first_row-event.result.1 in
    let e = c.first_row-event.result.0 in
    record {
      taken =
          some_more c.args.machine.now.slots (steps c.args.machine.now.journal) es i c.loop-made.machine.slots c.loop-made.machine.journal
          c.if-not-is_any_live.ensures.legal c.loop-made.invariant.same_slots c.loop-made.invariant.taken c.make_calls.new.machine.journal k e
          (calls_split es i k e c.first_row-event.ensures.row) (sym c.if-not-is_any_live.ensures.live) c.in_ok-make_calls.ensures.steps;
      few = omega (arith, c.loop-made.invariant.few, c.in_ok-make_calls.ensures.calls, orders_split es i k e c.first_row-event.ensures.row);
      room = omega (arith, c.loop-made.invariant.room, c.in_ok-make_calls.ensures.room, entries_split es i k e c.first_row-event.ensures.row);
      spent = omega (arith, c.loop-made.invariant.spent, c.in_ok-make_calls.ensures.room, entries_split es i k e c.first_row-event.ensures.row);
      rises = rw c.in_ok-make_calls.ensures.time
          (rises-rest (clock c.loop-made.machine.journal) e (drop (i + k) es)
          (rises_split es i k e c.first_row-event.ensures.row (clock c.loop-made.machine.journal) c.loop-made.invariant.rises));
      same_slots = c.in_ok-make_calls.ensures.slots ∙ c.loop-made.invariant.same_slots;
      truly = c.in_ok-make_calls.ensures.truly;
    }

pub make_calls-requires-clause-room : goal.make_calls-requires-clause-room
make_calls-requires-clause-room g c =
    omega (
      arith,
      c.loop-made.invariant.room,
      entries_split c.args.events.now c.loop-made.made c.first_row-event.result.1 c.first_row-event.result.0
          c.first_row-event.ensures.row,
    )

pub make_calls-requires-clause-rises : goal.make_calls-requires-clause-rises
make_calls-requires-clause-rises g c =
    rises-first (clock c.loop-made.machine.journal) c.first_row-event.result.0 (drop (c.loop-made.made + c.first_row-event.result.1) c.args.events.now)
    (rises_split c.args.events.now c.loop-made.made c.first_row-event.result.1 c.first_row-event.result.0 c.first_row-event.ensures.row
    (clock c.loop-made.machine.journal) c.loop-made.invariant.rises)

pub make_calls-requires-clause-service : goal.make_calls-requires-clause-service
make_calls-requires-clause-service g c = c.requires.service

pub make_calls-requires-clause-legal : goal.make_calls-requires-clause-legal
make_calls-requires-clause-legal g c = c.if-not-is_any_live.ensures.legal

pub make_calls-requires-clause-live : goal.make_calls-requires-clause-live
make_calls-requires-clause-live g c = sym c.if-not-is_any_live.ensures.live

pub make_calls-requires-clause-truly : goal.make_calls-requires-clause-truly
make_calls-requires-clause-truly g c = c.loop-made.invariant.truly

pub make_calls-requires-clause-few : goal.make_calls-requires-clause-few
make_calls-requires-clause-few g c =
    omega (
      arith,
      c.loop-made.invariant.few,
      orders_split c.args.events.now c.loop-made.made c.first_row-event.result.1 c.first_row-event.result.0
          c.first_row-event.ensures.row,
    )

pub returns-then-not-is_any_live-clause-legal : goal.returns-then-not-is_any_live-clause-legal
returns-then-not-is_any_live-clause-legal g c = c.if-not-is_any_live.ensures.legal

pub returns-then-not-is_any_live-clause-seen : goal.returns-then-not-is_any_live-clause-seen
returns-then-not-is_any_live-clause-seen g c = c.if-not-is_any_live.ensures.seen

pub returns-then-not-is_any_live-clause-truly : goal.returns-then-not-is_any_live-clause-truly
returns-then-not-is_any_live-clause-truly g c = c.loop-made.invariant.truly

pub returns-then-not-is_any_live-clause-slots : goal.returns-then-not-is_any_live-clause-slots
returns-then-not-is_any_live-clause-slots g c = c.loop-made.invariant.same_slots

pub returns-clause-legal : goal.returns-clause-legal
returns-clause-legal g c = c.journal-journal.ensures.legal

pub returns-clause-seen : goal.returns-clause-seen
returns-clause-seen g c = c.journal-journal.ensures.seen

pub returns-clause-truly : goal.returns-clause-truly
returns-clause-truly g c = c.loop-made.invariant.truly

pub returns-clause-slots : goal.returns-clause-slots
returns-clause-slots g c = c.loop-made.invariant.same_slots

pub returns-then-not-is_any_live-clause-room : goal.returns-then-not-is_any_live-clause-room
returns-then-not-is_any_live-clause-room g c = omega (arith, c.loop-made.invariant.spent)

pub returns-clause-room : goal.returns-clause-room
returns-clause-room g c = omega (arith, c.loop-made.invariant.spent)
