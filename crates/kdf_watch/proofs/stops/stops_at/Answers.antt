use Rattle.std.proofs.Common.{List, ap, refl, rules, sym, ◌∙◌}
use Rattle.kdf_journal.specs.Steps.{steps}
use Rattle.kdf_transfer.specs.Slots.{Slot}
use Rattle.kdf_director.proofs.Calls.Halting.{at_may}
use Rattle.kdf_watch.specs.Hits.{is_at}
use Rattle.kdf_watch.proofs.Counting.{all_looks, at_first, counted, finished_of, first_numbers, gone_numbers, hits, less_seen, seen_numbers, true_first}
use Rattle.kdf_watch.proofs.stops.stops_at.Goals as goal

pub go_to-requires-clause-service : goal.go_to-requires-clause-service
go_to-requires-clause-service g c = c.requires.service

pub go_to-requires-clause-at : goal.go_to-requires-clause-at
go_to-requires-clause-at g c = c.loop-numbers.invariant.at

pub go_to-requires-clause-stop : goal.go_to-requires-clause-stop
go_to-requires-clause-stop g c = record {
  may = at_may c.args.k c.args.at;
  elsewhere = λ look is no. (look, sym (ap (λ x. is_at x.0 x.1 look) c.new-watch.ensures ∙ no));
}

pub returns-in_err-look-clause-slots : goal.returns-in_err-look-clause-slots
returns-in_err-look-clause-slots g c = c.go_to.ensures.slots ∙ c.loop-numbers.invariant.same_slots

pub returns-in_err-push-clause-slots : goal.returns-in_err-push-clause-slots
returns-in_err-push-clause-slots g c = c.go_to.ensures.slots ∙ c.loop-numbers.invariant.same_slots

pub returns-clause-slots : goal.returns-clause-slots
returns-clause-slots g c = c.go_to.ensures.slots ∙ c.loop-numbers.invariant.same_slots

pub returns-clause-journal : goal.returns-clause-journal
returns-clause-journal g c = record {
  legal = c.journal-journal.ensures.legal;
  truly = c.go_to.ensures.truthful c.loop-numbers.invariant.truthful;
  whole = (finished_of _ c.args.events.now c.loop-numbers.machine c.go_to.new.machine c.in_ok-look.field-0 c.in_ok-look.ensures.stopped
      c.in_default.not-Watched).1;
}

pub returns-clause-seen : goal.returns-clause-seen
returns-clause-seen g c = c.journal-journal.ensures.seen

pub loop-numbers-init : goal.loop-numbers-init
loop-numbers-init g c = record {
  at = at_first c.args.events.now c.args.machine.now c.requires.fresh c.requires.room;
  same_slots = refl;
  truthful = true_first (λ n a. goal.F-post g c.args.service.now n a) c.args.machine.now.slots c.args.machine.now.journal c.requires.fresh;
  numbers = c.new-numbers.ensures.items ∙ sym (first_numbers c.args.machine.now.slots c.args.machine.now.journal c.args.k c.args.at c.requires.fresh);
}

pub loop-numbers-smaller : goal.loop-numbers-smaller
loop-numbers-smaller g c =
    less_seen _ c.args.events.now c.loop-numbers.cursor c.go_to.new.cursor c.loop-numbers.machine c.go_to.new.machine c.in-Watched.look
    c.loop-numbers.invariant.at c.go_to.ensures.at (rw c.in-Watched.is at c.in_ok-look.ensures.stopped)

pub loop-numbers-preserved : goal.loop-numbers-preserved
loop-numbers-preserved g c = record {
  at = c.go_to.ensures.at;
  same_slots = c.go_to.ensures.slots ∙ c.loop-numbers.invariant.same_slots;
  truthful = c.go_to.ensures.truthful c.loop-numbers.invariant.truthful;
  numbers =
      c.in_ok-push.ensures.items
      ∙ (seen_numbers _ c.args.k c.args.at (λ look b h. search rules) c.loop-numbers.machine c.go_to.new.machine c.loop-numbers.numbers.items
      c.loop-numbers.invariant.numbers c.in-Watched.look (rw c.in-Watched.is at c.in_ok-look.ensures.stopped)
      ∙ ap (λ (S : List Slot). hits c.args.k c.args.at (all_looks S (steps c.go_to.new.machine.journal))) (sym c.go_to.ensures.slots));
}

pub returns-clause-numbers : goal.returns-clause-numbers
returns-clause-numbers g c =
    gone_numbers _ c.args.k c.args.at (λ look b h. search rules) c.loop-numbers.machine c.go_to.new.machine c.loop-numbers.numbers.items
    c.loop-numbers.invariant.numbers
    (finished_of _ c.args.events.now c.loop-numbers.machine c.go_to.new.machine c.in_ok-look.field-0 c.in_ok-look.ensures.stopped c.in_default.not-Watched).0
    ∙ (ap (λ (S : List Slot). hits c.args.k c.args.at (all_looks S (steps c.go_to.new.machine.journal))) (sym c.go_to.ensures.slots)
    ∙ counted c.go_to.new.machine.slots c.go_to.new.machine.journal c.args.k c.args.at c.journal-journal.ensures.legal)
