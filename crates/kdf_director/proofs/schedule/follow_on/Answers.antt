use Rattle.std.proofs.Common.{◌≡◌, ◌+◌, List, sym, ap, ◌∙◌, subst, arith, take, drop}
use Rattle.std.specs.Prelude.{sum_by}
use Rattle.std.proofs.lemmas.List.{take-append-drop}
use Rattle.kdf_transfer.specs.Slots.{Slot}
use Rattle.kdf_journal.specs.Counts.{clock}
use Rattle.kdf_journal.specs.Steps.{steps}
use Rattle.kdf_schedule.specs.declared.event.Event.{Event}
use Rattle.kdf_schedule.specs.Calls.{calls_made, order_count}
use Rattle.kdf_course.specs.Follows.{Reaches}
use Rattle.kdf_theory.specs.Follows.{IsRising, entries_in}
use Rattle.kdf_theory.specs.Legal.{IsLegal}
use Rattle.kdf_theory.specs.Next.{lone_dispatched}
use Rattle.kdf_theory.proofs.Course.CountsBounded.{few-calls, rising-on}
use Rattle.kdf_theory.proofs.Course.EventsInTurn.{order_count-append, rest-is, went-on}
use Rattle.kdf_director.proofs.schedule.follow_on.Goals as goal
use Rattle.kdf_theory.specs.Served.{IsJournalFor, IsTrueFor}

pub follow_each-requires-clause-few : goal.follow_each-requires-clause-few
follow_each-requires-clause-few g c =
    let es = c.args.events.now in
    let i = c.args.first in
    let front = few-calls c.args.machine.now.slots (take i es) c.args.machine.now.journal c.requires.followed.legal c.requires.followed.whole in
    let parts : order_count es ≡ order_count (take i es) + order_count (drop i es) = ap order_count (sym (take-append-drop i es))
    ∙ order_count-append (take i es) (drop i es) in
    omega (arith, front, parts, c.requires.few, ap order_count (rest-is es i))

pub follow_each-requires-clause-room : goal.follow_each-requires-clause-room
follow_each-requires-clause-room g c =
    let es = c.args.events.now in
    let i = c.args.first in
    omega (arith, c.requires.room, ap (sum_by entries_in) (rest-is es i))

pub follow_each-requires-clause-rises : goal.follow_each-requires-clause-rises
follow_each-requires-clause-rises g c =
    let es = c.args.events.now in
    let i = c.args.first in
    subst (IsRising (clock c.args.machine.now.journal)) (sym (rest-is es i))
    (rising-on c.args.machine.now.slots (take i es) (drop i es) c.args.machine.now.journal c.requires.followed.legal c.requires.followed.whole
    (subst (IsRising 0) (sym (take-append-drop i es)) c.requires.rises))

pub returns-clause-journal : goal.returns-clause-journal
returns-clause-journal g c =
    let es = c.args.events.now in
    let i = c.args.first in
    let old = c.args.machine.now in
    let new = c.follow_each.new.machine in
    let same : new.slots ≡ old.slots = c.in_ok-follow_each.ensures.slots in
    let on : Reaches (lone_dispatched old.slots) (steps old.journal) (calls_made (drop i es)) (steps new.journal) =
    subst (λ (fs : List Event). Reaches (lone_dispatched old.slots) (steps old.journal) (calls_made fs) (steps new.journal))
    (rest-is es i) c.in_ok-follow_each.ensures.steps in
    subst (λ (slots : List Slot). IsJournalFor (λ n a. goal.F-post g c.args.service.now n a) slots es new.journal) (sym same)
    (went-on (λ n a. goal.F-post g c.args.service.now n a) old.slots es i old.journal new.journal c.requires.followed
    (subst (λ (slots : List Slot). IsLegal slots new.journal) same c.in_ok-follow_each.ensures.legal)
    (subst (λ (slots : List Slot). IsTrueFor (λ n a. goal.F-post g c.args.service.now n a) slots new.journal) same c.in_ok-follow_each.ensures.truly)
    on)

pub returns-clause-room : goal.returns-clause-room
returns-clause-room g c =
    let es = c.args.events.now in
    let i = c.args.first in
    omega (arith, c.in_ok-follow_each.ensures.room, ap (sum_by entries_in) (rest-is es i))

pub follow_each-requires-clause-service : goal.follow_each-requires-clause-service
follow_each-requires-clause-service g c = c.requires.service

pub follow_each-requires-clause-truly : goal.follow_each-requires-clause-truly
follow_each-requires-clause-truly g c = c.requires.followed.truly

pub returns-clause-slots : goal.returns-clause-slots
returns-clause-slots g c = c.in_ok-follow_each.ensures.slots

pub returns-clause-seen : goal.returns-clause-seen
returns-clause-seen g c = c.in_ok-follow_each.ensures.seen

pub returns-in_err-follow_each-clause-slots : goal.returns-in_err-follow_each-clause-slots
returns-in_err-follow_each-clause-slots g c = c.follow_each.ensures.slots
