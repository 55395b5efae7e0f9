use Rattle.std.proofs.Common.{length-take, take, drop, ap, sym, ◌∙◌, subst, arith}
use Rattle.std.proofs.lemmas.Result.{IfErr-weaker, IfOk-weaker}
use Rattle.std.specs.Prelude.{sum_by}
use Rattle.kdf_theory.specs.Follows.{entries_in}
use Rattle.kdf_theory.specs.MachineView.{MachineView, ShowsSeen}
use Rattle.kdf_snapshot.proofs.Fronts.{entries-bound, entries-parts, few-orders, kept, kept-journal, refused-as, rising-front}
use Rattle.kdf_snapshot.proofs.JournalLengths.{few_entries}
use Rattle.kdf_snapshot.proofs.rebuilt.rebuild_with.Goals as goal

pub follow-requires-clause-few : goal.follow-requires-clause-few
follow-requires-clause-few g c =
    let es = c.args.job.now.events.items in
    rw c.deref.ensures.value (omega (arith, few-orders c.args.first es, c.requires.job.schedule.few_orders))

pub follow-requires-clause-room : goal.follow-requires-clause-room
follow-requires-clause-room g c =
    let es = c.args.job.now.events.items in
    let i = c.args.first in
    rw c.deref.ensures.value (omega (
      arith,
      entries-bound (take i es),
      length-take i es,
      ap (λ (m : MachineView). m.room) c.reserve_entries.ensures,
      c.in-Ok.ensures.room,
    ))

pub follow-requires-clause-rises : goal.follow-requires-clause-rises
follow-requires-clause-rises g c = rw c.deref.ensures.value
    (rising-front 0 c.args.first c.args.job.now.events.items c.requires.job.schedule.rising c.requires.job.schedule.each)

pub returns-in-Ok-follow-clause-room : goal.returns-in-Ok-follow-clause-room
returns-in-Ok-follow-clause-room g c =
    let es = c.args.job.now.events.items in
    let i = c.args.first in
    let left = ap (λ fs. sum_by entries_in (take i fs)) c.deref.ensures.value in
    kept c.compared.result c.follow.new.machine (sum_by entries_in (drop i es)) c.compared.ensures.machine
    (omega (
      arith,
      c.in-Ok-follow.ensures.room,
      left,
      entries-parts i es,
      entries-bound es,
      ap (λ (m : MachineView). m.room) c.reserve_entries.ensures,
      c.in-Ok.ensures.room,
    ))

pub returns-in-Ok-follow-clause-slots : goal.returns-in-Ok-follow-clause-slots
returns-in-Ok-follow-clause-slots g c =
    let slots = c.follow.ensures.slots ∙ ap (λ (m : MachineView). m.slots) c.reserve_entries.ensures ∙ c.in-Ok.ensures.slots in
    IfOk-weaker c.compared.result _ _ (λ m is. ap (λ (x : MachineView). x.slots) is ∙ slots) c.compared.ensures.machine

pub returns-in-Ok-follow-clause-journal : goal.returns-in-Ok-follow-clause-journal
returns-in-Ok-follow-clause-journal g c =
    IfOk-weaker c.compared.result _ _ (λ m is. rw is (rw c.deref.ensures.value at c.in-Ok-follow.ensures.journal)) c.compared.ensures.machine

pub returns-in-Ok-follow-clause-entries : goal.returns-in-Ok-follow-clause-entries
returns-in-Ok-follow-clause-entries g c = kept-journal c.compared.result c.follow.new.machine c.args.entries.now c.compared.ensures.machine
    c.compared.ensures.entries

pub returns-in-Ok-follow-clause-seen : goal.returns-in-Ok-follow-clause-seen
returns-in-Ok-follow-clause-seen g c = IfOk-weaker c.compared.result _ _ (λ m is. subst ShowsSeen (sym is) c.in-Ok-follow.ensures.seen)
    c.compared.ensures.machine

pub returns-in-Ok-follow-clause-refused : goal.returns-in-Ok-follow-clause-refused
returns-in-Ok-follow-clause-refused g c =
    let slots = c.follow.ensures.slots ∙ ap (λ (m : MachineView). m.slots) c.reserve_entries.ensures ∙ c.in-Ok.ensures.slots in
    IfErr-weaker c.compared.result _ _ (λ e d. refused-as _ _ _ _ _ _ e slots (rw c.deref.ensures.value at c.in-Ok-follow.ensures.journal) d)
    c.compared.ensures.refused

pub compared-requires : goal.compared-requires
compared-requires g c =
    let es = c.args.job.now.events.items in
    let i = c.args.first in
    few_entries _ _ (take i es) _ (rw c.deref.ensures.value at c.in-Ok-follow.ensures.journal)
    (omega (arith, few-orders i es, c.requires.job.schedule.few_orders)) (omega (arith, length-take i es, c.requires.job.schedule.few))
