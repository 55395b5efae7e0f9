use Rattle.std.proofs.Common.{◌≤◌, ℕ, List, [], Option, length, map, sym, subst, arith}
use Rattle.kdf_job.specs.Shows.{shown_slot}
use Rattle.kdf_job.specs.declared.job.SlotJob.{SlotJob}
use Rattle.kdf_job.specs.WellFormed.{AreSlots}
use Rattle.kdf_place.specs.declared.image.Image.{Image}
use Rattle.kdf_schedule.specs.Calls.{order_count}
use Rattle.kdf_text.specs.Ahead.{ahead}
use Rattle.kdf_theory.specs.Loading.{HaveImages, slots_of}
use Rattle.kdf_check.specs.declared.table.Pending.{Pending}
use Rattle.kdf_check.specs.Keeps.{place_at, IsKeptAt, Keeps}
use Rattle.kdf_check.proofs.Checking.{a-report, no-report, rises, start-keeps}
use Rattle.kdf_check.proofs.Pairs.{pair}
use Rattle.kdf_check.proofs.checker.check_with.Goals as goal

abbrev words_in : Image → List ℕ
words_in x = x.words.items

pub load-requires-clause-slots : goal.load-requires-clause-slots
load-requires-clause-slots g c = subst (λ (ss : List SlotJob). AreSlots (map shown_slot ss)) (sym c.deref.ensures.value) c.requires.job.slots

pub load-requires-clause-images : goal.load-requires-clause-images
load-requires-clause-images g c = subst (λ (ss : List SlotJob). HaveImages (map shown_slot ss) (map words_in c.args.images.now)) (sym c.deref.ensures.value)
    c.requires.images

pub follow-requires : goal.follow-requires
follow-requires g c =
    let es = c.args.job.now.events.items in
    let jobs = map shown_slot c.args.job.now.slots.items in
    let images = map words_in c.args.images.now in
    let programs = c.in_ok-programs.programs.items in
    let schedule = c.requires.job.schedule in
    let kept = subst (λ (ss : List SlotJob). (p : ℕ) → IsKeptAt (slots_of (map shown_slot ss) images) [] p (place_at programs p)) c.deref.ensures.value
    c.in_ok-programs.ensures.kept in
    let few_events : length es ≤ 500000 = schedule.few in
    let few : order_count es ≤ 20000000 = omega (arith, schedule.few_orders) in
    λ lives within. pair within
    (pair c.requires.service
    (pair c.new-journal.ensures
    (pair (subst (λ (table : List (Option Pending)). Keeps (λ n a. goal.F-post g c.args.service.now n a) (slots_of jobs images) c.new-journal.result.entries
    table programs) (sym c.new-table.ensures)
    (start-keeps (λ n a. goal.F-post g c.args.service.now n a) jobs images c.requires.job.slots c.requires.images c.new-journal.result.entries programs
    c.new-journal.ensures kept c.in_ok-programs.ensures.four))
    (pair few_events
    (pair few
    (pair (rises 0 es schedule.rising schedule.each) schedule.each))))))

pub returns-then-ne : goal.returns-then-ne
returns-then-ne g c =
    no-report (λ n a. goal.F-post g c.args.service.now n a) (slots_of (map shown_slot c.args.job.now.slots.items) (map words_in c.args.images.now))
    c.args.job.now.events.items c.args.lines.now c.new-lines.result.rest.now c.take_line.result.text.now c.as_slice.result.now c.ne.result
    c.new-lines.ensures.rest c.take_line.ensures.text c.as_slice.ensures c.ne.ensures c.if-ne.true

pub returns : goal.returns
returns g c =
    a-report (λ n a. goal.F-post g c.args.service.now n a) (slots_of (map shown_slot c.args.job.now.slots.items) (map words_in c.args.images.now))
    c.args.job.now.events.items c.args.lines.now c.requires.service.one c.new-lines.result.rest.now c.take_line.result.text.now c.as_slice.result.now
    c.ne.result
    (ahead c.take_line.new.self) c.entries.result.now c.follow.new.journal.entries c.first_difference.result c.verdict_of.result
    c.new-lines.ensures.rest c.take_line.ensures.text c.as_slice.ensures c.ne.ensures c.if-ne.false c.take_line.ensures.rest c.entries.ensures
    c.in_ok-follow.ensures
    c.first_difference.ensures.some c.first_difference.ensures.none c.verdict_of.ensures
