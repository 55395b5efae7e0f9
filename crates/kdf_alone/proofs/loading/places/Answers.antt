use Rattle.std.proofs.Common.{◌≡◌, ◌+◌, length, map, sym, ap, ◌∙◌, subst, List, arith}
use Rattle.std.specs.List.{All, range_with_len}
use Rattle.std.proofs.lemmas.List.{length_push}
use Rattle.std.proofs.lemmas.List.Elements.{All-push}
use Rattle.kdf_job.specs.Shows.{shown_device}
use Rattle.kdf_job.specs.Slots.{fixture_on, lent_kind, numbered, progress_on}
use Rattle.kdf_transfer.proofs.Numbers.{one_more, sixteen_numbers}
use Rattle.kdf_alone.specs.declared.lone_place.LonePlace.{LonePlace}
use Rattle.kdf_alone.specs.LonePlaces.{own_fixture_in, pool_kind_in, progress_in, IsWhole}
use Rattle.kdf_alone.specs.Stints.{IsUnlent}
use Rattle.kdf_alone.proofs.loading.places.Goals as goal

pub loop-d-preserved : goal.loop-d-preserved
loop-d-preserved c =
    let devices = map shown_device c.args.slot.now.devices.items in
    let pool = c.args.slot.now.pool.items in
    let before = c.loop-d.places.items in
    let place = c.in_ok-place.field-0 in
    let items = c.in_ok-push.ensures.items in
    let Q : List LonePlace → Type 0 = All IsWhole in
    let R : List LonePlace → Type 0 = All IsUnlent in
    record {
      fixtures = one_more own_fixture_in (λ d. fixture_on (numbered devices d)) before c.push.new.self.items place c.loop-d.d c.loop-d.invariant.fixtures items
          c.in_ok-place.ensures.fixture;
      kinds = one_more pool_kind_in (lent_kind pool) before c.push.new.self.items place c.loop-d.d c.loop-d.invariant.kinds items c.in_ok-place.ensures.kind;
      progresses = one_more progress_in (λ d. progress_on (numbered devices d)) before c.push.new.self.items place c.loop-d.d c.loop-d.invariant.progresses
          items c.in_ok-place.ensures.progress;
      whole = subst Q (sym items) (All-push IsWhole before place c.loop-d.invariant.whole c.in_ok-place.ensures.whole);
      unlent = subst R (sym items) (All-push IsUnlent before place c.loop-d.invariant.unlent c.in_ok-place.ensures.unlent);
      count = ap length items ∙ length_push before place ∙ ap (λ n. n + 1) c.loop-d.invariant.count;
    }

pub returns-clause-fixtures : goal.returns-clause-fixtures
returns-clause-fixtures c =
    let devices = map shown_device c.args.slot.now.devices.items in
    let all : c.loop-d.d ≡ 16 = omega arith in
    c.loop-d.invariant.fixtures
    ∙ ap (λ n. map (λ d. fixture_on (numbered devices d)) (range_with_len 0 n)) all
    ∙ sixteen_numbers (λ d. fixture_on (numbered devices d))

pub returns-clause-kinds : goal.returns-clause-kinds
returns-clause-kinds c =
    let pool = c.args.slot.now.pool.items in
    let all : c.loop-d.d ≡ 16 = omega arith in
    c.loop-d.invariant.kinds ∙ ap (λ n. map (lent_kind pool) (range_with_len 0 n)) all ∙ sixteen_numbers (lent_kind pool)

pub returns-clause-progresses : goal.returns-clause-progresses
returns-clause-progresses c =
    let devices = map shown_device c.args.slot.now.devices.items in
    let all : c.loop-d.d ≡ 16 = omega arith in
    c.loop-d.invariant.progresses
    ∙ ap (λ n. map (λ d. progress_on (numbered devices d)) (range_with_len 0 n)) all
    ∙ sixteen_numbers (λ d. progress_on (numbered devices d))
