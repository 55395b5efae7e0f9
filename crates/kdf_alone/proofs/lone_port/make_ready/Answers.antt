use Rattle.std.proofs.Common.{◌≡◌, ◌<◌, get_or, length, sym, ap, ◌∙◌, subst, arith}
use Rattle.std.proofs.lemmas.List.{get_or_default, length-set}
use Rattle.std.proofs.lemmas.List.Elements.{All-get_or, All-set}
use Rattle.kdf_alone.specs.declared.lone_place.LonePlace.{LonePlace}
use Rattle.kdf_alone.specs.declared.lone_place.LonePlace.TheVariants.{Absent}
use Rattle.kdf_alone.specs.LonePlaces.{own_fixture_in, pool_kind_in, progress_in, IsWhole}
use Rattle.kdf_alone.proofs.Devices.{seen_stays}
use Rattle.kdf_alone.proofs.lone_port.make_ready.Goals as goal

pub returns-clause-own : goal.returns-clause-own
returns-clause-own c =
    let ps = c.args.places.now.items in
    let held = c.index_mut.result.now in
    let there : c.from-place.result < length ps = omega (arith, c.args.places.now.ok.0) in
    let here : held ≡ get_or ps c.from-place.result Absent = c.index_mut.ensures.value ∙ get_or_default ps c.from-place.result held Absent there in
    seen_stays own_fixture_in ps c.from-place.result c.make_ready.new.self (c.make_ready.ensures.own ∙ ap own_fixture_in here)

pub returns-clause-kinds : goal.returns-clause-kinds
returns-clause-kinds c =
    let ps = c.args.places.now.items in
    let held = c.index_mut.result.now in
    let there : c.from-place.result < length ps = omega (arith, c.args.places.now.ok.0) in
    let here : held ≡ get_or ps c.from-place.result Absent = c.index_mut.ensures.value ∙ get_or_default ps c.from-place.result held Absent there in
    seen_stays pool_kind_in ps c.from-place.result c.make_ready.new.self (c.make_ready.ensures.kind ∙ ap pool_kind_in here)

pub returns-clause-progresses : goal.returns-clause-progresses
returns-clause-progresses c =
    let ps = c.args.places.now.items in
    let held = c.index_mut.result.now in
    let there : c.from-place.result < length ps = omega (arith, c.args.places.now.ok.0) in
    let here : held ≡ get_or ps c.from-place.result Absent = c.index_mut.ensures.value ∙ get_or_default ps c.from-place.result held Absent there in
    seen_stays progress_in ps c.from-place.result c.make_ready.new.self (c.make_ready.ensures.progress ∙ ap progress_in here)

pub returns-clause-count : goal.returns-clause-count
returns-clause-count c = length-set c.args.places.now.items c.from-place.result c.make_ready.new.self

pub returns-clause-whole : goal.returns-clause-whole
returns-clause-whole c =
    λ whole.
    let ps = c.args.places.now.items in
    let held = c.index_mut.result.now in
    let there : c.from-place.result < length ps = omega (arith, c.args.places.now.ok.0) in
    let here : held ≡ get_or ps c.from-place.result Absent = c.index_mut.ensures.value ∙ get_or_default ps c.from-place.result held Absent there in
    let Q : LonePlace → Type 0 = IsWhole in
    All-set IsWhole ps c.from-place.result c.make_ready.new.self
    (c.make_ready.ensures.whole (subst Q (sym here) (All-get_or IsWhole ps c.from-place.result Absent there whole))) whole
