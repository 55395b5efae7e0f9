use Rattle.std.specs.List.{All}
use Rattle.std.specs.Vec.{with_items}
use Rattle.std.proofs.Common.{◌≡◌, ◌<◌, List, get_or, set, length, sym, ap, ◌∙◌, subst, arith}
use Rattle.std.proofs.lemmas.List.{get_or_default, length-set, with_items_is}
use Rattle.std.proofs.lemmas.List.Elements.{All-get_or, All-set}
use Rattle.kdf_transfer.specs.AtOnce.{kind_of}
use Rattle.kdf_transfer.specs.Devices.{kind_in}
use Rattle.kdf_alone.specs.declared.lone_place.LonePlace.{LonePlace}
use Rattle.kdf_alone.specs.declared.lone_place.LonePlace.TheVariants.{Absent}
use Rattle.kdf_alone.specs.LonePlaces.{device_of_place, fixture_in, own_fixture_in, pool_kind_in, IsReady, IsWhole}
use Rattle.kdf_alone.specs.Stints.{IsKept}
use Rattle.kdf_alone.proofs.Devices.{claimed_device, claimed_kind, moved_at, seen_stays, stock, stock_moved}
use Rattle.kdf_alone.proofs.Stints.{start_lent}
use Rattle.kdf_alone.proofs.lone_port.LonePortPort.start.Goals as goal

pub transfer-requires-clause-kind : goal.transfer-requires-clause-kind
transfer-requires-clause-kind c =
    let b = c.args.self.now in
    let ps = b.places.items in
    let place = c.index_mut-place.result.now in
    let there : c.from-3.result < length ps = omega (arith, b.sixteen, c.from-3.ensures, c.requires.number) in
    let here : place ≡ get_or ps c.args.device Absent =
    c.index_mut-place.ensures.value ∙ get_or_default ps c.from-3.result place Absent there ∙ ap (λ n. get_or ps n Absent) c.from-3.ensures in
    ap (λ p. kind_in (fixture_in p)) here ∙ claimed_kind b.size b.served b.claimed ps c.args.device (kind_of c.args.order) c.requires.kind

pub returns : goal.returns
returns c =
    let b = c.args.self.now in
    let ps = b.places.items in
    let place = c.index_mut-place.result.now in
    let there : c.from-3.result < length ps = omega (arith, b.sixteen, c.from-3.ensures, c.requires.number) in
    let inside : c.args.device < length ps = omega (arith, b.sixteen, c.requires.number) in
    let here : place ≡ get_or ps c.args.device Absent =
    c.index_mut-place.ensures.value ∙ get_or_default ps c.from-3.result place Absent there ∙ ap (λ n. get_or ps n Absent) c.from-3.ensures in
    let found = claimed_device b.size b.served b.claimed ps c.args.device (kind_of c.args.order) c.requires.kind in
    let words = with_items_is b.words c.transfer.new.words (c.transfer.auto.words ∙ c.deref_mut.ensures.len) in
    let moved = moved_at c.args.order c.from.result c.args.first c.from-2.result c.args.last found.0 c.deref_mut.result.now b.words.items c.transfer.new.self
    c.transfer.new.words (with_items b.words c.transfer.new.words).items
    c.from.ensures c.from-2.ensures c.deref_mut.ensures.value words (c.transfer.ensures.moved found.0 (ap device_of_place here ∙ found.1)) in
    ap (λ n. stock b.size b.served b.claimed (set ps n c.transfer.new.self) b.stints.items b.spooled.items b.asked
    (with_items b.words c.transfer.new.words).items) c.from-3.ensures
    ∙ stock_moved b.size b.served b.claimed ps b.stints.items b.spooled.items b.asked b.words.items c.args.device c.args.order c.args.first c.args.last found.0
    c.transfer.new.self (with_items b.words c.transfer.new.words).items
    (All-get_or IsWhole ps c.args.device Absent inside b.pooled) found.1
    (c.transfer.ensures.own ∙ ap own_fixture_in here) (c.transfer.ensures.kind ∙ ap pool_kind_in here) moved

pub invariant_of-self-clause-sixteen : goal.invariant_of-self-clause-sixteen
invariant_of-self-clause-sixteen c = length-set c.args.self.now.places.items c.from-3.result c.transfer.new.self ∙ c.args.self.now.sixteen

pub invariant_of-self-clause-pooled : goal.invariant_of-self-clause-pooled
invariant_of-self-clause-pooled c =
    let b = c.args.self.now in
    let ps = b.places.items in
    let place = c.index_mut-place.result.now in
    let there : c.from-3.result < length ps = omega (arith, b.sixteen, c.from-3.ensures, c.requires.number) in
    let here : place ≡ get_or ps c.from-3.result Absent = c.index_mut-place.ensures.value ∙ get_or_default ps c.from-3.result place Absent there in
    let Q : LonePlace → Type 0 = IsWhole in
    All-set IsWhole ps c.from-3.result c.transfer.new.self
    (c.transfer.ensures.whole (subst Q (sym here) (All-get_or IsWhole ps c.from-3.result Absent there b.pooled))) b.pooled

pub invariant_of-self-clause-kept : goal.invariant_of-self-clause-kept
invariant_of-self-clause-kept c =
    let b = c.args.self.now in
    let ps = b.places.items in
    let place = c.index_mut-place.result.now in
    let there : c.from-3.result < length ps = omega (arith, b.sixteen, c.from-3.ensures, c.requires.number) in
    let here : place ≡ get_or ps c.from-3.result Absent = c.index_mut-place.ensures.value ∙ get_or_default ps c.from-3.result place Absent there in
    let Q : List _ → Type 0 = λ pool. All (IsKept pool) b.stints.items in
    subst Q (sym (seen_stays pool_kind_in ps c.from-3.result c.transfer.new.self (c.transfer.ensures.kind ∙ ap pool_kind_in here))) b.kept

pub invariant_of-self-clause-lent : goal.invariant_of-self-clause-lent
invariant_of-self-clause-lent c =
    let b = c.args.self.now in
    let ps = b.places.items in
    let place = c.index_mut-place.result.now in
    let there : c.from-3.result < length ps = omega (arith, b.sixteen, c.from-3.ensures, c.requires.number) in
    let inside : c.args.device < length ps = omega (arith, b.sixteen, c.requires.number) in
    let here : place ≡ get_or ps c.args.device Absent =
    c.index_mut-place.ensures.value ∙ get_or_default ps c.from-3.result place Absent there ∙ ap (λ n. get_or ps n Absent) c.from-3.ensures in
    let found = claimed_device b.size b.served b.claimed ps c.args.device (kind_of c.args.order) c.requires.kind in
    let words = with_items_is b.words c.transfer.new.words (c.transfer.auto.words ∙ c.deref_mut.ensures.len) in
    let moved = moved_at c.args.order c.from.result c.args.first c.from-2.result c.args.last found.0 c.deref_mut.result.now b.words.items c.transfer.new.self
    c.transfer.new.words (with_items b.words c.transfer.new.words).items
    c.from.ensures c.from-2.ensures c.deref_mut.ensures.value words (c.transfer.ensures.moved found.0 (ap device_of_place here ∙ found.1)) in
    start_lent b.size b.served b.claimed ps b.stints.items b.spooled.items b.asked b.words.items b.lent
    (set ps c.from-3.result c.transfer.new.self) (with_items b.words c.transfer.new.words).items c.args.device c.args.order c.args.first c.args.last
    c.requires.kind
    (ap (λ n. stock b.size b.served b.claimed (set ps n c.transfer.new.self) b.stints.items b.spooled.items b.asked
    (with_items b.words c.transfer.new.words).items) c.from-3.ensures
    ∙ stock_moved b.size b.served b.claimed ps b.stints.items b.spooled.items b.asked b.words.items c.args.device c.args.order c.args.first c.args.last found.0
    c.transfer.new.self (with_items b.words c.transfer.new.words).items
    (All-get_or IsWhole ps c.args.device Absent inside b.pooled) found.1
    (c.transfer.ensures.own ∙ ap own_fixture_in here) (c.transfer.ensures.kind ∙ ap pool_kind_in here) moved)

pub transfer-requires-clause-ready : goal.transfer-requires-clause-ready
transfer-requires-clause-ready c =
    let b = c.args.self.now in
    let ps = b.places.items in
    let place = c.index_mut-place.result.now in
    let there : c.from-3.result < length ps = omega (arith, b.sixteen, c.from-3.ensures, c.requires.number) in
    let here : place ≡ get_or ps c.args.device Absent =
    c.index_mut-place.ensures.value ∙ get_or_default ps c.from-3.result place Absent there ∙ ap (λ n. get_or ps n Absent) c.from-3.ensures in
    let Q : LonePlace → Type 0 = IsReady c.args.order in
    subst Q (sym here) c.requires.room.device
