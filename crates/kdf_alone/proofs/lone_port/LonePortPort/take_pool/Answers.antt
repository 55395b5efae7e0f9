use Rattle.std.specs.List.{All}
use Rattle.std.proofs.Common.{◌≡◌, ◌+◌, ℕ, true, List, None, map, set, refl, sym, subst}
use Rattle.std.proofs.lemmas.List.Elements.{All-push}
use Rattle.kdf_processor.specs.Claims.{can_take}
use Rattle.kdf_processor.proofs.Stinting.{taken_can}
use Rattle.kdf_alone.specs.declared.stint.Stint.{Stint}
use Rattle.kdf_alone.specs.LonePort.{claims_of}
use Rattle.kdf_alone.specs.LonePlaces.{pool_kind_in}
use Rattle.kdf_alone.specs.Stints.{IsKept}
use Rattle.kdf_alone.proofs.Stints.{stock_taken, take_lent}
use Rattle.kdf_alone.proofs.lone_port.LonePortPort.take_pool.Goals as goal

pub returns-clause-can : goal.returns-clause-can
returns-clause-can c =
    let b = c.args.self.now in
    let Q : ℕ → Type 0 = λ d. can_take (claims_of b) c.args.kind d ≡ true in
    subst Q (sym c.taken-d.ensures.taken) (taken_can (claims_of b) c.args.kind b.answer c.requires.may)

pub returns-clause-recorded : goal.returns-clause-recorded
returns-clause-recorded c =
    let b = c.args.self.now in
    stock_taken b.size b.served b.claimed b.places.items b.stints.items c.push_reserved.new.self.items b.spooled.items b.asked b.words.items c.args.kind
    b.answer c.taken-d.result c.from.result
    c.requires.may c.taken-d.ensures.taken c.from.ensures c.push_reserved.ensures.items

pub invariant_of-self-clause-kept : goal.invariant_of-self-clause-kept
invariant_of-self-clause-kept c =
    let b = c.args.self.now in
    let P : List Stint → Type 0 = All (IsKept (map pool_kind_in b.places.items)) in
    subst P (sym c.push_reserved.ensures.items)
    (All-push (IsKept (map pool_kind_in b.places.items)) b.stints.items (record { d = c.taken-d.result; left = None }) b.kept refl)

pub invariant_of-self-clause-lent : goal.invariant_of-self-clause-lent
invariant_of-self-clause-lent c =
    let b = c.args.self.now in
    take_lent b.size b.served b.claimed b.places.items b.stints.items b.spooled.items b.asked b.words.items b.lent
    (set b.claimed c.from.result true) c.push_reserved.new.self.items (b.asked + 1) c.args.kind _ c.requires.may
    (stock_taken b.size b.served b.claimed b.places.items b.stints.items c.push_reserved.new.self.items b.spooled.items b.asked b.words.items c.args.kind
    b.answer c.taken-d.result c.from.result
    c.requires.may c.taken-d.ensures.taken c.from.ensures c.push_reserved.ensures.items)
