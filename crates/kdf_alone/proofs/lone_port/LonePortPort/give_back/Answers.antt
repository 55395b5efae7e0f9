use Rattle.std.proofs.Common.{◌<◌, length, ◌∙◌, arith}
use Rattle.std.proofs.lemmas.List.{length-set}
use Rattle.kdf_alone.specs.LonePort.{claims_of}
use Rattle.kdf_alone.proofs.Giving.{kept_given, own_given, own_lent, pooled_given, pooled_kept, pooled_lent, whole_given}
use Rattle.kdf_alone.proofs.Stints.{claimed_low}
use Rattle.kdf_alone.proofs.lone_port.LonePortPort.give_back.Goals as goal

pub returns-in-Some : goal.returns-in-Some
returns-in-Some c =
    let b = c.args.self.now in
    let few = claimed_low (claims_of b) c.args.device c.requires.claimed in
    let low : c.from-place.result < length b.places.items = omega (arith, b.sixteen, c.from-place.ensures) in
    pooled_given b.size b.served b.claimed b.places.items b.stints.items b.spooled.items b.asked b.words.items c.args.device c.from-place.result
    c.from-place.ensures low c.index_mut.result.now c.hand_over.new.self
    c.index_mut.ensures.value c.hand_over.ensures.own c.hand_over.ensures.kind c.in-Some.left c.in-Some.ensures.pooled c.end_stint.new.stints.items
    c.end_stint.ensures

pub returns-in_default : goal.returns-in_default
returns-in_default c =
    let b = c.args.self.now in
    let few = claimed_low (claims_of b) c.args.device c.requires.claimed in
    let low : c.from-place.result < length b.places.items = omega (arith, b.sixteen, c.from-place.ensures) in
    own_given b.size b.served b.claimed b.places.items b.stints.items b.spooled.items b.asked b.words.items c.args.device c.from-place.result
    c.from-place.ensures low c.index_mut.result.now c.hand_over.new.self
    c.index_mut.ensures.value c.hand_over.ensures.own c.hand_over.ensures.kind c.in_default.ensures.none

pub end_stint-requires : goal.end_stint-requires
end_stint-requires c = record { one = c.args.self.now.lent.one }

pub invariant_of-self-clause-sixteen : goal.invariant_of-self-clause-sixteen
invariant_of-self-clause-sixteen c = length-set c.args.self.now.places.items c.from-place.result c.hand_over.new.self ∙ c.args.self.now.sixteen

pub invariant_of-self-clause-pooled : goal.invariant_of-self-clause-pooled
invariant_of-self-clause-pooled c =
    let b = c.args.self.now in
    let few = claimed_low (claims_of b) c.args.device c.requires.claimed in
    let low : c.from-place.result < length b.places.items = omega (arith, b.sixteen, c.from-place.ensures) in
    whole_given b.size b.served b.claimed b.places.items b.stints.items b.spooled.items b.asked b.words.items c.args.device c.from-place.result
    c.from-place.ensures low c.index_mut.result.now c.hand_over.new.self
    c.index_mut.ensures.value c.hand_over.ensures.own c.hand_over.ensures.kind c.hand_over.ensures.whole b.pooled

pub invariant_of-self-clause-kept : goal.invariant_of-self-clause-kept
invariant_of-self-clause-kept c =
    let b = c.args.self.now in
    let few = claimed_low (claims_of b) c.args.device c.requires.claimed in
    let low : c.from-place.result < length b.places.items = omega (arith, b.sixteen, c.from-place.ensures) in
    pooled_kept b.size b.served b.claimed b.places.items b.stints.items b.spooled.items b.asked b.words.items c.args.device c.from-place.result
    c.from-place.ensures low c.index_mut.result.now c.hand_over.new.self
    c.index_mut.ensures.value c.hand_over.ensures.own c.hand_over.ensures.kind c.in-Some.left c.in-Some.ensures.pooled c.end_stint.new.stints.items
    c.end_stint.ensures b.pooled b.kept

pub invariant_of-self-clause-lent : goal.invariant_of-self-clause-lent
invariant_of-self-clause-lent c =
    let b = c.args.self.now in
    let few = claimed_low (claims_of b) c.args.device c.requires.claimed in
    let low : c.from-place.result < length b.places.items = omega (arith, b.sixteen, c.from-place.ensures) in
    pooled_lent b.size b.served b.claimed b.places.items b.stints.items b.spooled.items b.asked b.words.items c.args.device c.from-place.result
    c.from-place.ensures low c.index_mut.result.now c.hand_over.new.self
    c.index_mut.ensures.value c.hand_over.ensures.own c.hand_over.ensures.kind c.in-Some.left c.in-Some.ensures.pooled c.end_stint.new.stints.items
    c.end_stint.ensures b.lent

pub invariant_of-self-in_default-clause-sixteen : goal.invariant_of-self-in_default-clause-sixteen
invariant_of-self-in_default-clause-sixteen c = length-set c.args.self.now.places.items c.from-place.result c.hand_over.new.self ∙ c.args.self.now.sixteen

pub invariant_of-self-in_default-clause-pooled : goal.invariant_of-self-in_default-clause-pooled
invariant_of-self-in_default-clause-pooled c =
    let b = c.args.self.now in
    let few = claimed_low (claims_of b) c.args.device c.requires.claimed in
    let low : c.from-place.result < length b.places.items = omega (arith, b.sixteen, c.from-place.ensures) in
    whole_given b.size b.served b.claimed b.places.items b.stints.items b.spooled.items b.asked b.words.items c.args.device c.from-place.result
    c.from-place.ensures low c.index_mut.result.now c.hand_over.new.self
    c.index_mut.ensures.value c.hand_over.ensures.own c.hand_over.ensures.kind c.hand_over.ensures.whole b.pooled

pub invariant_of-self-in_default-clause-kept : goal.invariant_of-self-in_default-clause-kept
invariant_of-self-in_default-clause-kept c =
    let b = c.args.self.now in
    let few = claimed_low (claims_of b) c.args.device c.requires.claimed in
    let low : c.from-place.result < length b.places.items = omega (arith, b.sixteen, c.from-place.ensures) in
    kept_given b.size b.served b.claimed b.places.items b.stints.items b.spooled.items b.asked b.words.items c.args.device c.from-place.result
    c.from-place.ensures low c.index_mut.result.now c.hand_over.new.self
    c.index_mut.ensures.value c.hand_over.ensures.own c.hand_over.ensures.kind b.stints.items b.kept

pub invariant_of-self-in_default-clause-lent : goal.invariant_of-self-in_default-clause-lent
invariant_of-self-in_default-clause-lent c =
    let b = c.args.self.now in
    let few = claimed_low (claims_of b) c.args.device c.requires.claimed in
    let low : c.from-place.result < length b.places.items = omega (arith, b.sixteen, c.from-place.ensures) in
    own_lent b.size b.served b.claimed b.places.items b.stints.items b.spooled.items b.asked b.words.items c.args.device c.from-place.result
    c.from-place.ensures low c.index_mut.result.now c.hand_over.new.self
    c.index_mut.ensures.value c.hand_over.ensures.own c.hand_over.ensures.kind c.in_default.ensures.none b.lent
