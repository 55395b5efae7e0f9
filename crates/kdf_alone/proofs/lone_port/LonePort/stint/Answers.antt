use Rattle.std.specs.Prelude.{IfSome}
use Rattle.std.proofs.Common.{◌<◌, ℕ, true, false, Option, length, map, refl, sym, subst, arith}
use Rattle.std.proofs.lemmas.List.Elements.{All-get_or}
use Rattle.kdf_processor.specs.State.{Lending, lending_of, lendings}
use Rattle.kdf_processor.specs.Stints.{IsStint}
use Rattle.kdf_alone.specs.declared.lone_place.LonePlace.TheVariants.{Absent}
use Rattle.kdf_alone.specs.LonePort.{stock_of}
use Rattle.kdf_alone.specs.LonePlaces.{IsWhole, pool_kind_in}
use Rattle.kdf_alone.specs.Stints.{IsKept}
use Rattle.kdf_alone.proofs.Stints.{count_lent, pooled_number, stint_lent, told_given, told_held}
use Rattle.kdf_alone.proofs.lone_port.LonePort.stint.Goals as goal

pub index-stint-requires : goal.index-stint-requires
index-stint-requires c =
    let b = c.args.self.now in
    let Q : ℕ → Type 0 = λ n. c.args.i < n in
    let inside : c.args.i < length b.stints.items = subst Q (count_lent (stock_of b) b.stints.items refl) c.requires in
    omega (arith, b.stints.ok.0)

pub lent-requires : goal.lent-requires
lent-requires c =
    let b = c.args.self.now in
    let Q : ℕ → Type 0 = λ n. c.args.i < n in
    let inside : c.args.i < length b.stints.items = subst Q (count_lent (stock_of b) b.stints.items refl) c.requires in
    pooled_number b.places.items b.claimed b.stints.items c.args.i c.index-stint.result.now b.lent inside c.index-stint.ensures

pub returns-in-Some : goal.returns-in-Some
unfolding lendings
returns-in-Some c =
    let b = c.args.self.now in
    let x = c.index-stint.result.now in
    let Q : ℕ → Type 0 = λ n. c.args.i < n in
    let inside : c.args.i < length b.stints.items = subst Q (count_lent (stock_of b) b.stints.items refl) c.requires in
    let R : Option Lending → Type 0 = λ o. IfSome o (λ y. IsStint y x.d true c.in-Some.device) in
    let K : _ → Type 0 = IsKept (map pool_kind_in b.places.items) in
    subst R (sym (stint_lent (lending_of (stock_of b)) b.stints.items c.args.i x inside c.index-stint.ensures))
    (told_given (stock_of b) x c.in-Some.device c.in-Some.is (subst K (sym c.index-stint.ensures) (b.kept c.args.i x inside)))

pub returns-in-None : goal.returns-in-None
unfolding lendings
returns-in-None c =
    let b = c.args.self.now in
    let x = c.index-stint.result.now in
    let Q : ℕ → Type 0 = λ n. c.args.i < n in
    let inside : c.args.i < length b.stints.items = subst Q (count_lent (stock_of b) b.stints.items refl) c.requires in
    let R : Option Lending → Type 0 = λ o. IfSome o (λ y. IsStint y x.d false c.lent.result.now) in
    let low : x.d < length b.places.items =
    omega (arith, b.sixteen, b.lent.few x.d (pooled_number b.places.items b.claimed b.stints.items c.args.i x b.lent inside c.index-stint.ensures)) in
    subst R (sym (stint_lent (lending_of (stock_of b)) b.stints.items c.args.i x inside c.index-stint.ensures))
    (told_held b.size b.served b.claimed b.places.items b.stints.items b.spooled.items b.asked b.words.items x c.lent.result.now c.in-None.is c.lent.ensures
    (All-get_or IsWhole b.places.items x.d Absent low b.pooled))
