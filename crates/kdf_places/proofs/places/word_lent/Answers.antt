use Rattle.std.proofs.Common.{◌≡◌, ◌-◌, ◌<◌, suc, length, map, ap, sym, ◌∙◌, arith}
use Rattle.std.proofs.lemmas.List.{get_or_default}
use Rattle.kdf_places.specs.declared.place.Place.TheVariants.{Absent}
use Rattle.kdf_places.specs.Words.{word_out}
use Rattle.kdf_places.specs.Spots.{spot_of, leases_of}
use Rattle.kdf_transfer.proofs.Numbers.{limit_is}
use Rattle.kdf_places.proofs.PlacesGivenUp.{lent_is, out_here, out_below}
use Rattle.kdf_places.proofs.places.word_lent.Goals as goal

pub loop-d-init : goal.loop-d-init
loop-d-init c =
    record {
      within = omega (arith, c.requires);
      same = ap (λ n. word_out n (leases_of (map spot_of c.args.places.now)) c.args.place) (limit_is ∙ sym c.requires);
    }

pub returns-in-Some : goal.returns-in-Some
returns-in-Some c =
    let more : c.loop-d.d ≡ suc (c.loop-d.d - 1) = omega (arith, c.loop-d-test.true) in
    let lt : c.loop-d.d - 1 < length c.args.places.now = omega (arith, c.requires, c.loop-d.invariant.within, c.loop-d-test.true) in
    out_here (leases_of (map spot_of c.args.places.now)) c.args.place c.loop-d.d (c.loop-d.d - 1) c.in-Some.word more
    (sym c.in-Some.is ∙ lent_is c.args.places.now c.args.place (c.loop-d.d - 1) c.index-places-d.result c.lent.result
    (c.index-places-d.is ∙ get_or_default c.args.places.now (c.loop-d.d - 1) _ Absent lt) c.lent.ensures)
    ∙ sym c.loop-d.invariant.same

pub loop-d-preserved : goal.loop-d-preserved
loop-d-preserved c =
    let more : c.loop-d.d ≡ suc (c.loop-d.d - 1) = omega (arith, c.loop-d-test.true) in
    let lt : c.loop-d.d - 1 < length c.args.places.now = omega (arith, c.requires, c.loop-d.invariant.within, c.loop-d-test.true) in
    record {
      within = omega (arith, c.loop-d.invariant.within);
      same =
          c.loop-d.invariant.same
          ∙ out_below (leases_of (map spot_of c.args.places.now)) c.args.place c.loop-d.d (c.loop-d.d - 1) more
          (sym c.in_default.is ∙ lent_is c.args.places.now c.args.place (c.loop-d.d - 1) c.index-places-d.result c.lent.result
          (c.index-places-d.is ∙ get_or_default c.args.places.now (c.loop-d.d - 1) _ Absent lt) c.lent.ensures);
    }
