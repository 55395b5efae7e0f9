use Rattle.std.specs.Option.{option_copied}
use Rattle.std.specs.Prelude.{find, IfSome, IsSomeAnd}
use Rattle.std.proofs.Common.{◌≡◌, ◌<◌, eqb, get_or, is_some, length, map, Some, sym, ap, ◌∙◌, subst, arith}
use Rattle.std.proofs.lemmas.List.{get_or-map, length-map}
use Rattle.kdf_yard.specs.Fields.Owners.{HasLent}
use Rattle.kdf_places.specs.Spots.{spot_at, spot_of}
use Rattle.kdf_yard.specs.Fields.Stints.{Keeping, is_lent, keeping_of}
use Rattle.kdf_yard.specs.declared.program.Program.{Program}
use Rattle.kdf_yard.proofs.shown.stint_in.Goals as goal

pub stint_told-requires : goal.stint_told-requires
stint_told-requires c =
    let p : Program = c.in-Some.program.now in
    let places = map spot_of c.args.places.now in
    let x = c.index.result.now in
    let found : find (λ (y : Program). eqb y.p c.args.p) c.args.programs.now ≡ Some p = sym c.program_of.ensures ∙ ap option_copied c.in-Some.is in
    let lt : c.args.i < length p.stints.items = subst (λ o. IsSomeAnd o (λ (y : Program). c.args.i < length y.stints.items)) found c.requires.there in
    let all : HasLent places (map keeping_of p.stints.items) = subst (λ o. IfSome o (λ (y : Program). HasLent places (map keeping_of y.stints.items))) found
    c.requires.lent in
    let at : get_or (map keeping_of p.stints.items) c.args.i (keeping_of x) ≡ keeping_of x = get_or-map keeping_of p.stints.items c.args.i x (keeping_of x) lt
    ∙ ap keeping_of (sym c.index.ensures) in
    λ lent.
    ap (λ (y : Keeping). is_some (spot_at places y.device).fixture) (sym at)
    ∙ all c.args.i (keeping_of x) (omega (arith, length-map p.stints.items keeping_of)) (ap (λ (y : Keeping). is_lent y.loan) at ∙ lent)
