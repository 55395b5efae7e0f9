use Rattle.std.proofs.Common.{[]}
use Rattle.kdf_usercode.specs.declared.fault.DeckFault.TheVariants.{PartTwice, ReferenceTwice, VRange}
use Rattle.kdf_place.specs.Layout.{front}
use Rattle.kdf_place.specs.Names.{openings, labels, constants}
use Rattle.kdf_place.specs.Late.{twice}
use Rattle.kdf_place.proofs.Piecewise.{least-three}
use Rattle.kdf_place.proofs.meanings.read_names.Goals as goal

pub returns-clause-twice : goal.returns-clause-twice
returns-clause-twice c =
    let ss = c.args.statements.now in
    least-three c.in_ok-parts.part_twice c.in_ok-in_image.label_twice c.in_ok-store_twice.store_twice c.first_of.result c.first_of-2.result
    (twice PartTwice [] (openings front ss)) (twice ReferenceTwice [] (labels front ss)) (twice VRange [] (constants front ss))
    c.in_ok-parts.ensures.twice c.in_ok-in_image.ensures.twice c.in_ok-store_twice.ensures
    c.first_of.ensures c.first_of-2.ensures
