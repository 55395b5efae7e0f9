use Rattle.kdf_place.specs.Late.{item_faults}
use Rattle.kdf_place.specs.Tables.{meaning}
use Rattle.kdf_place.proofs.Piecewise.{founds-three}
use Rattle.kdf_place.proofs.names.Meanings.with_value.Goals as goal

pub returns-in-Triple : goal.returns-in-Triple
returns-in-Triple c =
    let faults = item_faults (meaning c.args.self.now) c.args.section in
    rw c.in-Triple.is (founds-three c.args.place c.args.best c.with_item-best.result c.with_item-best-in-Triple.result c.with_item.result
    (faults c.in-Triple.c) (faults c.in-Triple.i) (faults c.in-Triple.m) c.with_item-best.ensures c.with_item-best-in-Triple.ensures c.with_item.ensures)
