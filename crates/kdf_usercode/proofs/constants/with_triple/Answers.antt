use Rattle.kdf_usercode.specs.Constants.{item_ranges}
use Rattle.kdf_usercode.proofs.Ranges.{three-parts}
use Rattle.kdf_usercode.proofs.constants.with_triple.Goals as goal

pub returns : goal.returns
returns c =
    three-parts c.args.best c.with_item-first.result c.with_item-second.result c.with_item.result c.args.place (item_ranges c.args.c) (item_ranges c.args.i)
    (item_ranges c.args.m) c.args.numbers.now c.behind_item-behind_c.result.now c.behind_item-behind_i.result.now
    c.with_item-first.ensures c.behind_item-behind_c.ensures c.with_item-second.ensures c.behind_item-behind_i.ensures c.with_item.ensures
