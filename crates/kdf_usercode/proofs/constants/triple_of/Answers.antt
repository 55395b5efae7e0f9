use Rattle.std.proofs.Common.{◌++◌}
use Rattle.kdf_usercode.specs.Constants.{item_ranges, behind_item}
use Rattle.kdf_usercode.proofs.Ranges.{ranges-apart}
use Rattle.kdf_usercode.proofs.constants.triple_of.Goals as goal

pub item_of-requires-2 : goal.item_of-requires-2
item_of-requires-2 c =
    let first = item_ranges c.args.c in
    let second = item_ranges c.args.i in
    let third = item_ranges c.args.m in
    let ns = c.args.numbers.now in
    rw c.behind_item-behind_c.ensures (ranges-apart second third (behind_item c.args.c ns) (ranges-apart first (second ++ third) ns c.requires).1).0

pub item_of-requires-3 : goal.item_of-requires-3
item_of-requires-3 c =
    let first = item_ranges c.args.c in
    let second = item_ranges c.args.i in
    let third = item_ranges c.args.m in
    let ns = c.args.numbers.now in
    rw (c.behind_item-behind_i.ensures, c.behind_item-behind_c.ensures)
    (ranges-apart second third (behind_item c.args.c ns) (ranges-apart first (second ++ third) ns c.requires).1).1
