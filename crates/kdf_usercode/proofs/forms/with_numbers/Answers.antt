use Rattle.kdf_usercode.specs.Constants.{value_ranges}
use Rattle.kdf_usercode.specs.Range.{store_range}
use Rattle.kdf_usercode.proofs.Ranges.{one-more}
use Rattle.kdf_usercode.proofs.forms.with_numbers.Goals as goal

pub returns-in-Constant : goal.returns-in-Constant
returns-in-Constant c =
    rw c.in-Constant.is (one-more c.args.best c.with_range-first.result c.args.place c.number.result store_range (value_ranges c.in-Constant.value)
    c.args.numbers.now c.behind_first.result.now c.with_value.result
    c.with_range-first.ensures c.number.ensures c.behind_first.ensures c.with_value.ensures)
