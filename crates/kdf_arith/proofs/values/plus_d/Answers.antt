use Rattle.std.proofs.Common.{arith}
use Rattle.kdf_arith.specs.Rows.{arith_row}
use Rattle.kdf_arith.proofs.PutOn.{put_on}
use Rattle.kdf_arith.proofs.values.plus_d.Goals as goal

pub returns : goal.returns
unfolding arith_row
returns c =
    let value = rw (c.of.ensures, c.of-2.ensures) at c.add-sum.ensures.value in
    let flag = rw (c.of.ensures, c.of-2.ensures) at c.add-sum.ensures.overflow in
    rw c.in_ok-a.ensures.0 (put_on _ c.add-sum.result.0 _ _ _ (omega (arith, c.in_ok-a.ensures.1)) value flag c.push_double.ensures)
