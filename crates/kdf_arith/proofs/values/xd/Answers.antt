use Rattle.std.proofs.Common.{arith}
use Rattle.kdf_arith.specs.Rows.{arith_row}
use Rattle.kdf_arith.proofs.PutOn.{put_on}
use Rattle.kdf_arith.proofs.values.xd.Goals as goal

pub returns : goal.returns
unfolding arith_row
returns c =
    rw c.in_ok-a.ensures.0 (put_on _ c.times-product.result.0 _ _ _ (omega (arith, c.in_ok-a.ensures.1)) c.times-product.ensures.value
    c.times-product.ensures.overflow c.push_double.ensures)
