use Rattle.std.proofs.Common.{arith}
use Rattle.kdf_arith.proofs.Turns.{turned_below, turned_shifted}
use Rattle.kdf_arith.proofs.bits.turned_by.Goals as goal

pub overflow_add-result : goal.overflow_add-result
overflow_add-result c =
    omega (
      arith,
      turned_shifted c.args.places c.args.bits c.requires.places c.requires.bits,
      turned_below c.args.places c.args.bits c.requires.places
          c.requires.bits,
    )

pub returns : goal.returns
returns c =
    record {
      value = turned_shifted c.args.places c.args.bits c.requires.places c.requires.bits;
      below = omega (
        arith,
        turned_shifted c.args.places c.args.bits c.requires.places c.requires.bits,
        turned_below c.args.places c.args.bits c.requires.places c.requires.bits,
      );
    }
