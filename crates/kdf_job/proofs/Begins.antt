-- Nothing is read.
use Rattle.std.proofs.Common.{[], refl, arith}
use Rattle.std.specs.List.{IsDistinct}
use Rattle.kdf_job.specs.Draft.{blank}
use Rattle.kdf_job.specs.Kept.{IsKept}

pub blank_sound : IsKept 0 [] blank
unfolding IsDistinct
blank_sound = record {
  sum = refl;
  all = refl;
  slots = record {
    each = λ k d lt. absurd (omega arith);
    rising = tt {0};
    fits = omega arith;
    apart = tt {0};
  };
  lent = λ k d lt. absurd (omega arith);
  owned = tt {0};
  schedule = record {
    each = λ k d lt. absurd (omega arith);
    few = omega arith;
    few_orders = omega arith;
    rising = tt {0};
  };
  begun = refl;
  placed = tt {0};
  untold = refl;
}
