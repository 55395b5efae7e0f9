use Rattle.std.proofs.Common.{refl}
use Rattle.kdf_yard.proofs.Loading.StoreFilled.{ok_zero}
use Rattle.kdf_yard.proofs.fill.zero_store.Goals as goal
use Rattle.kdf_limits.specs.declared.store.TheConstants.{STORE_GROUPS}

pub returns-clause-cells : goal.returns-clause-cells
returns-clause-cells c = ok_zero STORE_GROUPS c.new.result refl c.new.ensures
