use Rattle.kdf_snapshot.specs.Stores.{HasStore}
use Rattle.kdf_snapshot.proofs.Words.{all_shown}
use Rattle.kdf_snapshot.proofs.stores.dump.Goals as goal

pub write_stores-requires : goal.write_stores-requires
write_stores-requires c = rw c.deref.ensures.value (all_shown (HasStore c.args.machine.now) c.args.job.now.slots.items c.requires)
