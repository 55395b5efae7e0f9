use Rattle.kdf_theory.proofs.Corollaries.BusyDevices.{busy_held}
use Rattle.kdf_theory.proofs.Course.DevicesHeld.{legal_held, legal_taken}
use Rattle.kdf_director.proofs.laws.journals.holders.Goals as goal

pub returns-clause-held : goal.returns-clause-held
returns-clause-held c slots J p d are l truly pooled live = legal_held slots J are l truly p d pooled live

pub returns-clause-taken : goal.returns-clause-taken
returns-clause-taken c slots J p heard kind are l truly live free = legal_taken slots J are l truly p heard kind live free

pub returns-clause-busy : goal.returns-clause-busy
returns-clause-busy c slots J p d k are l truly pooled busy = busy_held slots J are l truly p d k pooled busy
