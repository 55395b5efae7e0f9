use Rattle.kdf_theory.proofs.Corollaries.StintsHeld.{no_stint, one_stint}
use Rattle.kdf_director.proofs.laws.stints_held.Goals as goal

pub returns-clause-claimed : goal.returns-clause-claimed
returns-clause-claimed c slot answers n d is pooled claimed = one_stint slot is answers n d pooled claimed

pub returns-clause-free : goal.returns-clause-free
returns-clause-free c slot answers n d is pooled free = no_stint slot is answers n d pooled free
