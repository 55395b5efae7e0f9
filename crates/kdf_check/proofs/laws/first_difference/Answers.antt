use Rattle.std.proofs.Common.{refl}
use Rattle.kdf_check.proofs.Judging.{no_lem}
use Rattle.kdf_check.proofs.laws.first_difference.Goals as goal

pub returns-clause-yes : goal.returns-clause-yes
returns-clause-yes g c rule slots events J j = (J, j, refl)

pub returns-clause-no : goal.returns-clause-no
returns-clause-no g c rule is slots events lines J n j d = no_lem _ is.one slots events lines J j n d
