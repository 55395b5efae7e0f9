use Rattle.std.proofs.Common.{sym, ap, subst}
use Rattle.kdf_director.specs.Fields.Agrees.{IsReady}
use Rattle.kdf_yard.specs.Fields.Standing.{Standing}
use Rattle.kdf_director.specs.Fields.Viewed.{shown_of}
use Rattle.kdf_director.proofs.machine.machine_of.Goals as goal

pub invariant_of-result : goal.invariant_of-result
invariant_of-result c =
    record {
      yard = c.yard.invariant;
      ready = subst (λ (y : Standing). IsReady y c.args.journal c.args.room) (sym c.yard.view_is) c.requires.ready;
    }

pub returns : goal.returns
returns c = record { shown = ap (λ (y : Standing). shown_of y c.args.journal c.args.room) c.yard.view_is }
