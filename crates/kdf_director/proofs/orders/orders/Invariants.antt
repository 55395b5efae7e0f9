use Rattle.std.proofs.Common.{◌-◌, ◌<◌, ◌≤◌}
use Rattle.kdf_director.specs.Fields.Agrees.{IsReady}
use Rattle.kdf_director.specs.Fields.Viewed.{shown_of}
use Rattle.kdf_director.specs.Halts.{ArePassed}
use Rattle.kdf_director.specs.Runs.{HasMadeOn}
use Rattle.kdf_director.proofs.orders.orders.Given as goal

abbrev pub invariant-loop-made : goal.invariant-loop-made
invariant-loop-made g l =
    record {
      some : 0 < l.left;
      within : l.left ≤ l.fn.left;
      ready : IsReady l.yard l.journal l.room;
      made : HasMadeOn (λ n a. goal.F-post g l.service n a) (l.fn.left - l.left) (shown_of l.fn.yard l.fn.journal l.room) (shown_of l.yard l.journal l.room);
      passed : ArePassed (λ n a. goal.F-post g l.service n a) l.halt (l.fn.left - l.left) (shown_of l.fn.yard l.fn.journal l.room)
          (shown_of l.yard l.journal l.room);
    }

abbrev pub decreases-loop-made : goal.decreases-loop-made
decreases-loop-made g l = l.left
