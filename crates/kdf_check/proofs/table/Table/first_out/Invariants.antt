use Rattle.std.proofs.Common.{◌≡◌, ◌+◌, ◌-◌, ◌/◌}
use Rattle.std.specs.Prelude.{find}
use Rattle.std.specs.List.{range_with_len}
use Rattle.kdf_processor.specs.View.{groups_of}
use Rattle.kdf_check.specs.Around.{is_out_in}
use Rattle.kdf_check.proofs.table.Table.first_out.Given as goal

abbrev pub invariant-loop-group : goal.invariant-loop-group
invariant-loop-group l =
    find (is_out_in l.p l.self.places) (groups_of l.first l.last) ≡ find (is_out_in l.p l.self.places) (range_with_len l.group (l.last / 32 + 1 - l.group))
