use Rattle.std.proofs.Common.{◌≡◌, ◌-◌, None}
use Rattle.std.specs.Prelude.{find, slice_index_or}
use Rattle.std.specs.List.{range_with_len}
use Rattle.kdf_processor.specs.View.{head}
use Rattle.kdf_check.specs.Around.{is_of, mine_in}
use Rattle.kdf_check.proofs.table.Table.first_own.Given as goal

abbrev pub invariant-loop-d : goal.invariant-loop-d
invariant-loop-d l = head (mine_in l.p l.self.places) ≡ find (λ d. is_of l.p (slice_index_or l.self.places d None)) (range_with_len l.d (16 - l.d))
