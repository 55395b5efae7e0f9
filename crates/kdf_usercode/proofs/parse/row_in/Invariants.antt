use Rattle.std.proofs.Common.{◌≡◌, map, drop}
use Rattle.kdf_usercode.specs.Parse.{row_in}
use Rattle.kdf_usercode.proofs.parse.row_in.Given as goal

abbrev pub invariant-loop-row : goal.invariant-loop-row
invariant-loop-row g l = row_in (map (λ row. (row.0.now, row.1)) (drop l.row-index l.rows)) l.text ≡ row_in (map (λ row. (row.0.now, row.1)) l.rows) l.text
