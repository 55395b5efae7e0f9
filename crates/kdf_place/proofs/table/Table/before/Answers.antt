use Rattle.std.proofs.Common.{◌≡◌, ltb, rules}
use Rattle.std.proofs.lemmas.List.Sorted.{IsPartitionPoint-from_clause, IsPartitionedBy-ltb}
use Rattle.std.specs.List.Sorted.{IsNonDecreasingBy}
use Rattle.kdf_place.specs.Keys.{key_of, key}
use Rattle.kdf_place.proofs.Firsts.{same-point}
use Rattle.kdf_place.proofs.table.Table.before.Goals as goal

pub returns-clause-point : goal.returns-clause-point
returns-clause-point g c =
    let es = c.args.self.now.entries.items in
    let now = c.as_slice-entries.result.now in
    let same : now ≡ es = c.as_slice-entries.ensures.value in
    let rising : IsNonDecreasingBy key now = rw same (search rules) in
    let k = c.key_of-key.result in
    let point = IsPartitionPoint-from_clause (λ e. ltb (key e) k) now _ c.partition_point.ensures.partitioned (IsPartitionedBy-ltb key now k rising)
    (λ a r q h. search rules) in
    same-point es now k (key_of c.args.section c.args.number) _ same c.key_of-key.ensures point
