use Rattle.std.proofs.Common.{rules}
use Rattle.std.proofs.lemmas.List.Sorted.{IsNonDecreasingBy-from_sort_by_key, answers_always}
use Rattle.kdf_place.specs.Keys.{key}
use Rattle.kdf_place.proofs.Stable.{first-stable, twice-stable}
use Rattle.kdf_place.proofs.table.sort.Goals as goal

pub returns-clause-rising : goal.returns-clause-rising
returns-clause-rising g c = IsNonDecreasingBy-from_sort_by_key key _ c.in_ok-sort_by_key.ensures.sorted (λ a r q k. search rules)

pub returns-clause-means : goal.returns-clause-means
returns-clause-means g c =
    λ p n. first-stable _ _ p n (c.in_ok-sort_by_key.ensures.stable key (answers_always _ _ _ (λ f a r q k. search rules)))

pub returns-clause-faults : goal.returns-clause-faults
returns-clause-faults g c =
    λ fault. twice-stable fault _ _ (c.in_ok-sort_by_key.ensures.stable key (answers_always _ _ _ (λ f a r q k. search rules)))
