use Rattle.std.proofs.Common.{◌≡◌, ℕ, ◌-◌, ◌*◌, ◌/◌, ◌∙◌, ◌++◌, length, replicate, take, vec_len, ap, ap₂, sym, arith}
use Rattle.std.proofs.lemmas.List.FromFn.{length-map-range_with_len}
use Rattle.kdf_word.specs.Characters.{codes_of_all}
use Rattle.kdf_lockout.specs.Groups.{lent_word}
use Rattle.kdf_transfer.specs.Runs.{lent_words}
use Rattle.kdf_transfer.proofs.Runs.{codes_first}
use Rattle.kdf_transfer.proofs.run.push_run.Goals as goal

pub put_area-requires-clause-block : goal.put_area-requires-clause-block
put_area-requires-clause-block c =
    let l = c.args.lease.now in
    let first = c.args.area.first in
    let from : ℕ = c.args.from in
    let total : ℕ = c.args.total in
    let many = length-map-range_with_len (lent_word l) first total in
    let size : total ≡ length c.deref_mut.result.now / 8 = omega (arith, ap length c.deref_mut.ensures.value, c.in-Ok.ensures.len, c.from.ensures) in
    let old = c.args.block.now.items in
    let len : vec_len c.args.block.now ≡ length old = omega (arith, c.args.block.now.ok.0) in
    let items =
    c.deref_mut.ensures.value ∙ c.in-Ok.ensures.items
    ∙ ap (λ n. take (8 * n) old ++ replicate (8 * n - vec_len c.args.block.now) 0) c.from.ensures
    ∙ ap (λ k. take (8 * total) old ++ replicate (8 * total - k) 0) len in
    ap (λ n. take (8 * n) c.deref_mut.result.now) c.from-2.ensures
    ∙ codes_first c.args.block.now.items c.deref_mut.result.now (lent_words l first total) from total c.requires.block c.requires.from many items
    ∙ ap₂ (λ n m. codes_of_all (take n (lent_words l first m))) (sym c.from-2.ensures) size
