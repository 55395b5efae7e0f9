use Rattle.std.proofs.Common.{ℕ, ◌+◌, ◌/◌, ◌≤◌, ◌∙◌, length, take, ap, sym, arith}
use Rattle.std.proofs.lemmas.List.FromFn.{length-map-range_with_len}
use Rattle.kdf_word.specs.Characters.{codes_of_all}
use Rattle.kdf_lockout.specs.Groups.{lent_word}
use Rattle.kdf_transfer.specs.Runs.{lent_words}
use Rattle.kdf_transfer.proofs.Runs.{codes_all}
use Rattle.kdf_transfer.proofs.run.put_area.Goals as goal

pub put_group-requires-clause-block : goal.put_group-requires-clause-block
put_group-requires-clause-block c =
    c.loop-i.invariant.block
    ∙ ap (λ n. codes_of_all (take c.loop-i.i (lent_words c.args.lease.now c.args.area.first (n / 8)))) (sym c.loop-i.invariant.size)

pub loop-i-preserved : goal.loop-i-preserved
loop-i-preserved c =
    record {
      block =
          c.put_group.ensures.block
          ∙ ap (λ n. codes_of_all (take (c.loop-i.i + c.min-count.result) (lent_words c.args.lease.now c.args.area.first (n / 8)))) c.loop-i.invariant.size;
      size = c.put_group.ensures.size ∙ c.loop-i.invariant.size;
      within = omega arith;
    }

pub returns : goal.returns
returns c =
    let l = c.args.lease.now in
    let first = c.args.area.first in
    let n : ℕ = length c.args.block.now / 8 in
    let many = length-map-range_with_len (lent_word l) first n in
    let past : n ≤ c.loop-i.i = omega (arith, c.loop-i-test.false) in
    codes_all c.loop-i.block (lent_words l first n) c.loop-i.i c.loop-i.invariant.block (omega (arith, c.loop-i.invariant.size, c.requires.whole))
    (omega (arith, many))
