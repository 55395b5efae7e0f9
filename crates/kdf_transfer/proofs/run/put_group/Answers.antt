use Rattle.std.proofs.Common.{◌≡◌, ℕ, ◌+◌, ◌*◌, ◌/◌, ◌%◌, ◌<◌, ◌≤◌, ◌∙◌, length, get_or, take, refl, ap, sym, arith}
use Rattle.std.proofs.lemmas.List.FromFn.{length-map-range_with_len, get_or-map-range_with_len}
use Rattle.kdf_word.specs.Characters.{codes_of_all}
use Rattle.kdf_lockout.specs.Groups.{lent_word}
use Rattle.kdf_transfer.specs.Runs.{lent_words}
use Rattle.kdf_transfer.proofs.Runs.{codes_next, length-next, word_of_group}
use Rattle.kdf_transfer.proofs.run.put_group.Goals as goal

pub loop-k-init : goal.loop-k-init
loop-k-init c =
    let n : ℕ = length c.args.block.now / 8 in
    let e : c.args.from ≡ c.args.from + 0 = omega arith in
    record {
      block =
          ap (λ i. take (8 * i) c.args.block.now) (sym e) ∙ c.requires.block
          ∙ ap (λ i. codes_of_all (take i (lent_words c.args.lease.now c.args.area.first n))) e;
      size = refl;
    }

pub loop-k-preserved : goal.loop-k-preserved
loop-k-preserved c =
    let l = c.args.lease.now in
    let first = c.args.area.first in
    let from = c.args.from in
    let n : ℕ = length c.args.block.now / 8 in
    let i : ℕ = from + c.loop-k.k in
    let w = c.word.result in
    let many = length-map-range_with_len (lent_word l) first n in
    let low : i < n = omega (arith, c.loop-k-test.true, c.requires.fits) in
    let inside : i < length (lent_words l first n) = omega (arith, many) in
    let fits : 8 * i + 8 ≤ length c.loop-k.block = omega (arith, c.loop-k.invariant.size) in
    let one : (first + from) % 32 + c.loop-k.k < 32 = omega (arith, c.loop-k-test.true, c.requires.group) in
    let is : w ≡ get_or (lent_words l first n) i 0 =
    c.word.ensures.value
    ∙ ap (λ ws. get_or ws ((first + from) % 32 + c.loop-k.k) 0) c.group-group.ensures
    ∙ word_of_group l first from c.loop-k.k c.requires.area.first_group one
    ∙ sym (get_or-map-range_with_len (lent_word l) first n i (first + i) 0 low refl) in
    let next : i + 1 ≡ from + (c.loop-k.k + 1) = omega arith in
    record {
      block =
          ap (λ j. take (8 * j) c.put_codes.new.block) (sym next)
          ∙ codes_next c.loop-k.block c.put_codes.new.block (lent_words l first n) i w c.loop-k.invariant.block inside is fits c.put_codes.ensures
          ∙ ap (λ j. codes_of_all (take j (lent_words l first n))) next;
      size = length-next c.loop-k.block c.put_codes.new.block i w fits c.put_codes.ensures ∙ c.loop-k.invariant.size;
    }
