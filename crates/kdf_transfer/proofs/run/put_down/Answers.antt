use Rattle.std.proofs.Common.{◌≡◌, ℕ, ◌+◌, ◌-◌, ◌*◌, ◌/◌, ◌<◌, ◌≤◌, ◌∙◌, true, Some, length, take, drop, ap, sym, subst, arith, length-drop}
use Rattle.std.proofs.lemmas.List.{take_all}
use Rattle.std.specs.Prelude.{reverse}
use Rattle.kdf_word.specs.Characters.{first_word, words_of}
use Rattle.kdf_word.proofs.Packing.{length-words_of}
use Rattle.kdf_lockout.specs.Groups.{with_lent_word}
use Rattle.kdf_transfer.specs.AtOnce.{down_addresses}
use Rattle.kdf_transfer.specs.InFlight.{Covers, put_words}
use Rattle.kdf_transfer.proofs.Runs.{down_next, down_all}
use Rattle.kdf_transfer.proofs.Words.{covers-written}
use Rattle.kdf_transfer.proofs.run.put_down.Goals as goal

pub overflow_sub-count : goal.overflow_sub-count
overflow_sub-count c = omega (arith, c.div_ceil-count.ensures, c.requires.given, c.loop-i-test.true, c.from-i-end.ensures)

pub overflow_sub-count-in-loop-i : goal.overflow_sub-count-in-loop-i
overflow_sub-count-in-loop-i c = omega (arith, c.div_ceil-count.ensures, c.requires.given, c.loop-i-test.true, c.from-i-end.ensures)

pub loop-i-preserved : goal.loop-i-preserved
loop-i-preserved c =
    let codes = c.args.codes.now in
    let last = c.args.area.last in
    let from : ℕ = c.args.from in
    let total : ℕ = c.args.total in
    let i = c.loop-i.i in
    let w = c.of_codes.result in
    let below : i < total = omega (arith, c.loop-i-test.true, c.from-i-end.ensures) in
    let above : from ≤ i = omega (arith, c.loop-i.auto.i, c.from-i.ensures) in
    let given : total ≤ length (words_of codes) = omega (arith, length-words_of codes, c.requires.given) in
    let at : ℕ = 8 * (c.div_ceil-count.result - 1 - i) in
    let count : c.div_ceil-count.result ≡ (length codes + 7) / 8 = omega (arith, c.div_ceil-count.ensures) in
    record {
      lease =
          c.write.ensures.written
          ∙ ap (λ k. with_lent_word k (last - i) w) c.loop-i.invariant.lease
          ∙ down_next codes last total from i w c.args.lease.now above below given
          (c.of_codes.ensures ∙ ap first_word (take_all (length codes - at) (drop at codes) (omega (arith, length-drop at codes)))
          ∙ ap (λ k. first_word (drop (8 * (k - 1 - i)) codes)) count);
      covers = subst (λ k. Covers (Some k) c.args.area.first c.args.area.last) (sym c.write.ensures.written)
          (covers-written true (last - i) w c.args.area.first c.args.area.last (Some c.loop-i.lease) c.loop-i.invariant.covers);
    }

pub returns : goal.returns
returns c =
    let codes = c.args.codes.now in
    let last = c.args.area.last in
    let from : ℕ = c.args.from in
    let total : ℕ = c.args.total in
    let all : c.loop-i.i ≡ total = omega (
      arith,
      c.loop-i-test.false,
      c.loop-i.auto.i-end,
      c.loop-i.auto.i,
      c.from-i-end.ensures,
      c.from-i.ensures,
      c.requires.from,
    ) in
    c.loop-i.invariant.lease
    ∙ ap (λ k. put_words (take (k - from) (drop from (down_addresses last (take total (reverse (words_of codes)))))) c.args.lease.now) all
    ∙ down_all (reverse (words_of codes)) last total from c.args.lease.now
