use Rattle.std.proofs.Common.{◌≡◌, ℕ, ◌+◌, ◌-◌, ◌*◌, ◌≤◌, ◌∙◌, length, take, drop, ap, arith, length-drop}
use Rattle.std.proofs.lemmas.List.{take_all}
use Rattle.kdf_word.specs.Characters.{words_of}
use Rattle.kdf_lockout.specs.Groups.{with_lent_words}
use Rattle.kdf_transfer.specs.AtOnce.{at_addresses}
use Rattle.kdf_transfer.specs.InFlight.{put_words}
use Rattle.kdf_transfer.proofs.Runs.{group_next, up_all}
use Rattle.kdf_transfer.proofs.run.put_up.Goals as goal

pub loop-i-preserved : goal.loop-i-preserved
loop-i-preserved c =
    let codes = c.args.codes.now in
    let first = c.args.area.first in
    let from : ℕ = c.args.from in
    let total : ℕ = c.args.total in
    let i = c.loop-i.i in
    let n = c.min-count.result in
    let fits : i + n ≤ total = omega arith in
    let given : 8 * i ≤ length codes = omega (arith, c.requires.given, c.loop-i-test.true) in
    let h = c.loop-i.invariant.covers in
    record {
      lease =
          c.write_codes.ensures.written
          ∙ ap (λ k. with_lent_words k (first + i) (take n (words_of (take (length codes - 8 * i) (drop (8 * i) codes))))) c.loop-i.invariant.lease
          ∙ ap (λ xs. with_lent_words (put_words (take (i - from) (drop from (at_addresses first (take total (words_of codes))))) c.args.lease.now) (first + i)
          (take n (words_of xs))) (take_all (length codes - 8 * i) (drop (8 * i) codes) (omega (arith, length-drop (8 * i) codes)))
          ∙ group_next codes first total from i n c.args.lease.now c.loop-i.invariant.begun fits given;
      covers = record {
        rising = h.rising;
        first_group = c.write_codes.ensures.first ∙ h.first_group;
        count = c.write_codes.ensures.count ∙ h.count;
        few =
            h.few;
      };
      begun = omega arith;
      within = omega arith;
    }

pub returns : goal.returns
returns c =
    let codes = c.args.codes.now in
    let first = c.args.area.first in
    let from : ℕ = c.args.from in
    let total : ℕ = c.args.total in
    let all : c.loop-i.i ≡ total = omega (arith, c.loop-i-test.false, c.loop-i.invariant.within) in
    c.loop-i.invariant.lease
    ∙ ap (λ k. put_words (take (k - from) (drop from (at_addresses first (take total (words_of codes))))) c.args.lease.now) all
    ∙ up_all (words_of codes) first total from c.args.lease.now
