use Rattle.std.proofs.Common.{◌≡◌, ◌*◌, ◌≤◌, ◌++◌, ◌∙◌, sym, ap, get_or, length, arith}
use Rattle.std.specs.Vec.{vec_capacity}
use Rattle.std.proofs.lemmas.List.{get_or_default}
use Rattle.kdf_word.specs.Characters.{codes_of, codes_of_all}
use Rattle.kdf_transfer.proofs.Codes.{codes_more}
use Rattle.kdf_transfer.proofs.OneStep.{room_for}
use Rattle.kdf_transfer.proofs.Stopping.{sent_last, sent_more, sent_end}
use Rattle.kdf_transfer.proofs.one_step.push_area.Goals as goal

pub push_codes-requires : goal.push_codes-requires
push_codes-requires c =
    let ws = c.args.words.now in
    let fits : 8 * length ws ≤ vec_capacity c.loop-word.block = omega (arith, c.requires.room, c.loop-word.invariant.room) in
    let h = room_for c.loop-word.block.items ws c.loop-word.word-index (vec_capacity c.loop-word.block) c.loop-word.invariant.block c.loop-word-test.true fits
    in
    omega (arith, h, c.loop-word.block.ok.0)

pub loop-word-preserved : goal.loop-word-preserved
loop-word-preserved c =
    let ws = c.args.words.now in
    let i = c.loop-word.word-index in
    let w = c.word-item.result in
    let is : w ≡ get_or ws i 0 = c.word-item.is ∙ get_or_default ws i w 0 c.loop-word-test.true in
    record {
      block =
          c.push_codes.ensures.items ∙ ap (λ xs. xs ++ codes_of w) c.loop-word.invariant.block
          ∙ codes_more ws i w c.loop-word-test.true is;
      sent = sent_more c.args.order ws i w c.requires.output c.loop-word-test.true is (sym c.is_last.ensures ∙ c.if-is_last.false) c.loop-word.invariant.sent;
      room = c.push_codes.ensures.capacity ∙ c.loop-word.invariant.room;
    }

pub returns-then-is_last : goal.returns-then-is_last
returns-then-is_last c =
    let ws = c.args.words.now in
    let i = c.loop-word.word-index in
    let w = c.word-item.result in
    let is : w ≡ get_or ws i 0 = c.word-item.is ∙ get_or_default ws i w 0 c.loop-word-test.true in
    c.push_codes.ensures.items ∙ ap (λ xs. xs ++ codes_of w) c.loop-word.invariant.block
    ∙ codes_more ws i w c.loop-word-test.true is
    ∙ ap codes_of_all (sym (sent_last c.args.order ws i w c.requires.output c.loop-word-test.true is (sym c.is_last.ensures ∙ c.if-is_last.true)
    c.loop-word.invariant.sent))

pub returns : goal.returns
returns c =
    let ws = c.args.words.now in
    let i = c.loop-word.word-index in
    c.loop-word.invariant.block ∙ ap codes_of_all (sym (sent_end c.args.order ws i (omega arith) c.loop-word.invariant.sent))
