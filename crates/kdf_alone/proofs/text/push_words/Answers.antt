use Rattle.std.proofs.Common.{◌≡◌, ◌*◌, ◌≤◌, ◌++◌, ◌∙◌, ap, get_or, length, arith}
use Rattle.std.specs.Vec.{vec_capacity}
use Rattle.std.proofs.lemmas.List.{get_or_default, take_all}
use Rattle.kdf_word.specs.Characters.{codes_of, codes_of_all}
use Rattle.kdf_transfer.proofs.Codes.{codes_more}
use Rattle.kdf_transfer.proofs.OneStep.{room_for}
use Rattle.kdf_alone.proofs.text.push_words.Goals as goal

pub push_codes-requires : goal.push_codes-requires
push_codes-requires c =
    let ws = c.args.words.now in
    let fits : 8 * length ws ≤ vec_capacity c.loop-word.block = omega (arith, c.requires.room, c.loop-word.invariant.room) in
    let h = room_for c.loop-word.block.items ws c.loop-word.word-index (vec_capacity c.loop-word.block) c.loop-word.invariant.block c.loop-word-test.true fits
    in
    omega (arith, h, c.loop-word.block.ok.0)

pub loop-word-preserved : goal.loop-word-preserved
loop-word-preserved c =
    let ws = c.args.words.now in
    let i = c.loop-word.word-index in
    let w = c.word-item.result in
    let is : w ≡ get_or ws i 0 = c.word-item.is ∙ get_or_default ws i w 0 c.loop-word-test.true in
    record {
      block =
          c.push_codes.ensures.items ∙ ap (λ xs. xs ++ codes_of w) c.loop-word.invariant.block
          ∙ codes_more ws i w c.loop-word-test.true is;
      room = c.push_codes.ensures.capacity ∙ c.loop-word.invariant.room;
    }

pub returns : goal.returns
returns c =
    c.loop-word.invariant.block
    ∙ ap codes_of_all (take_all c.loop-word.word-index c.args.words.now (omega arith))
