use Rattle.std.proofs.Common.{◌≡◌, ◌+◌, ◌-◌, ◌*◌, ◌++◌, ◌∙◌, ap, map, length, arith}
use Rattle.std.specs.List.{range_with_len}
use Rattle.kdf_word.specs.Characters.{codes_of, codes_of_all}
use Rattle.kdf_lockout.specs.Groups.{word_here}
use Rattle.kdf_places.proofs.AreaTexts.{here_at, length-text, text_more}
use Rattle.kdf_places.proofs.text.push_words.Goals as goal

pub word_there-word-requires : goal.word_there-word-requires
word_there-word-requires c =
    here_at c.args.store.now c.args.first c.args.last (c.args.first + c.loop-i.i) c.requires.area (omega arith) (omega arith)

pub push_codes-requires : goal.push_codes-requires
push_codes-requires c =
    let counted : length c.loop-i.block.items ≡ 8 * c.loop-i.i = ap length c.loop-i.invariant.block
    ∙ length-text (word_here c.args.store.now) c.args.first c.loop-i.i in
    omega (arith, counted, c.requires.room, c.loop-i.invariant.room, c.loop-i.block.ok.0)

pub loop-i-preserved : goal.loop-i-preserved
loop-i-preserved c =
    let f = word_here c.args.store.now in
    let i = c.loop-i.i in
    record {
      block =
          c.push_codes.ensures.items
          ∙ ap (λ xs. xs ++ codes_of c.word_there-word.result) c.loop-i.invariant.block
          ∙ ap (λ w. codes_of_all (map f (range_with_len c.args.first i)) ++ codes_of w) c.word_there-word.ensures
          ∙ text_more f c.args.first i;
      room = c.push_codes.ensures.capacity ∙ c.loop-i.invariant.room;
    }

pub returns : goal.returns
returns c =
    let rising = c.requires.area.rising in
    let all : c.loop-i.i ≡ c.args.last + 1 - c.args.first = omega arith in
    c.loop-i.invariant.block ∙ ap (λ n. codes_of_all (map (word_here c.args.store.now) (range_with_len c.args.first n))) all
