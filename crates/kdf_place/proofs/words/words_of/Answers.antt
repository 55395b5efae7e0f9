use Rattle.std.proofs.Common.{◌≡◌, ◌++◌, ◌∷◌, [], length, rules, arith}
use Rattle.std.specs.Slice.Iter.{chunks_rest}
use Rattle.kdf_place.specs.Placement.{words_of}
use Rattle.kdf_place.proofs.Packed.{word-more}
use Rattle.kdf_place.proofs.words.words_of.Goals as goal

pub loop-chunk-preserved-then-chunk-lt7 : goal.loop-chunk-preserved-then-chunk-lt7
loop-chunk-preserved-then-chunk-lt7 c =
    let words = c.loop-chunk.words.items in
    let steps = c.in-Some.ensures.steps in
    let pushed : c.push.new.self.items ≡ words ++ c.pack.result ∷ [] = search rules in
    let six : length c.in-Some.chunk.now ≡ 6 = omega arith in
    record {
      size = search rules;
      rest =
          word-more words c.push.new.self.items c.in-Some.chunk.now (chunks_rest c.next.new.self) (chunks_rest c.loop-chunk.chunk-iterator)
          (words_of c.args.syllables.now) c.pack.result
          pushed c.pack.ensures six steps.1.0 c.loop-chunk.invariant.rest;
    }
