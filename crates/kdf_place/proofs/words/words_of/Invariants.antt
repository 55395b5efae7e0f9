use Rattle.std.proofs.Common.{◌≡◌, ◌++◌}
use Rattle.std.specs.Slice.Iter.{chunks_rest, chunks_size}
use Rattle.kdf_place.specs.Placement.{words_of}
use Rattle.kdf_place.proofs.words.words_of.Given as goal

abbrev pub invariant-loop-chunk : goal.invariant-loop-chunk
invariant-loop-chunk l = record {
  size : chunks_size l.chunk-iterator ≡ 6;
  rest : l.words.items ++ words_of (chunks_rest l.chunk-iterator) ≡ words_of l.syllables;
}
