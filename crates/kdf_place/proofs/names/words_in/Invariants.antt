use Rattle.std.proofs.Common.{◌≡◌, ◌≤◌, ◌*◌, ◌^◌, take, sum}
use Rattle.kdf_place.proofs.names.words_in.Given as goal

abbrev pub invariant-loop-count : goal.invariant-loop-count
invariant-loop-count l = record {
  value : l.words ≡ sum (take l.count-index l.counts);
  near : l.words ≤ l.count-index * 2 ^ 32;
}
