use Rattle.std.proofs.Common.{◌≡◌, map, take, string_bytes}
use Rattle.kdf_engine.proofs.words.own_words.Given as goal

abbrev pub invariant-loop-word : goal.invariant-loop-word
invariant-loop-word l = map string_bytes l.all.items ≡ map (λ x. x.now) (take l.word-index l.words)
