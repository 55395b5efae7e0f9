use Rattle.std.proofs.Common.{◌≡◌, take}
use Rattle.kdf_word.specs.Characters.{words_of}
use Rattle.kdf_lockout.specs.Groups.{with_words}
use Rattle.kdf_lockout.proofs.group.Group.set_codes.Given as goal

abbrev pub invariant-loop-k : goal.invariant-loop-k
invariant-loop-k l = l.self ≡ with_words l.initial.self l.i (take l.k (words_of l.codes))
