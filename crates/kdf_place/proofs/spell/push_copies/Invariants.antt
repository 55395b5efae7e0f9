use Rattle.std.proofs.Common.{◌≡◌, ◌++◌, replicate}
use Rattle.kdf_place.proofs.spell.push_copies.Given as goal

abbrev pub invariant-loop-copy : goal.invariant-loop-copy
invariant-loop-copy l = l.syllables.items ≡ l.fn.syllables.items ++ replicate l._copy l.syllable
