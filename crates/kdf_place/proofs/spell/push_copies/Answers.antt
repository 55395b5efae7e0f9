use Rattle.std.proofs.Common.{◌≡◌, ◌++◌, ◌∷◌, [], rules}
use Rattle.kdf_place.proofs.Grown.{copies-more}
use Rattle.kdf_place.proofs.spell.push_copies.Goals as goal

pub loop-copy-preserved : goal.loop-copy-preserved
loop-copy-preserved c =
    let out = c.loop-copy.syllables.items in
    let pushed : c.push.new.self.items ≡ out ++ c.args.syllable ∷ [] = search rules in
    copies-more out c.push.new.self.items _ c.loop-copy._copy c.args.syllable pushed c.loop-copy.invariant
