use Rattle.std.proofs.Common.{◌≡◌, ◌++◌, ◌∷◌, [], rules}
use Rattle.kdf_place.proofs.Grown.{copies-more}
use Rattle.kdf_place.proofs.words.push_zeros.Goals as goal

pub loop-zero-preserved : goal.loop-zero-preserved
loop-zero-preserved c =
    let out = c.loop-zero.words.items in
    let pushed : c.push.new.self.items ≡ out ++ 0 ∷ [] = search rules in
    copies-more out c.push.new.self.items _ c.loop-zero._zero 0 pushed c.loop-zero.invariant
