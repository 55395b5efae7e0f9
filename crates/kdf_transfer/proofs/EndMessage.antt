-- The characters up to an End Message.
use Rattle.std.proofs.Common.{◌≡◌, ℕ, ◌<◌, Bool, true, false, List, [], ◌∷◌, length, take, cond, eqb, refl, ap, subst}
use Rattle.std.specs.List.{All}
use Rattle.std.specs.Io.BufRead.{take_through}
use Rattle.std.proofs.lemmas.List.Elements.{All-take}

-- they are the first of all
through_more : (b : Bool) (c : ℕ) (codes rest : List ℕ) → take (length rest) codes ≡ rest → take (length (cond b (c ∷ []) (c ∷ rest))) (c ∷ codes)
    ≡ cond b (c ∷ []) (c ∷ rest)
through_more true c codes rest e = refl
through_more false c codes rest e = ap (λ cs. c ∷ cs) e

pub through_front : (codes : List ℕ) → take (length (take_through 61 codes)) codes ≡ take_through 61 codes
through_front [] = refl
through_front (c ∷ codes) = through_more (eqb c 61) c codes (take_through 61 codes) (through_front codes)

-- and codes as all are
pub small_through : (codes : List ℕ) → All (λ c. c < 64) codes → All (λ c. c < 64) (take_through 61 codes)
small_through codes small = subst (All (λ c. c < 64)) (through_front codes) (All-take (λ c. c < 64) (length (take_through 61 codes)) codes small)
