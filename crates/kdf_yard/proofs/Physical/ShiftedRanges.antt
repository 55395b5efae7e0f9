-- Numbers that are found, as the range is shifted.
use Rattle.std.specs.Prelude.{find}
use Rattle.std.specs.Option.{option_map}
use Rattle.std.proofs.Common.{◌≡◌, ℕ, zero, suc, ◌+◌, ◌-◌, ◌≤◌, Bool, true, false, Option, Some, None, cond, refl, ap, ◌∙◌, arith}
use Rattle.std.specs.List.{range_with_len}

-- a range that is shifted
pub find_shift : (p : ℕ → Bool) (b f n : ℕ) → find p (range_with_len (b + f) n) ≡ option_map (λ g. b + g) (find (λ g. p (b + g)) (range_with_len f n))
find_shift p b f zero = refl
find_shift p b f (suc n) =
    let e : b + f + 1 ≡ b + (f + 1) = omega arith in
    ap (λ k. cond (p (b + f)) (Some (b + f)) (find p (range_with_len k n))) e
    ∙ ap (cond (p (b + f)) (Some (b + f))) (find_shift p b (f + 1) n)
    ∙ at_bool (p (b + f)) (find (λ g. p (b + g)) (range_with_len (f + 1) n))
  where
    at_bool : (t : Bool) (o : Option ℕ) → cond t (Some (b + f)) (option_map (λ g. b + g) o) ≡ option_map (λ g. b + g) (cond t (Some f) o)
    at_bool true o = refl
    at_bool false o = refl

-- what was found at the shifted range
pub found_shift : (b g : ℕ) (o : Option ℕ) → Some g ≡ option_map (λ k. b + k) o → o ≡ Some (g - b)
found_shift b g None is = cc
found_shift b g (Some k) is = let e : g ≡ b + k = cc in ap Some (omega arith)

pub none_shift : (b : ℕ) (o : Option ℕ) → None ≡ option_map (λ k. b + k) o → o ≡ None
none_shift b None is = refl
none_shift b (Some k) is = cc

pub found_low : (b g : ℕ) (o : Option ℕ) → Some g ≡ option_map (λ k. b + k) o → b ≤ g
found_low b g None is = cc
found_low b g (Some k) is = let e : g ≡ b + k = cc in omega arith
