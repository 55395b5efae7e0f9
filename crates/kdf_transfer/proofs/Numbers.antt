-- What stands at each place of a device.
use Rattle.std.proofs.Common.{◌≡◌, ℕ, ◌+◌, ◌<◌, ◌≤◌, List, [], ◌∷◌, ◌++◌, get_or, length, map, refl, sym, ap, ap₂, ◌∙◌, arith}
use Rattle.std.specs.List.{range_with_len}
use Rattle.std.proofs.lemmas.List.{get_or_past, map_push}
use Rattle.std.proofs.lemmas.List.FromFn.{length-map-range_with_len, get_or-map-range_with_len, map-range_with_len_more}
use Rattle.kdf_transfer.specs.ByNumber.{device_count, by_number}

pub limit_is : device_count ≡ 16
unfolding device_count
limit_is = refl

-- what stands at a number
pub number_at : {X : Type 0} (f : ℕ → X) (d : ℕ) (x : X) → d < device_count → get_or (by_number f) d x ≡ f d
unfolding by_number
number_at f d x lt = get_or-map-range_with_len f 0 device_count d d x lt (omega arith)

pub length-numbers : {X : Type 0} (f : ℕ → X) → length (by_number f) ≡ device_count
unfolding by_number
length-numbers f = length-map-range_with_len f 0 device_count

pub number_past : {X : Type 0} (f : ℕ → X) (d : ℕ) (x : X) → device_count ≤ d → get_or (by_number f) d x ≡ x
number_past f d x past = get_or_past (by_number f) d x (let e = length-numbers f in omega arith)

-- what stands at sixteen numbers
pub sixteen_numbers : {X : Type 0} (f : ℕ → X) → map f (range_with_len 0 16) ≡ by_number f
unfolding by_number
sixteen_numbers f = ap (λ n. map f (range_with_len 0 n)) (sym limit_is)

-- one place more
pub one_more : {X Y : Type 0} (f : X → Y) (g : ℕ → Y) (xs ys : List X) (x : X) (n : ℕ) → map f xs ≡ map g (range_with_len 0 n) → ys ≡ xs ++ x ∷ [] → f x ≡ g n
    → map f ys ≡ map g (range_with_len 0 (n + 1))
one_more f g xs ys x n so more is =
    ap (map f) more ∙ map_push f xs x ∙ ap₂ (λ a b. a ++ b ∷ []) so is ∙ sym (map-range_with_len_more g 0 n n (omega arith))
