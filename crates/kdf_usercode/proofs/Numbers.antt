-- Numbers that are read with a cap on the way.
use Rattle.std.proofs.Common.{◌≡◌, ℕ, ◌+◌, ◌*◌, ◌-◌, ◌<◌, length, get_or, drop, map, Bool, true, false, cond, List, [], ◌∷◌, ◌++◌, refl, ap, ◌∙◌, arith}
use Rattle.std.proofs.lemmas.List.{at_drop_more}
use Rattle.kdf_usercode.specs.Shape.{is_digit, ends_number, value_after, values_from}
use Rattle.kdf_usercode.specs.Capped.{capped}

capped-next : (d n m : ℕ) → capped n ≡ capped m → capped (10 * n + d) ≡ capped (10 * m + d)
capped-next d n m e = omega arith

capped-value : (c n m : ℕ) → capped n ≡ capped m → capped (value_after n c) ≡ capped (value_after m c)
capped-value c n m e =
    elim (is_digit c) as (λ b. capped (cond b (10 * n + (c - 48)) 0) ≡ capped (cond b (10 * m + (c - 48)) 0))
    [ true ↦ capped-next (c - 48) n m e | false ↦ refl ]

values-capped : (cs : List ℕ) (n m : ℕ) → capped n ≡ capped m
    → map capped (values_from n cs) ≡ map capped (values_from m cs)
values-capped [] n m e = refl
values-capped (c ∷ cs) n m e =
    let next = capped-value c n m e in
    elim (ends_number c cs)
    as (λ b. map capped (cond b (value_after n c ∷ []) [] ++ values_from (cond b 0 (value_after n c)) cs) ≡ map capped
    (cond b (value_after m c ∷ []) [] ++ values_from (cond b 0 (value_after m c)) cs)) [
      | true ↦ ap (λ x. x ∷ map capped (values_from 0 cs)) next
      | false ↦ values-capped cs (value_after n c) (value_after m c) next
    ]

capped-capped : (n : ℕ) → capped n ≡ capped (capped n)
capped-capped n = omega arith

pub numbers-step : (text : List ℕ) (i value : ℕ) (ends : Bool) → i < length text
    → ends ≡ ends_number (get_or text i 0) (drop (i + 1) text)
    → map capped (values_from value (drop i text))
    ≡ cond ends (capped (value_after value (get_or text i 0)) ∷ []) [] ++ map capped
    (values_from (cond ends 0 (capped (value_after value (get_or text i 0)))) (drop (i + 1) text))
numbers-step text i value ends lt e =
    let next = value_after value (get_or text i 0) in
    let rest = drop (i + 1) text in
    at_drop_more (λ xs. map capped (values_from value xs)) text i 0 lt
    ∙ rw (← e) (elim ends
    as (λ b. map capped (cond b (next ∷ []) [] ++ values_from (cond b 0 next) rest) ≡ cond b (capped next ∷ []) [] ++ map capped
    (values_from (cond b 0 (capped next)) rest))
    [ true ↦ refl | false ↦ values-capped rest next (capped next) (capped-capped next) ])
