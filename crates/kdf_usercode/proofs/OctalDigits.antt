-- Octal digits that are read with a cap on the way.
use Rattle.std.proofs.Common.{◌≡◌, ℕ, ◌+◌, ◌*◌, ◌-◌, ◌<◌, length, get_or, drop, List, [], ◌∷◌, sym, ◌∙◌, arith}
use Rattle.std.proofs.lemmas.List.{at_drop_more}
use Rattle.kdf_usercode.specs.Capped.{capped}
use Rattle.kdf_usercode.specs.Octal.{octal_from}

octal-next : (d n m : ℕ) → capped n ≡ capped m → capped (8 * n + d) ≡ capped (8 * m + d)
octal-next d n m e = omega arith

octal-capped : (cs : List ℕ) (n m : ℕ) → capped n ≡ capped m
    → capped (octal_from n cs) ≡ capped (octal_from m cs)
octal-capped [] n m e = e
octal-capped (c ∷ cs) n m e =
    octal-capped cs (8 * n + (c - 48)) (8 * m + (c - 48)) (octal-next (c - 48) n m e)

capped-capped : (n : ℕ) → capped (capped n) ≡ capped n
capped-capped n = omega arith

pub octal-step : (text : List ℕ) (i value : ℕ) → i < length text
    → capped (octal_from (capped (8 * value + (get_or text i 0 - 48))) (drop (i + 1) text)) ≡ capped (octal_from value (drop i text))
octal-step text i value lt =
    let next = 8 * value + (get_or text i 0 - 48) in
    octal-capped (drop (i + 1) text) (capped next) next (capped-capped next)
    ∙ sym (at_drop_more (λ xs. capped (octal_from value xs)) text i 0 lt)
