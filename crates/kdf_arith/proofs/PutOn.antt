-- A value that is put on the words below.
use Rattle.std.proofs.Common.{◌≡◌, ℕ, ◌≤◌, ◌∷◌, List, length, Bool, not, Some, ℤ, refl, ap, ◌∙◌, arith}
use Rattle.std.proofs.lemmas.Bool.{le-leb}
use Rattle.kdf_word.specs.Doubles.{double_fits, put, upper_of, lower_of}
use Rattle.kdf_arith.specs.Rows.{as_double}
use Rattle.kdf_arith.specs.Arith.{in_room}
use Rattle.kdf_arith.proofs.PutLemmas.{upper_put, lower_put}

pub put_on : (v t : ℤ) (below new : List ℕ) (over : Bool) →
    length below ≤ 14 → t ≡ put v → over ≡ not (double_fits v) →
    new ≡ upper_of t ∷ lower_of t ∷ below →
    in_room (Some (as_double v below)) ≡ Some (record { nest = new; sets_v = over })
put_on v t below new over room value flag nest =
    let small : length (upper_of v ∷ lower_of v ∷ below) ≤ 16 = omega arith in
    let same : new ≡ upper_of v ∷ lower_of v ∷ below =
    nest ∙ ap (λ x. upper_of x ∷ lower_of x ∷ below) value
    ∙ ap (λ n. n ∷ lower_of (put v) ∷ below) (upper_put v)
    ∙ ap (λ n. upper_of v ∷ n ∷ below) (lower_put v) in
    rw (le-leb _ _ small, same, flag) refl
