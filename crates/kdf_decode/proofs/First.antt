-- The order with whose spelling syllables begin.
use Rattle.std.proofs.Common.{◌≡◌, ℕ, ◌<◌, ◌≤◌, ◌^◌, Some, Result, Ok, Err, List, [], ◌∷◌, length, get_or, take, refl, sym, ap, ◌∙◌, arith}
use Rattle.std.specs.Prelude.{OnErr}
use Rattle.std.specs.Result.{result_ok}
use Rattle.std.proofs.lemmas.Bool.Decides.{nat_tests}
use Rattle.std.proofs.lemmas.List.{length-take-le, get_or-take, take_all}
use Rattle.std.proofs.lemmas.List.Elements.{All-take}
use Rattle.kdf_syllable.proofs.Bytes.{length-spelling}
use Rattle.kdf_syllable.proofs.Sizes.{size_of_first-spelling}
use Rattle.kdf_syllable.specs.Spelling.{IsOrder, spelling, size_of_first}
use Rattle.kdf_syllable.specs.declared.order.Order.{Order}
use Rattle.kdf_decode.specs.Decoding.{BeginsWith, decoded, first_decoded}
use Rattle.kdf_decode.specs.declared.decoding.BadCode.{BadCode}
use Rattle.kdf_decode.proofs.Inverse.{decoded-spelling}
use Rattle.kdf_decode.proofs.Spelt.{AreBytes, decoded-spelt}

-- an order has three syllables at most
size_most : (a : ℕ) → size_of_first a ≤ 3
size_most a = grind (arith, nat_tests)

-- three syllables begin with the spelling of the order that is decoded from them
first-spelt : (bytes : List ℕ) (o : Order) → length bytes ≡ 3 → AreBytes bytes → first_decoded bytes ≡ Some o → IsOrder o × BeginsWith bytes (spelling o)
first-spelt [] o three h e = cc
first-spelt (a ∷ rest) o three h e =
    let n = size_of_first a in
    let most : n ≤ length (a ∷ rest) = omega (arith, size_most a) in
    let parts = decoded-spelt (take n (a ∷ rest)) o (All-take (λ x. x < 2 ^ 8) n (a ∷ rest) h) e in
    (parts.0, ap (λ k. take k (a ∷ rest)) (ap length parts.1 ∙ length-take-le n (a ∷ rest) most) ∙ sym parts.1)

-- the order with whose spelling syllables begin is decoded from them
spelling-first : (bytes : List ℕ) (o : Order) → IsOrder o → BeginsWith bytes (spelling o) → first_decoded bytes ≡ Some o
spelling-first [] o h begins =
    absurd (omega (arith, (length-spelling o).0, ap length (sym (take_all (length (spelling o)) [] (omega arith)) ∙ begins)))
spelling-first (a ∷ rest) o h begins =
    let n = length (spelling o) in
    let first : a ≡ get_or (spelling o) 0 0 = sym (get_or-take n (a ∷ rest) 0 0 (length-spelling o).0) ∙ ap (λ s. get_or s 0 0) begins in
    let size : size_of_first a ≡ n = ap size_of_first first ∙ size_of_first-spelling o h in
    ap (λ k. decoded (take k (a ∷ rest))) size ∙ ap decoded begins ∙ decoded-spelling o h

-- both ways
pub first-exactly : (bytes : List ℕ) (o : Order) → length bytes ≡ 3 → AreBytes bytes
    → (first_decoded bytes ≡ Some o → IsOrder o × BeginsWith bytes (spelling o)) × (IsOrder o × BeginsWith bytes (spelling o) → first_decoded bytes ≡ Some o)
first-exactly bytes o three h = (first-spelt bytes o three h, λ begins. spelling-first bytes o begins.0 begins.1)

-- what is an answer, from what it is as an option
ok-some : (r : Result Order BadCode) (o : Order) → result_ok r ≡ Some o → r ≡ Ok o
ok-some (Ok x) o e = cc
ok-some (Err x) o e = cc

-- an answer that is what the syllables begin with is an order exactly where its spelling begins them
pub ok-exactly : (r : Result Order BadCode) (bytes : List ℕ) → length bytes ≡ 3 → AreBytes bytes → result_ok r ≡ first_decoded bytes → (o : Order)
    → (r ≡ Ok o → IsOrder o × BeginsWith bytes (spelling o)) × (IsOrder o × BeginsWith bytes (spelling o) → r ≡ Ok o)
ok-exactly r bytes three h e o = (
  λ is. first-spelt bytes o three h (sym e ∙ ap result_ok is),
  λ begins. ok-some r o (e ∙ spelling-first bytes o begins.0 begins.1),
)

-- and bad where no spelling begins them
pub bad-exactly : (r : Result Order BadCode) (bytes : List ℕ) → result_ok r ≡ first_decoded bytes
    → OnErr r ((o : Order) → IsOrder o → BeginsWith bytes (spelling o) → ⊥)
bad-exactly (Ok x) bytes e = tt
bad-exactly (Err x) bytes e = λ o h begins. let some = spelling-first bytes o h begins in cc

-- a list of three, by its items
pub of_three : (xs : List ℕ) → length xs ≡ 3 → xs ≡ get_or xs 0 0 ∷ get_or xs 1 0 ∷ get_or xs 2 0 ∷ []
of_three [] e = cc
of_three (a ∷ []) e = absurd (omega arith)
of_three (a ∷ b ∷ []) e = absurd (omega arith)
of_three (a ∷ b ∷ d ∷ []) e = refl
of_three (a ∷ b ∷ d ∷ x ∷ rest) e = absurd (omega arith)
