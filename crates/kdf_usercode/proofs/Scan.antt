-- What stays of a deck, as the reader goes past a byte or a comment.
use Rattle.std.proofs.Common.{◌≡◌, ℕ, zero, suc, ◌+◌, ◌<◌, length, get_or, drop, Bool, true, false, not, ◌&&◌, ◌||◌, cond, eqb, nat_lt, List, [], ◌∷◌, Some}
use Rattle.std.proofs.Common.{None, is_some, refl, sym, ap, ◌∙◌, subst, ⊎_elim, arith}
use Rattle.std.specs.List.{position, position_from, position_or_len}
use Rattle.std.proofs.lemmas.Bool.{cases_Bool}
use Rattle.std.proofs.lemmas.Iterator.Adapters.{position_from-zero}
use Rattle.kdf_usercode.specs.declared.bytes.ByteAt.{ByteAt}
use Rattle.kdf_usercode.specs.Comments.{closes, kept_from}

abbrev pub is_closing : ℕ → Bool
is_closing byte = eqb byte 41

or-false : (a b : Bool) → (a || b) ≡ false → b ≡ false
or-false true b e = absurd cc
or-false false b e = e

-- where no `)` comes, none comes after
pub closes-behind : (n : ℕ) (bytes : List ℕ) → closes bytes ≡ false → closes (drop n bytes) ≡ false
closes-behind zero bytes none = none
closes-behind (suc n) [] none = refl
closes-behind (suc n) (b ∷ bytes) none = closes-behind n bytes (or-false (is_closing b) (closes bytes) none)

closes-from : (n : ℕ) (bytes : List ℕ) → is_some (position_from is_closing n bytes) ≡ closes bytes
closes-from n [] = refl
closes-from n (b ∷ bytes) =
    elim (is_closing b) as (λ t. is_some (cond t (Some n) (position_from is_closing (n + 1) bytes)) ≡ (t || closes bytes)) [
      | true ↦ refl
      | false ↦ closes-from (n + 1) bytes
    ]

-- a `)` comes where there is a first one
pub closes-position : (bytes : List ℕ) → closes bytes ≡ is_some (position is_closing bytes)
closes-position bytes = sym (closes-from 0 bytes) ∙ ap is_some (sym (position_from-zero is_closing bytes))

position-is : (bytes : List ℕ) (end : ℕ) → position is_closing bytes ≡ Some end → end ≡ position_or_len is_closing bytes
position-is bytes end e =
    let p = position_or_len is_closing bytes in
    ⊎_elim
    (λ yes. let same : Some p ≡ Some end = sym (ap (λ b. cond b (Some p) None) yes) ∙ e in cc)
    (λ none. let same : None ≡ Some end = sym (ap (λ b. cond b (Some p) None) none) ∙ e in absurd cc)
    (cases_Bool (nat_lt p (length bytes)))

same-kept : (m n : ℕ) (xs ys : List ℕ) → m ≡ n → xs ≡ ys → kept_from false m xs ≡ kept_from false n ys
same-kept m n xs ys e f = ap (λ k. kept_from false k xs) e ∙ ap (kept_from false n) f

-- a comment goes to the first `)`
inside : (at : ℕ) (bytes : List ℕ) → closes bytes ≡ true
    → kept_from true at bytes ≡ kept_from false (at + (position_or_len is_closing bytes + 1)) (drop (position_or_len is_closing bytes + 1) bytes)
inside at [] some = absurd cc
inside at (b ∷ bytes) some =
    let p = position_or_len is_closing bytes in
    let n : Bool → ℕ = λ t. cond (not t) (1 + p) 0 + 1 in
    elim (is_closing b) as (λ t. (t || closes bytes) ≡ true → kept_from (not t) (at + 1) bytes ≡ kept_from false (at + n t) (drop (n t) (b ∷ bytes))) [
      | true ↦ λ _. refl
      | false ↦ λ more. inside (at + 1) bytes more ∙
          same-kept (at + 1 + (p + 1)) (at + n false) (drop (p + 1) bytes) (drop (n false) (b ∷ bytes)) (omega arith)
          (let e : n false ≡ suc (p + 1) = omega arith in sym (ap (λ k. drop k (b ∷ bytes)) e))
    ] some

comment-at : (at end : ℕ) (bytes : List ℕ) → position is_closing (40 ∷ bytes) ≡ Some end
    → kept_from false at (40 ∷ bytes) ≡ kept_from false (at + (end + 1)) (drop (end + 1) (40 ∷ bytes))
comment-at at end bytes e =
    let p = position_or_len is_closing bytes in
    let some : closes bytes ≡ true = closes-position (40 ∷ bytes) ∙ ap is_some e in
    let here : end ≡ 1 + p = position-is (40 ∷ bytes) end e in
    let begun : kept_from false at (40 ∷ bytes) ≡ kept_from true (at + 1) bytes = rw some refl in
    let n : end + 1 ≡ suc (p + 1) = omega arith in
    begun ∙ inside (at + 1) bytes some
    ∙ same-kept (at + 1 + (p + 1)) (at + (end + 1)) (drop (p + 1) bytes) (drop (end + 1) (40 ∷ bytes)) (omega arith) (sym (ap (λ k. drop k (40 ∷ bytes)) n))

-- a comment that stands in front is gone
pub comment-gone : (at end : ℕ) (bytes : List ℕ) → 0 < length bytes → get_or bytes 0 0 ≡ 40 → position is_closing bytes ≡ Some end
    → kept_from false at bytes ≡ kept_from false (at + (end + 1)) (drop (end + 1) bytes)
comment-gone at end [] some e found = absurd (omega arith)
comment-gone at end (b ∷ bytes) some e found =
    let P : ℕ → Type 0 = λ b. position is_closing (b ∷ bytes) ≡ Some end → kept_from false at (b ∷ bytes) ≡ kept_from false (at + (end + 1))
    (drop (end + 1) (b ∷ bytes)) in
    subst P (sym e) (comment-at at end bytes) found

and-or : (x y z : Bool) → (x && (y || z)) ≡ false → (x && z) ≡ false
and-or true true z e = absurd cc
and-or true false z e = e
and-or false y z e = refl

blank : (s l : Bool) (b : ByteAt) → cond (not s && not l) (b ∷ []) [] ≡ cond (s || l) [] (b ∷ [])
blank true l b = refl
blank false true b = refl
blank false false b = refl
