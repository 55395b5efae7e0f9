-- Lines that have no end within them, and a text of them.
use Rattle.std.proofs.Common.{◌≡◌, ℕ, zero, suc, ◌+◌, ◌/◌, ◌%◌, ◌-◌, ◌^◌, Bool, true, false, cond, eqb, ltb, List, [], ◌∷◌, ◌++◌, map, refl, ap, ◌∙◌, arith}
use Rattle.std.proofs.Common.{append_assoc}
use Rattle.std.specs.Fmt.{decimal, digit_glyph, digits, digits_onto}
use Rattle.std.specs.List.{range_with_len}
use Rattle.std.proofs.lemmas.Bool.{ne_eqb, or_parts}
use Rattle.kdf_text.specs.Lines.{lines}
use Rattle.kdf_text.specs.Text.{octal, text}
use Rattle.kdf_text.proofs.Cutting.{has, lines-cut}

-- no line ends within the bytes
abbrev pub IsWhole : List ℕ → Type 0
IsWhole bytes = has 10 bytes ≡ false

abbrev pub AreWhole : List (List ℕ) → Type 0
AreWhole [] = Unit {0}
AreWhole (l ∷ ls) = IsWhole l × AreWhole ls

pub whole-append : (xs ys : List ℕ) → IsWhole xs → IsWhole ys → IsWhole (xs ++ ys)
whole-append [] ys first others = others
whole-append (x ∷ xs) ys first others =
    let parts = or_parts (eqb x 10) (has 10 xs) first in
    rw (parts.0, whole-append xs ys parts.1 others) refl

pub are-append : (ls ks : List (List ℕ)) → AreWhole ls → AreWhole ks → AreWhole (ls ++ ks)
are-append [] ks first others = others
are-append (l ∷ ls) ks first others = (first.0, are-append ls ks first.1 others)

pub text-cons : (l : List ℕ) (ls : List (List ℕ)) → text (l ∷ ls) ≡ l ++ 10 ∷ text ls
unfolding text
text-cons l ls = append_assoc l (10 ∷ []) (text ls)

no-lines : text [] ≡ []
unfolding text
no-lines = refl

-- the lines of a text are these lines
pub lines-text : (ls : List (List ℕ)) (rest : List ℕ) → AreWhole ls → lines (text ls ++ rest) ≡ ls ++ lines rest
lines-text [] rest are = ap (λ bs. lines (bs ++ rest)) no-lines
lines-text (l ∷ ls) rest are =
    ap (λ bs. lines (bs ++ rest)) (text-cons l ls)
    ∙ ap lines (append_assoc l (10 ∷ text ls) rest)
    ∙ lines-cut l (text ls ++ rest) are.0
    ∙ ap (λ ks. l ∷ ks) (lines-text ls rest are.1)

-- ---- numbers

by-test : (b : Bool) (n : ℕ) → eqb (cond b (48 + n) (87 + n)) 10 ≡ false
by-test true n = ne_eqb (48 + n) 10 (λ e. omega arith)
by-test false n = ne_eqb (87 + n) 10 (λ e. omega arith)

glyph-whole : (n : ℕ) → eqb (digit_glyph false n) 10 ≡ false
glyph-whole n = by-test (ltb n 10) n

either : (b : Bool) (xs ys : List ℕ) → IsWhole xs → IsWhole ys → IsWhole (cond b xs ys)
either true xs ys first other = first
either false xs ys first other = other

onto-whole : (k n : ℕ) (acc : List ℕ) → IsWhole acc → IsWhole (digits_onto k 10 false n acc)
onto-whole zero n acc was = was
onto-whole (suc k) n acc was =
    let more : IsWhole (digit_glyph false (n % 10) ∷ acc) = rw (glyph-whole (n % 10), was) refl in
    either (eqb (n / 10) 0) (digit_glyph false (n % 10) ∷ acc) (digits_onto k 10 false (n / 10) (digit_glyph false (n % 10) ∷ acc)) more
    (onto-whole k (n / 10) (digit_glyph false (n % 10) ∷ acc) more)

pub decimal-whole : (n : ℕ) → IsWhole (decimal n)
unfolding digits
decimal-whole n = onto-whole 64 n [] refl

map-whole : (f : ℕ → ℕ) (xs : List ℕ) → ((x : ℕ) → eqb (f x) 10 ≡ false) → IsWhole (map f xs)
map-whole f [] each = refl
map-whole f (x ∷ xs) each = rw (each x, map-whole f xs each) refl

pub octal-whole : (w : ℕ) → IsWhole (octal w)
unfolding octal
octal-whole w = map-whole (λ i. 48 + w / 8 ^ (15 - i) % 8) (range_with_len 0 16) (λ i. ne_eqb (48 + w / 8 ^ (15 - i) % 8) 10 (λ e. omega arith))

pub mapped-whole : (f : ℕ → ℕ) (xs : List ℕ) → ((x : ℕ) → eqb (f x) 10 ≡ false) → IsWhole (map f xs)
mapped-whole f xs each = map-whole f xs each
