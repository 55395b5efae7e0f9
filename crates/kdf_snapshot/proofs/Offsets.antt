-- How long the text of lines is.
use Rattle.std.proofs.Common.{◌≡◌, ℕ, ◌+◌, ◌<◌, ◌≤◌, Bool, true, false, cond, eqb, List, [], ◌∷◌, ◌++◌, length, take, drop, sym, ap, ◌∙◌, arith, length-append}
use Rattle.std.proofs.Common.{length-drop, length-take}
use Rattle.std.proofs.lemmas.List.{take-append-drop, take-take}
use Rattle.kdf_text.specs.Lines.{in_first, lines}
use Rattle.kdf_text.specs.Text.{text}
use Rattle.kdf_text.proofs.Texts.{text-append}
use Rattle.kdf_snapshot.specs.Snapshot.{offset}

text-cons : (l : List ℕ) (ls : List (List ℕ)) → length (text (l ∷ ls)) ≡ length l + 1 + length (text ls)
unfolding text
text-cons l ls = omega (arith, length-append (l ++ 10 ∷ []) (text ls), length-append l (10 ∷ []))

-- each line has its end
pub text-long : (ls : List (List ℕ)) → length ls ≤ length (text ls)
text-long [] = omega arith
text-long (l ∷ ls) = omega (arith, text-cons l ls, text-long ls)

-- the text of the lines of a text is that text, but for the end of the last line
text-lines : (bytes : List ℕ) → length (text (lines bytes)) ≤ length bytes + 1
unfolding lines text
text-lines [] = omega arith
text-lines (b ∷ bytes) =
    elim (eqb b 10) as (λ (x : Bool). length (text (cond x ([] ∷ lines bytes) (in_first b (lines bytes)))) ≤ length (b ∷ bytes) + 1)
    [ true ↦ omega (arith, text-cons [] (lines bytes), text-lines bytes) | false ↦ longer (lines bytes) (text-lines bytes) ]
  where
    longer : (ls : List (List ℕ)) → length (text ls) ≤ length bytes + 1 → length (text (in_first b ls)) ≤ length (b ∷ bytes) + 1
    longer [] h = omega (arith, text-cons (b ∷ []) [])
    longer (l ∷ ls) h = omega (arith, text-cons (b ∷ l) ls, text-cons l ls)

-- each line has a byte
few-lines : (bytes : List ℕ) → length (lines bytes) ≤ length bytes
unfolding lines
few-lines [] = omega arith
few-lines (b ∷ bytes) =
    elim (eqb b 10) as (λ (x : Bool). length (cond x ([] ∷ lines bytes) (in_first b (lines bytes))) ≤ length (b ∷ bytes))
    [ true ↦ omega (arith, few-lines bytes) | false ↦ longer (lines bytes) (few-lines bytes) ]
  where
    longer : (ls : List (List ℕ)) → length ls ≤ length bytes → length (in_first b ls) ≤ length (b ∷ bytes)
    longer [] h = omega arith
    longer (l ∷ ls) h = omega arith

parts-long : (k : ℕ) (ls : List (List ℕ)) → length (text (take k ls)) + length (text (drop k ls)) ≡ length (text ls)
parts-long k ls = sym (length-append (text (take k ls)) (text (drop k ls))) ∙ ap length (sym (text-append (take k ls) (drop k ls)))
    ∙ ap (λ ks. length (text ks)) (take-append-drop k ls)

-- where another line follows, the lines before it are within the text
pub front-within : (bytes : List ℕ) (k : ℕ) → k < length (lines bytes) → length (text (take k (lines bytes))) ≤ length bytes
front-within bytes k lt =
    let ls = lines bytes in
    omega (arith, parts-long k ls, text-long (drop k ls), length-drop k ls, text-lines bytes)

pub offset-within : (bytes : List ℕ) (k : ℕ) → k < length (lines bytes) → offset bytes k ≡ length (text (take k (lines bytes)))
offset-within bytes k lt = let le = front-within bytes k lt in omega arith

-- no more lines than bytes stand before an offset
pub few-before : (bytes : List ℕ) (k : ℕ) → k ≤ length (lines bytes) → k ≤ offset bytes k
few-before bytes k le =
    let ls = lines bytes in
    omega (arith, text-long (take k ls), length-take k ls, few-lines bytes)

-- offsets don't fall
pub offsets-rise : (bytes : List ℕ) (k n : ℕ) → offset bytes k ≤ offset bytes (k + n)
offsets-rise bytes k n =
    let ls = lines bytes in
    let more = parts-long k (take (k + n) ls) in
    let same : take k (take (k + n) ls) ≡ take k ls = take-take k (k + n) ls (omega arith) in
    let front : length (text (take k (take (k + n) ls))) ≡ length (text (take k ls)) = ap (λ ks. length (text ks)) same in
    omega (arith, more, front)
