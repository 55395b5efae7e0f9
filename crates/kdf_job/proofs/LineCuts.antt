-- A text that is cut after some of its lines.
use Rattle.std.proofs.Common.{◌≡◌, ℕ, ◌+◌, ◌<◌, Bool, true, false, cond, eqb, List, [], ◌∷◌, ◌++◌, length, take, drop, min, refl, sym, ap, ◌∙◌, arith, ⊎_elim}
use Rattle.std.proofs.Common.{append_assoc, append-nil, length-append}
use Rattle.std.proofs.lemmas.Bool.{cases_Bool, eqb-true, ne_eqb}
use Rattle.std.proofs.Math.Seq.{take-append_seam, drop-append_seam}
use Rattle.kdf_text.specs.Lines.{in_first, line_byte, lines}
use Rattle.kdf_text.specs.Text.{text}
use Rattle.kdf_text.proofs.Cutting.{has, left, lines-at, lines-cut, lines-left, some-lines}

-- a text with the byte that ends its first line
record HasEnd (bytes : List ℕ) : Type 0 where
  front : List ℕ
  rest : List ℕ
  is : bytes ≡ front ++ 10 ∷ rest
  none : has 10 front ≡ false

has_end : (bytes : List ℕ) → has 10 bytes ≡ true → HasEnd bytes
has_end [] h = absurd cc
has_end (b ∷ bytes) h =
    ⊎_elim
    (λ (here : eqb b 10 ≡ true). record { front = []; rest = bytes; is = ap (λ (x : ℕ). x ∷ bytes) (eqb-true b 10 here); none = refl })
    (λ (later : eqb b 10 ≡ false).
    let m = has_end bytes (rw later at h) in
    record { front = b ∷ m.front; rest = m.rest; is = ap (λ (t : List ℕ). b ∷ t) m.is; none = rw (later, m.none) refl })
    (cases_Bool (eqb b 10))

-- the bytes of the first lines and those of the others
pub record IsCut (bytes : List ℕ) (ls more : List (List ℕ)) : Type 0 where
  pub front : List ℕ
  pub rest : List ℕ
  pub is : bytes ≡ front ++ rest
  pub first : lines front ≡ ls
  pub others : lines rest ≡ more
  pub many : length front ≡ min (length (text ls)) (length bytes)

pub text_length : (l : List ℕ) (ls : List (List ℕ)) → length (text (l ∷ ls)) ≡ length l + 1 + length (text ls)
unfolding text
text_length l ls = length-append (l ++ 10 ∷ []) (text ls) ∙ ap (λ (n : ℕ). n + length (text ls)) (length-append l (10 ∷ []))

no_text : length (text []) ≡ 0
unfolding text
no_text = refl

cut_nowhere : (bytes l : List ℕ) (ls more : List (List ℕ)) → lines bytes ≡ left bytes → lines bytes ≡ l ∷ (ls ++ more) → IsCut bytes (l ∷ ls) more
unfolding lines
cut_nowhere [] l ls more whole h = absurd cc
cut_nowhere (b ∷ bytes) l (x ∷ ls) more whole h = let e : left (b ∷ bytes) ≡ l ∷ x ∷ (ls ++ more) = sym whole ∙ h in absurd cc
cut_nowhere (b ∷ bytes) l [] more whole h =
    let e : (b ∷ bytes) ∷ [] ≡ l ∷ more = sym whole ∙ h in
    let is : b ∷ bytes ≡ l = cc in
    let none : [] ≡ more = cc in
    record {
      front = b ∷ bytes;
      rest = [];
      is = sym (append-nil (b ∷ bytes));
      first = h ∙ ap (λ (ls : List (List ℕ)). l ∷ ls) (sym none);
      others = none;
      many = let m = text_length l [] in let n = ap (λ (t : List ℕ). length t) is in let z = no_text in omega arith;
    }

cut_behind : (bytes l : List ℕ) (ls more : List (List ℕ)) (m : HasEnd bytes) → l ≡ m.front → IsCut m.rest ls more → IsCut bytes (l ∷ ls) more
cut_behind bytes l ls more m is c = record {
  front = m.front ++ 10 ∷ c.front;
  rest = c.rest;
  is = m.is ∙ ap (λ (t : List ℕ). m.front ++ 10 ∷ t) c.is ∙ sym (append_assoc m.front (10 ∷ c.front) c.rest);
  first = lines-cut m.front c.front m.none ∙ ap (λ (ls : List (List ℕ)). m.front ∷ ls) c.first ∙ ap (λ (x : List ℕ). x ∷ ls) (sym is);
  others = c.others;
  many =
      let t = text_length l ls in
      let e = ap (λ (x : List ℕ). length x) is in
      let f = length-append m.front (10 ∷ c.front) in
      let g = ap (λ (x : List ℕ). length x) m.is ∙ length-append m.front (10 ∷ m.rest) in
      let n = c.many in
      omega arith;
}

pub cut_at : (ls more : List (List ℕ)) (bytes : List ℕ) → lines bytes ≡ ls ++ more → IsCut bytes ls more
unfolding lines
cut_at [] more bytes h = record { front = []; rest = bytes; is = refl; first = refl; others = h; many = let z = no_text in omega arith }
cut_at (l ∷ ls) more bytes h =
    ⊎_elim
    (λ (some : has 10 bytes ≡ true).
    let m = has_end bytes some in
    let e : l ∷ (ls ++ more) ≡ m.front ∷ lines m.rest = sym h ∙ lines-at bytes m.front m.rest m.is m.none in
    let is : l ≡ m.front = cc in
    let rest : lines m.rest ≡ ls ++ more = cc in
    cut_behind bytes l ls more m is (cut_at ls more m.rest rest))
    (λ (none : has 10 bytes ≡ false). cut_nowhere bytes l ls more (lines-left bytes none) h)
    (cases_Bool (has 10 bytes))

-- how many bytes the first lines of a text have
abbrev pub bytes_of : List (List ℕ) → List ℕ → ℕ
bytes_of ls bytes = min (length (text ls)) (length bytes)

pub lines_before : (ls more : List (List ℕ)) (bytes : List ℕ) → lines bytes ≡ ls ++ more → lines (take (bytes_of ls bytes) bytes) ≡ ls
lines_before ls more bytes h =
    let c = cut_at ls more bytes h in
    let e : take (bytes_of ls bytes) bytes ≡ c.front = ap (λ (n : ℕ). take n bytes) (sym c.many) ∙ ap (take (length c.front)) c.is
    ∙ take-append_seam c.front c.rest in
    ap lines e ∙ c.first

pub lines_behind : (ls more : List (List ℕ)) (bytes : List ℕ) → lines bytes ≡ ls ++ more → lines (drop (bytes_of ls bytes) bytes) ≡ more
lines_behind ls more bytes h =
    let c = cut_at ls more bytes h in
    let e : drop (bytes_of ls bytes) bytes ≡ c.rest = ap (λ (n : ℕ). drop n bytes) (sym c.many) ∙ ap (drop (length c.front)) c.is
    ∙ drop-append_seam c.front c.rest in
    ap lines e ∙ c.others

-- ---- a text with a byte that ends a line

in_first_append : (b : ℕ) (ls more : List (List ℕ)) → 0 < length ls → in_first b (ls ++ more) ≡ in_first b ls ++ more
in_first_append b [] more some = absurd (omega arith)
in_first_append b (l ∷ ls) more some = refl

some_line : (bytes : List ℕ) → 0 < length (lines (bytes ++ 10 ∷ []))
some_line bytes = some-lines (bytes ++ 10 ∷ []) (let n = length-append bytes (10 ∷ []) in ne_eqb (length (bytes ++ 10 ∷ [])) 0 (λ e. omega arith))

pub lines_append : (bytes follows : List ℕ) → lines (bytes ++ 10 ∷ follows) ≡ lines (bytes ++ 10 ∷ []) ++ lines follows
unfolding lines
lines_append [] follows = refl
lines_append (b ∷ bytes) follows =
    ap (line_byte b) (lines_append bytes follows) ∙ either (eqb b 10) (lines (bytes ++ 10 ∷ [])) (some_line bytes)
  where
    either : (x : Bool) (ls : List (List ℕ)) → 0 < length ls → cond x ([] ∷ (ls ++ lines follows)) (in_first b (ls ++ lines follows)) ≡ cond x ([] ∷ ls)
        (in_first b ls) ++ lines follows
    either true ls some = refl
    either false ls some = in_first_append b ls (lines follows) some

in_first_text : (b : ℕ) (ls : List (List ℕ)) → 0 < length ls → text (in_first b ls) ≡ b ∷ text ls
unfolding text
in_first_text b [] some = absurd (omega arith)
in_first_text b (l ∷ ls) some = refl

pub text_lines : (bytes : List ℕ) → text (lines (bytes ++ 10 ∷ [])) ≡ bytes ++ 10 ∷ []
unfolding lines text
text_lines [] = refl
text_lines (b ∷ bytes) = either (eqb b 10) refl (lines (bytes ++ 10 ∷ [])) (some_line bytes) (text_lines bytes)
  where
    either : (x : Bool) → eqb b 10 ≡ x → (ls : List (List ℕ)) → 0 < length ls → text ls ≡ bytes ++ 10 ∷ []
        → text (cond x ([] ∷ ls) (in_first b ls)) ≡ b ∷ (bytes ++ 10 ∷ [])
    either true is ls some e = ap (λ (t : List ℕ). 10 ∷ t) e ∙ ap (λ (x : ℕ). x ∷ (bytes ++ 10 ∷ [])) (sym (eqb-true b 10 is))
    either false is ls some e = in_first_text b ls some ∙ ap (λ (t : List ℕ). b ∷ t) e
