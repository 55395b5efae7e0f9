-- Reading a text from its front.
use Rattle.std.specs.Prelude.{ℕ, ◌&&◌, nat_le, ◌==◌, List, [], ◌∷◌, length, take, drop, Option, Some, None, if◌then◌else◌}
use Rattle.std.specs.Str.{bytes_eq}

-- what comes of the first, if there is something
infixl 10 ◌>>=◌
abbrev pub ◌>>=◌ : {A B : Type 0} → Option A → (A → Option B) → Option B
None >>= f = None
(Some x) >>= f = f x

abbrev pub opt_map : {A B : Type 0} → (A → B) → Option A → Option B
opt_map f None = None
opt_map f (Some x) = Some (f x)

-- the first of two that there is
infixl 9 ◌or◌
abbrev pub ◌or◌ : {A : Type 0} → Option A → Option A → Option A
None or b = b
(Some x) or b = Some x

-- what the first row with this name means
abbrev pub row_in : {A : Type 0} → List (List ℕ × A) → List ℕ → Option A
row_in [] text = None
row_in (row ∷ rows) text = if bytes_eq row.0 text then Some row.1 else row_in rows text

-- what stands after a prefix
abbrev pub strip : List ℕ → List ℕ → Option (List ℕ)
strip prefix text =
    if nat_le (length prefix) (length text) && bytes_eq (take (length prefix) text) prefix
    then Some (drop (length prefix) text) else None

-- what stands after the first such byte
abbrev pub text_behind : ℕ → List ℕ → List ℕ
text_behind c [] = []
text_behind c (x ∷ xs) = if x == c then xs else text_behind c xs
