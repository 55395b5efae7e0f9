-- The shape of a statement, byte by byte.
use Rattle.std.proofs.Common.{◌≡◌, ℕ, ◌+◌, ◌-◌, ◌<◌, length, get_or, take, drop, ◌&&◌, if◌then◌else◌, List, [], ◌∷◌, ◌++◌, append_assoc, sym, ap, ◌∙◌}
use Rattle.std.proofs.lemmas.List.{at_drop_more, take_rest}
use Rattle.kdf_usercode.specs.Bytes.{digit_0}
use Rattle.kdf_usercode.specs.Shape.{is_digit, begins_with_digit, shape}

-- what the shape has for a byte
abbrev shaped : ℕ → List ℕ → List ℕ
shaped c rest = if is_digit c && begins_with_digit rest then [] else (if is_digit c then digit_0 else c) ∷ []

pub shape-step : (text room out all : List ℕ) (i : ℕ) → i < length text
    → out ≡ room ++ shaped (get_or text i 0) (take (length text - (i + 1)) (drop (i + 1) text))
    → room ++ shape (drop i text) ≡ all → out ++ shape (drop (i + 1) text) ≡ all
shape-step text room out all i lt pushed before =
    let c = get_or text i 0 in
    let rest = drop (i + 1) text in
    let more : out ≡ room ++ shaped c rest = pushed ∙ ap (λ (xs : List ℕ). room ++ shaped c xs) (take_rest text (i + 1)) in
    ap (λ (xs : List ℕ). xs ++ shape rest) more
    ∙ append_assoc room (shaped c rest) (shape rest)
    ∙ ap (λ (xs : List ℕ). room ++ xs) (sym (at_drop_more shape text i 0 lt))
    ∙ before
