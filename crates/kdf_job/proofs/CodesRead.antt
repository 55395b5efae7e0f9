-- The codes of a text, read byte by byte.
use Rattle.std.proofs.Common.{◌≡◌, ℕ, ◌+◌, ◌<◌, ◌≤◌, List, [], ◌∷◌, ◌++◌, length, drop, get_or, Option, Some, None, refl, sym, ap, ◌∙◌, drop-cons, add-one}
use Rattle.std.proofs.Common.{append_assoc, append-nil}
use Rattle.std.specs.Option.{option_map}
use Rattle.std.proofs.Math.ListN.{drop_of_length-le}
use Rattle.kdf_code.specs.Code.{code_of}
use Rattle.kdf_job.specs.Media.{codes_in, with_code}

-- the codes that were read, with those of the text from a place on after them
unfoldable pub behind : List ℕ → ℕ → List ℕ → Option (List ℕ)
behind codes i text = option_map (λ more. codes ++ more) (codes_in (drop i text))

one_more : (codes : List ℕ) (code : ℕ) (o : Option (List ℕ)) → option_map (λ more. codes ++ more) (with_code (Some code) o) ≡ option_map
    (λ more. (codes ++ code ∷ []) ++ more) o
one_more codes code None = refl
one_more codes code (Some more) = ap Some (sym (append_assoc codes (code ∷ []) more))

pub codes_first : (text : List ℕ) (i : ℕ) → i < length text → codes_in (drop i text) ≡ with_code (code_of (get_or text i 0)) (codes_in (drop (i + 1) text))
unfolding codes_in
codes_first text i lt = rw (add-one i, drop-cons text i 0 lt) refl

pub codes_more : (codes text : List ℕ) (i byte code : ℕ) → i < length text → byte ≡ get_or text i 0 → code_of byte ≡ Some code
    → behind codes i text ≡ behind (codes ++ code ∷ []) (i + 1) text
unfolding behind
codes_more codes text i byte code lt is found =
    let here : code_of (get_or text i 0) ≡ Some code = ap code_of (sym is) ∙ found in
    rw (codes_first text i lt, here) (one_more codes code (codes_in (drop (i + 1) text)))

pub codes_none : (codes text : List ℕ) (i byte : ℕ) → i < length text → byte ≡ get_or text i 0 → code_of byte ≡ None → behind codes i text ≡ None
unfolding behind
codes_none codes text i byte lt is found =
    let here : code_of (get_or text i 0) ≡ None = ap code_of (sym is) ∙ found in
    rw (codes_first text i lt, here) refl

pub codes_end : (codes text : List ℕ) (i : ℕ) → length text ≤ i → behind codes i text ≡ Some codes
unfolding behind codes_in
codes_end codes text i all = rw (drop_of_length-le text all) (ap Some (append-nil codes))

pub codes_begin : (text : List ℕ) → codes_in text ≡ behind [] 0 text
unfolding behind
codes_begin text = same (codes_in text)
  where
    same : (o : Option (List ℕ)) → o ≡ option_map (λ more. [] ++ more) o
    same None = refl
    same (Some x) = refl
