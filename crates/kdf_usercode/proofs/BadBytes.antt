-- The first byte that no deck may have.
use Rattle.std.proofs.Common.{◌≡◌, ℕ, ◌+◌, ◌<◌, Bool, true, false, not, cond, ◌&&◌, List, [], ◌∷◌, ◌++◌, Some, None, refl, sym, ap, ◌∙◌, arith}
use Rattle.std.specs.List.{list_all, position, position_from}
use Rattle.std.specs.Option.{option_map}
use Rattle.std.proofs.lemmas.Bool.Decides.{nat_tests}
use Rattle.std.proofs.lemmas.Iterator.Adapters.{position_from-zero}
use Rattle.kdf_usercode.specs.declared.fault.DeckFault.TheVariants.{BadByte}
use Rattle.kdf_usercode.specs.Faults.{lesser, least, found}
use Rattle.kdf_usercode.specs.Grammar.{is_deck_byte, bytes_faults}

abbrev is_bad : ℕ → Bool
is_bad byte = not (is_deck_byte byte)

none-from : (n : ℕ) (bytes : List ℕ) → list_all is_deck_byte bytes ≡ true → position_from is_bad n bytes ≡ None
none-from n [] good = refl
none-from n (b ∷ bytes) good =
    elim (is_deck_byte b) as (λ t. (t && list_all is_deck_byte bytes) ≡ true → cond (not t) (Some n) (position_from is_bad (n + 1) bytes) ≡ None) [
      | true ↦ λ more. none-from (n + 1) bytes more
      | false ↦ λ wrong. absurd cc
    ] good

-- where each byte may be, none is bad
pub none-bad : (bytes : List ℕ) → list_all is_deck_byte bytes ≡ true → position is_bad bytes ≡ None
none-bad bytes good = position_from-zero is_bad bytes ∙ none-from 0 bytes good

-- a fault at an earlier place is the first
stays-first : (m n : ℕ) → m < n → lesser (Some (found BadByte m)) (Some (found BadByte n)) ≡ Some (found BadByte m)
stays-first m n lt = grind (arith, nat_tests)

-- a bad byte comes before those after it
first-bad : (m n : ℕ) (bytes : List ℕ) → m < n
    → lesser (Some (found BadByte m)) (option_map (found BadByte) (position_from is_bad n bytes)) ≡ Some (found BadByte m)
first-bad m n [] lt = refl
first-bad m n (b ∷ bytes) lt =
    elim (is_bad b) as (λ t. lesser (Some (found BadByte m)) (option_map (found BadByte) (cond t (Some n) (position_from is_bad (n + 1) bytes)))
    ≡ Some (found BadByte m)) [
      | true ↦ stays-first m n lt
      | false ↦ first-bad m (n + 1) bytes (omega arith)
    ]

least-from : (at : ℕ) (bytes : List ℕ) → least (bytes_faults at bytes) ≡ option_map (found BadByte) (position_from is_bad at bytes)
least-from at [] = refl
least-from at (b ∷ bytes) =
    elim (is_deck_byte b) as (λ t. least (cond t [] (found BadByte at ∷ []) ++ bytes_faults (at + 1) bytes) ≡ option_map (found BadByte)
    (cond (not t) (Some at) (position_from is_bad (at + 1) bytes))) [
      | true ↦ least-from (at + 1) bytes
      | false ↦ ap (lesser (Some (found BadByte at))) (least-from (at + 1) bytes) ∙ first-bad at (at + 1) bytes (omega arith)
    ]

-- the first of these faults is that of the first such byte
pub least-bytes : (text : List ℕ) → least (bytes_faults 0 text) ≡ option_map (found BadByte) (position is_bad text)
least-bytes text = least-from 0 text ∙ ap (option_map (found BadByte)) (sym (position_from-zero is_bad text))
