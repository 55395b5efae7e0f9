-- The command of a name and two values.
use Rattle.std.proofs.Common.{◌≡◌, List, [], ◌∷◌, ℕ, Option, Some, None, MatchOption, option_map, refl, ap, ◌∙◌}
use Rattle.std.specs.Prelude.{codes}
use Rattle.std.specs.Borrow.{Bor}
use Rattle.kdf_command.specs.Commands.{address_of_word, command, slot_of_word, watch_at}
use Rattle.kdf_command.specs.Values.{both}
use Rattle.kdf_command.specs.declared.command.Command.{Command}

abbrev watch_by : Option (List ℕ × List ℕ) → Option Command
watch_by None = None
watch_by (Some v) = watch_at (slot_of_word v.0) (address_of_word v.1)

-- its words are exactly two
watch_words : (words : List (List ℕ)) → watch_by (both words) ≡ command (codes "watch" ∷ words)
unfolding command
watch_words [] = refl
watch_words (value ∷ []) = refl
watch_words (value ∷ second ∷ []) = refl
watch_words (value ∷ second ∷ more ∷ rest) = refl

watch_found : (found : Option (Bor (List ℕ) × Bor (List ℕ))) (r : Option Command) (P : Type 0)
    → MatchOption found (r ≡ None) (λ v. (r ≡ watch_at (slot_of_word v.0.now) (address_of_word v.1.now)) × P)
    → r ≡ watch_by (option_map (λ (v : Bor (List ℕ) × Bor (List ℕ)). (v.0.now, v.1.now)) found)
watch_found None r P h = h
watch_found (Some v) r P h = h.0

pub watch_is : (words : List (List ℕ)) (found : Option (Bor (List ℕ) × Bor (List ℕ))) (r : Option Command) (P : Type 0)
    → option_map (λ (v : Bor (List ℕ) × Bor (List ℕ)). (v.0.now, v.1.now)) found ≡ both words
    → MatchOption found (r ≡ None) (λ v. (r ≡ watch_at (slot_of_word v.0.now) (address_of_word v.1.now)) × P) → r ≡ command (codes "watch" ∷ words)
watch_is words found r P two h = watch_found found r P h ∙ ap watch_by two ∙ watch_words words
