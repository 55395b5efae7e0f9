-- Words of which one begins with `-` are no command.
use Rattle.std.proofs.Common.{◌≡◌, ◌⊎◌, inl, inr, ⊎_elim, ◌||◌, ℕ, Bool, true, false, List, [], ◌∷◌, Option, Some, None, option_map, if◌then◌else◌, ◌∙◌, refl}
use Rattle.std.proofs.Common.{sym, subst, ap, rules}
use Rattle.std.specs.Prelude.{codes}
use Rattle.std.proofs.lemmas.Slice.Eq.{bytes_eq-Decides}
use Rattle.kdf_text.specs.Lines.{is_text}
use Rattle.kdf_text.specs.Numbers.{number_in}
use Rattle.kdf_command.specs.Commands.{address_of_word, command, command_of_name, command_of_value, command_of_values, slot_of_word, watch_at}
use Rattle.kdf_command.specs.Values.{any_hyphen, has_hyphen}
use Rattle.kdf_command.specs.declared.command.Command.{Command}
use Rattle.kdf_command.specs.declared.command.Command.TheVariants.{Alone, Asm, Make}

or_true : (a b : Bool) → (a || b) ≡ true → (a ≡ true) ⊎ (b ≡ true)
or_true true b h = inl refl
or_true false b h = inr h

alone : (word : List ℕ) → any_hyphen (word ∷ []) ≡ true → has_hyphen word ≡ true
alone word h = ⊎_elim (λ is. is) (λ none. absurd cc) (or_true (has_hyphen word) (any_hyphen []) h)

-- ---- such a word is no name, and no number

other_text : (name word : List ℕ) → has_hyphen name ≡ false → has_hyphen word ≡ true → is_text name word ≡ false
other_text name word plain is = by (is_text name word) refl
  where
    by : (b : Bool) → is_text name word ≡ b → b ≡ false
    by false e = refl
    by true e =
        let same : word ≡ name = (bytes_eq-Decides word name).0 e in
        let bad : has_hyphen name ≡ true = subst (λ w. has_hyphen w ≡ true) same is in
        absurd cc

no_number : (most : ℕ) (word : List ℕ) → has_hyphen word ≡ true → number_in 0 most word ≡ None
no_number most [] is = refl
no_number most (x ∷ xs) is =
    let e : x ≡ 45 = search rules in
    subst (λ y. number_in 0 most (y ∷ xs) ≡ None) (sym e) (search rules)

-- ---- so there is no command

passed : (b : Bool) (x y : Option Command) → b ≡ false → y ≡ None → (if b then x else y) ≡ None
passed true x y other none = absurd cc
passed false x y other none = none

neither : (b : Bool) (x y : Option Command) → x ≡ None → y ≡ None → (if b then x else y) ≡ None
neither true x y first second = first
neither false x y first second = second

no_name : (name : List ℕ) → has_hyphen name ≡ true → command_of_name name ≡ None
no_name name is =
    passed _ _ _ (other_text (codes "run") name refl is) (passed _ _ _ (other_text (codes "save") name refl is)
    (passed _ _ _ (other_text (codes "resume") name refl is) (passed _ _ _ (other_text (codes "check") name refl is) refl)))

no_name_of_value : (name value : List ℕ) → has_hyphen name ≡ true → command_of_value name value ≡ None
no_name_of_value name value is =
    passed _ _ _ (other_text (codes "alone") name refl is) (passed _ _ _ (other_text (codes "asm") name refl is)
    (passed _ _ _ (other_text (codes "make") name refl is) refl))

no_value : (name value : List ℕ) → has_hyphen value ≡ true → command_of_value name value ≡ None
no_value name value is =
    neither _ _ _ (ap (option_map Alone) (no_number 3 value is)) (neither _ _ _ (ap (option_map Asm) (no_number 3 value is))
    (neither _ _ _ (ap (option_map Make) (no_number 65535 value is)) refl))

no_name_of_values : (name value second : List ℕ) → has_hyphen name ≡ true → command_of_values name value second ≡ None
no_name_of_values name value second is = passed _ _ _ (other_text (codes "watch") name refl is) refl

no_address : (slot : Option ℕ) → watch_at slot None ≡ None
no_address None = refl
no_address (Some slot) = refl

no_values : (name value second : List ℕ) → (has_hyphen value ≡ true) ⊎ (any_hyphen (second ∷ []) ≡ true) → command_of_values name value second ≡ None
no_values name value second (inl is) = neither _ _ _ (ap (λ slot. watch_at slot (address_of_word second)) (no_number 3 value is)) refl
no_values name value second (inr is) =
    let none : watch_at (slot_of_word value) (address_of_word second) ≡ None =
    ap (watch_at (slot_of_word value)) (no_number 8191 second (alone second is)) ∙ no_address (slot_of_word value) in
    neither (is_text (codes "watch") name) _ None none refl

pub no_command : (words : List (List ℕ)) → any_hyphen words ≡ true → command words ≡ None
unfolding command
no_command [] h = refl
no_command (name ∷ []) h = no_name name (alone name h)
no_command (name ∷ value ∷ []) h =
    ⊎_elim (no_name_of_value name value) (λ later. no_value name value (alone value later)) (or_true (has_hyphen name) (any_hyphen (value ∷ [])) h)
no_command (name ∷ value ∷ second ∷ []) h =
    ⊎_elim (no_name_of_values name value second) (λ later. no_values name value second (or_true (has_hyphen value) (any_hyphen (second ∷ [])) later))
    (or_true (has_hyphen name) (any_hyphen (value ∷ second ∷ [])) h)
no_command (name ∷ value ∷ second ∷ more ∷ rest) h = refl
