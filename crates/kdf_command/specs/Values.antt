-- The words after a command's name, as `clap` reads them.
use Rattle.std.specs.Prelude.{◌≡◌, ◌≢◌, ℕ, ◌==◌, Bool, true, false, List, [], ◌∷◌, Option, Some, None, MatchOption, slice_index}
use Rattle.std.specs.List.{list_any}
use Rattle.clap.specs.Words.{App, Rule, Text, fault_of, found_of, matches_of, new_app, new_rule, rows_of, with_rule}
use Rattle.clap.specs.Simple.{on_top}
use Rattle.clap.specs.declared.builder.action.ArgAction.TheVariants.{Set}
use Rattle.clap.specs.declared.parser.matches.ArgMatches.{ArgMatches}

-- the word begins with `-` (45)
abbrev pub has_hyphen : List ℕ → Bool
has_hyphen word = slice_index word 0 == 45

abbrev pub any_hyphen : List (List ℕ) → Bool
any_hyphen words = list_any has_hyphen words

-- no words
abbrev pub is_empty : List (List ℕ) → Bool
is_empty [] = true
is_empty (word ∷ words) = false

-- the word of a list of one
abbrev pub only : List (List ℕ) → Option (List ℕ)
only (word ∷ []) = Some word
only _ = None

-- the words of a list of two
abbrev pub both : List (List ℕ) → Option (List ℕ × List ℕ)
both (word ∷ other ∷ []) = Some (word, other)
both _ = None

-- a command to `clap` that takes no value, and has no flags either
abbrev pub bare : Text → App
bare name = on_top (λ s. record s { no_binary_name = true; disable_help_flag = true }) (new_app name)

-- a value that a command needs
abbrev pub needed : Text → Rule
needed id = record (new_rule id) { required = true; action = Some Set }

-- a command to `clap` that takes one value
abbrev pub with_one : Text → Text → App
with_one name id = with_rule (bare name) (needed id)

-- a command to `clap` that takes two values
abbrev pub with_two : Text → Text → Text → App
with_two name id other = with_rule (with_one name id) (needed other)

-- the words have a fault to the command; or they have none, and these are their matches
abbrev pub Parses : App → List (List ℕ) → Option ArgMatches → Type 0
Parses app words parsed = MatchOption parsed (fault_of app words ≢ [])
    (λ m. (fault_of app words ≡ []) × (rows_of (found_of m) ≡ matches_of app words))
