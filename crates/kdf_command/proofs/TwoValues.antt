-- What `clap` makes of words that don't begin with `-`, for a command that takes two values.
use Rattle.std.proofs.Common.{◌≡◌, ◌≢◌, false, List, [], ◌∷◌, Option, Some, None, MatchOption, option_map, refl, subst, ap, ap₂, ◌∙◌}
use Rattle.std.specs.Borrow.{Bor}
use Rattle.std.specs.Str.{bytes_eq}
use Rattle.std.specs.Option.{option_zip}
use Rattle.clap.specs.Matches.{first_value, found_of}
use Rattle.clap.specs.Walk.{Held, Text, Walk, arg_by_index, finished, first_of, nothing_held, reading_by, to_positional, value, walk, walk_from, walked}
use Rattle.clap.specs.Walk.{with_values}
use Rattle.clap.specs.Simple.{App, built, matches_of}
use Rattle.clap.specs.Kinds.{Kinds, or_else}
use Rattle.clap.specs.Faults.{defaults_fault, fault_of, step_fault, walk_fault}
use Rattle.clap.specs.declared.error.kind.ErrorKind.TheVariants.{UnknownArgument, MissingRequiredArgument}
use Rattle.clap.specs.declared.parser.matches.ValueSource.TheVariants.{CommandLine}
use Rattle.clap.specs.declared.parser.matches.ArgMatches.{ArgMatches}
use Rattle.clap.proofs.WalkLemmas.{first_value-rows}
use Rattle.kdf_command.specs.Values.{Parses, any_hyphen, both, has_hyphen, needed, with_two}
use Rattle.kdf_command.proofs.Values.{at, by_outcome, faulty_walk, first_plain, is_fault, one_held, or_false_right, outcome, same_text, second_plain}
use Rattle.kdf_command.proofs.Values.{walk_plain, walked_plain}

-- a command that takes two values, of which neither has the other's name: where the walk is after the first word, and after the second
module _ (name id other : Text) (apart : bytes_eq id other ≡ false) where
  two_held : Text → Text → Held
  two_held word more = record { rows = with_values id (reading_by (needed id)) CommandLine (word ∷ []) []; pending = Some (other, more ∷ []); skip = 0 }

  two_first : (word : Text) → has_hyphen word ≡ false → walked (built (with_two name id other)).top.rules [] (at 1 nothing_held) word ≡ at 2 (one_held id word)
  unfolding one_held
  two_first word plain = walked_plain (built (with_two name id other)).top.rules 1 nothing_held word plain

  two_step : (word : Text) → step_fault (built (with_two name id other)).top 2 (one_held id word) value ≡ []
  unfolding one_held
  two_step word = simp (same_text, apart) refl

  two_at : (word more : Text) → to_positional (built (with_two name id other)).top.rules (arg_by_index (built (with_two name id other)).top.rules 2) more
      (at 2 (one_held id word)) (one_held id word)
      ≡ at 3 (two_held word more)
  unfolding one_held two_held
  two_at word more = simp (same_text, apart) refl

  two_second : (word more : Text) → has_hyphen more ≡ false → walked (built (with_two name id other)).top.rules [] (at 2 (one_held id word)) more
      ≡ at 3 (two_held word more)
  two_second word more plain = walked_plain (built (with_two name id other)).top.rules 2 (one_held id word) more plain ∙ two_at word more

  two_walk : (word more : Text) → has_hyphen word ≡ false → has_hyphen more ≡ false
      → walk (built (with_two name id other)).top.rules [] nothing_held (word ∷ more ∷ []) ≡ at 3 (two_held word more)
  two_walk word more first second =
      ap (λ (w : Walk). walked (built (with_two name id other)).top.rules [] w more) (two_first word first) ∙ two_second word more second

  two_outcome : (word more : Text) → outcome (built (with_two name id other)) [] (at 3 (two_held word more)) ≡ []
  unfolding outcome two_held defaults_fault
  two_outcome word more = simp (same_text, apart) refl

  -- the fault of the walk is that of the words after the second
  two_rest : (word more : Text) (rest : List Text) → has_hyphen word ≡ false → has_hyphen more ≡ false
      → walk_fault (built (with_two name id other)).top [] (walk_from nothing_held) (word ∷ more ∷ rest)
      ≡ walk_fault (built (with_two name id other)).top [] (at 3 (two_held word more)) rest
  unfolding one_held
  two_rest word more rest first second =
      let s = (built (with_two name id other)).top in
      walk_plain s 1 nothing_held word (more ∷ rest) first
      ∙ walk_plain s 2 (one_held id word) more rest second
      ∙ ap₂ (λ (k : Kinds) (w : Walk). or_else k (walk_fault s [] w rest)) (two_step word) (two_at word more)

  -- two words have no fault, and are the values; other words have one
  two_both : (word more : Text) → has_hyphen word ≡ false → has_hyphen more ≡ false → fault_of (with_two name id other) (word ∷ more ∷ []) ≡ []
  unfolding walk_fault
  two_both word more first second =
      by_outcome (with_two name id other) (word ∷ more ∷ []) refl
      ∙ ap₂ (outcome (built (with_two name id other))) (two_rest word more [] first second) (two_walk word more first second)
      ∙ two_outcome word more

  two_none : fault_of (with_two name id other) [] ≢ []
  unfolding walk_fault defaults_fault
  two_none = is_fault _ MissingRequiredArgument [] refl

  two_one : (word : Text) → has_hyphen word ≡ false → fault_of (with_two name id other) (word ∷ []) ≢ []
  unfolding walk_fault defaults_fault outcome one_held
  two_one word plain =
      is_fault _ MissingRequiredArgument []
      (by_outcome (with_two name id other) (word ∷ []) refl
      ∙ ap₂ (outcome (built (with_two name id other))) (walk_plain (built (with_two name id other)).top 1 nothing_held word [] plain) (two_first word plain)
      ∙ simp (same_text, apart) refl)

  two_more : (word more last : Text) (rest : List Text) → any_hyphen (word ∷ more ∷ last ∷ rest) ≡ false
      → fault_of (with_two name id other) (word ∷ more ∷ last ∷ rest) ≢ []
  two_more word more last rest h =
      let s = (built (with_two name id other)).top in
      let later = or_false_right (has_hyphen word) (any_hyphen (more ∷ last ∷ rest)) h in
      is_fault _ UnknownArgument []
      (by_outcome (with_two name id other) (word ∷ more ∷ last ∷ rest) refl
      ∙ faulty_walk (built (with_two name id other)) UnknownArgument [] _ _
      (two_rest word more (last ∷ rest) (first_plain word (more ∷ last ∷ rest) h) (first_plain more (last ∷ rest) later)
      ∙ walk_plain s 3 (two_held word more) last rest (second_plain more last rest later)))

  two_rows : (word more : Text) → has_hyphen word ≡ false → has_hyphen more ≡ false
      → (first_of id (matches_of (with_two name id other) (word ∷ more ∷ [])) ≡ Some word)
      × (first_of other (matches_of (with_two name id other) (word ∷ more ∷ [])) ≡ Some more)
  unfolding two_held
  two_rows word more first second = (
    ap (λ (w : Walk). first_of id (finished (built (with_two name id other)).top.rules w.held)) (two_walk word more first second)
        ∙ simp (same_text, apart) refl,
    ap (λ (w : Walk). first_of other (finished (built (with_two name id other)).top.rules w.held)) (two_walk word more first second)
        ∙ simp (same_text, apart) refl,
  )

  two_parses : (words : List Text) (r : Option ArgMatches) → any_hyphen words ≡ false → Parses (with_two name id other) words r
      → MatchOption r (both words ≡ None) (λ m. option_zip (first_value (found_of m) id) (first_value (found_of m) other) ≡ both words)
  two_parses [] None h fault = refl
  two_parses (word ∷ []) None h fault = refl
  two_parses (word ∷ more ∷ []) None h fault = absurd (fault (two_both word more (first_plain word (more ∷ []) h) (second_plain word more [] h)))
  two_parses (word ∷ more ∷ last ∷ rest) None h fault = refl
  two_parses [] (Some m) h found = absurd (two_none found.0)
  two_parses (word ∷ []) (Some m) h found = absurd (two_one word (first_plain word [] h) found.0)
  two_parses (word ∷ more ∷ []) (Some m) h found =
      let rows = two_rows word more (first_plain word (more ∷ []) h) (second_plain word more [] h) in
      ap₂ option_zip (first_value-rows (found_of m) id ∙ ap (first_of id) found.1 ∙ rows.0) (first_value-rows (found_of m) other ∙ ap (first_of other) found.1
      ∙ rows.1)
  two_parses (word ∷ more ∷ last ∷ rest) (Some m) h found = absurd (two_more word more last rest h found.0)

  pub two_values : (app : App) (words : List Text) (r : Option ArgMatches) → app ≡ with_two name id other → any_hyphen words ≡ false → Parses app words r
      → MatchOption r (both words ≡ None) (λ m. option_zip (first_value (found_of m) id) (first_value (found_of m) other) ≡ both words)
  two_values app words r e h found = two_parses words r h (subst (λ a. Parses a words r) e found)

-- the texts of two values
zipped_texts : (x y : Option (Bor Text)) → option_map (λ (v : Bor Text × Bor Text). (v.0.now, v.1.now)) (option_zip x y) ≡ option_zip
    (option_map (λ (v : Bor Text). v.now) x) (option_map (λ (v : Bor Text). v.now) y)
zipped_texts None y = refl
zipped_texts (Some v) None = refl
zipped_texts (Some v) (Some w) = refl

pub zipped : (z : Option (Bor Text × Bor Text)) (x y : Option (Bor Text)) (t u : Option Text) → z ≡ option_zip x y → option_map (λ (v : Bor Text). v.now) x ≡ t
    → option_map (λ (v : Bor Text). v.now) y ≡ u
    → option_map (λ (v : Bor Text × Bor Text). (v.0.now, v.1.now)) z ≡ option_zip t u
zipped z x y t u is first second = ap (option_map (λ (v : Bor Text × Bor Text). (v.0.now, v.1.now))) is ∙ zipped_texts x y ∙ ap₂ option_zip first second
