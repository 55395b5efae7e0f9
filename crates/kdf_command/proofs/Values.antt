-- What `clap` makes of words that don't begin with `-`, for a command that takes no value and for one that takes one.
use Rattle.std.proofs.Common.{◌≡◌, ◌≢◌, ◌||◌, ◌&&◌, ℕ, Bool, true, false, List, [], ◌∷◌, Option, Some, None, MatchOption, is_some, if◌then◌else◌, refl, sym}
use Rattle.std.proofs.Common.{subst, ap, ap₂, ◌∙◌}
use Rattle.std.specs.Str.{bytes_eq}
use Rattle.std.specs.Option.{option_map_or}
use Rattle.std.proofs.lemmas.Slice.Eq.{bytes_eq-Decides}
use Rattle.clap.specs.Lexer.{long_of, short_of}
use Rattle.clap.specs.Matches.{first_value, found_of}
use Rattle.clap.specs.Walk.{Held, Rule, Step, Text, Walk, after_step, arg_by_index, finished, first_of, idle, long_or_other, nothing_held, settled}
use Rattle.clap.specs.Walk.{short_or_plain, to_positional, trailing, value, walk, walk_from, walked, word_met}
use Rattle.clap.specs.Simple.{App, Shape, built, entered, is_simple, matches_of, names_of}
use Rattle.clap.specs.Kinds.{Kinds, or_else}
use Rattle.clap.specs.Faults.{bundle_fault, check_fault, defaults_fault, entered_fault, fault_of, flag_word_fault, is_free_app, is_simple_and_free, other_fault}
use Rattle.clap.specs.Faults.{settle_fault, step_fault, turn_fault, walk_fault}
use Rattle.clap.specs.declared.error.kind.ErrorKind.{ErrorKind}
use Rattle.clap.specs.declared.error.kind.ErrorKind.TheVariants.{UnknownArgument, MissingRequiredArgument}
use Rattle.clap.specs.declared.parser.matches.ArgMatches.{ArgMatches}
use Rattle.clap.proofs.WalkLemmas.{first_value-rows}
use Rattle.kdf_command.specs.Values.{Parses, any_hyphen, bare, has_hyphen, is_empty, only, with_one}

and_true_left : (a b : Bool) → (a && b) ≡ true → a ≡ true
and_true_left true b h = refl
and_true_left false b h = h

or_false_left : (a b : Bool) → (a || b) ≡ false → a ≡ false
or_false_left false b h = refl
or_false_left true b h = h

pub or_false_right : (a b : Bool) → (a || b) ≡ false → b ≡ false
or_false_right false b h = h
or_false_right true b h = absurd (cc)

pub simple : (app : App) → is_simple_and_free app ≡ true → is_simple app ≡ true
simple app h = and_true_left (is_simple app) (is_free_app (built app)) h

pub same_text : (t : Text) → bytes_eq t t ≡ true
same_text t = (bytes_eq-Decides t t).1 refl

-- the first two of words that don't begin with `-`
pub first_plain : (word : Text) (rest : List Text) → any_hyphen (word ∷ rest) ≡ false → has_hyphen word ≡ false
first_plain word rest h = or_false_left (has_hyphen word) (any_hyphen rest) h

pub second_plain : (word more : Text) (rest : List Text) → any_hyphen (word ∷ more ∷ rest) ≡ false → has_hyphen more ≡ false
second_plain word more rest h = first_plain more rest (or_false_right (has_hyphen word) (any_hyphen (more ∷ rest)) h)

-- such a word is no flag
no_long : (word : Text) → has_hyphen word ≡ false → long_of word ≡ None
no_long [] h = refl
no_long (x ∷ xs) h = rw h refl

no_short : (word : Text) → has_hyphen word ≡ false → short_of word ≡ None
no_short [] h = refl
no_short (x ∷ xs) h = rw h refl

no_dashes : (word : Text) → has_hyphen word ≡ false → bytes_eq word (45 ∷ 45 ∷ []) ≡ false
no_dashes [] h = refl
no_dashes (x ∷ xs) h = rw h refl

-- so it goes to the positional of its place, without a fault of its own
plain_met : (c : List Rule) (place : ℕ) (word : Text) (h : Held) → has_hyphen word ≡ false → word_met c [] false idle place word h ≡ (h, value)
plain_met c place word h plain =
    ap (λ b. if b then (h, trailing place) else long_or_other c idle word (long_of word) h) (no_dashes word plain)
    ∙ ap (λ o. long_or_other c idle word o h) (no_long word plain)
    ∙ ap (λ o. short_or_plain c idle word o h) (no_short word plain)

plain_fault : (s : Shape) (word : Text) (h : Held) → has_hyphen word ≡ false → other_fault s None word h ≡ []
plain_fault s word h plain =
    ap (λ b. if b then [] else flag_word_fault s.rules s.args_override_self (long_of word) word h) (no_dashes word plain)
    ∙ ap (λ o. flag_word_fault s.rules s.args_override_self o word h) (no_long word plain)
    ∙ ap (λ o. option_map_or (λ flags. bundle_fault s.rules s.args_override_self flags h) o []) (no_short word plain)

-- between two words, where the next positional is that of the place
abbrev pub at : ℕ → Held → Walk
at place held = record {
  held = held;
  waiting = idle;
  position = place;
  is_trailing = false;
  stopped = None;
}

turn_plain : (s : Shape) (place : ℕ) (h : Held) (word : Text) → has_hyphen word ≡ false → turn_fault s [] (at place h) word ≡ step_fault s place h value
turn_plain s place h word plain =
    ap₂ (λ (k : Kinds) (met : Held × Step). or_else k (step_fault s place met.0 met.1)) (plain_fault s word h plain) (plain_met s.rules place word h plain)

pub walked_plain : (c : List Rule) (place : ℕ) (h : Held) (word : Text) → has_hyphen word ≡ false
    → walked c [] (at place h) word ≡ to_positional c (arg_by_index c place) word (at place h) h
unfolding walked
walked_plain c place h word plain =
    ap (λ (met : Held × Step). after_step c word (at place h) met.0 met.1) (plain_met c place word h plain)

pub walk_plain : (s : Shape) (place : ℕ) (h : Held) (word : Text) (rest : List Text) → has_hyphen word ≡ false
    → walk_fault s [] (at place h) (word ∷ rest)
    ≡ or_else (step_fault s place h value) (walk_fault s [] (to_positional s.rules (arg_by_index s.rules place) word (at place h) h) rest)
unfolding walk_fault
walk_plain s place h word rest plain =
    ap₂ (λ (k : Kinds) (w : Walk). or_else k (walk_fault s [] w rest)) (turn_plain s place h word plain) (walked_plain s.rules place h word plain)

-- the fault of words, from that of the walk over them and from where it ends
unfoldable pub outcome : App → Kinds → Walk → Kinds
outcome a of_walk w =
    or_else of_walk (or_else (entered_fault a w.stopped) (or_else (settle_fault a.top.rules a.top.args_override_self w.held)
    (or_else (defaults_fault (settled a.top.rules w.held).rows a.top.rules)
    (check_fault a.top (finished a.top.rules w.held) (is_some (entered a w.stopped))))))

pub by_outcome : (a : App) (words : List Text) → a.top.no_binary_name ≡ true
    → fault_of a words ≡ outcome (built a) (walk_fault (built a).top (names_of (built a)) (walk_from nothing_held) words)
    (walk (built a).top.rules (names_of (built a)) nothing_held words)
unfolding outcome
by_outcome a words named = rw named refl

pub faulty_walk : (a : App) (k : ErrorKind) (ks of_walk : Kinds) (w : Walk) → of_walk ≡ k ∷ ks → outcome a of_walk w ≡ k ∷ ks
unfolding outcome
faulty_walk a k ks of_walk w e = rw e refl

pub is_fault : (kinds : Kinds) (k : ErrorKind) (ks : Kinds) → kinds ≡ k ∷ ks → kinds ≢ []
is_fault kinds k ks e none = let bad : k ∷ ks ≡ [] = sym e ∙ none in cc

-- a command that takes no value: no words have no fault, and others have one
bare_none : (name : Text) → fault_of (bare name) [] ≡ []
unfolding walk_fault defaults_fault
bare_none name = refl

bare_some : (name word : Text) (rest : List Text) → any_hyphen (word ∷ rest) ≡ false → fault_of (bare name) (word ∷ rest) ≢ []
bare_some name word rest h =
    is_fault _ UnknownArgument []
    (by_outcome (bare name) (word ∷ rest) refl
    ∙ faulty_walk (built (bare name)) UnknownArgument [] _ _ (walk_plain (built (bare name)).top 1 nothing_held word rest (first_plain word rest h)))

bare_parses : (name : Text) (words : List Text) (r : Option ArgMatches) → any_hyphen words ≡ false → Parses (bare name) words r → is_some r ≡ is_empty words
bare_parses name [] None h fault = absurd (fault (bare_none name))
bare_parses name (word ∷ rest) None h fault = refl
bare_parses name [] (Some m) h found = refl
bare_parses name (word ∷ rest) (Some m) h found = absurd (bare_some name word rest h found.0)

pub no_value : (app : App) (name : Text) (words : List Text) (r : Option ArgMatches) → app ≡ bare name → any_hyphen words ≡ false → Parses app words r
    → is_some r ≡ is_empty words
no_value app name words r e h found = bare_parses name words r h (subst (λ a. Parses a words r) e found)

-- a command that takes one value: where the walk is after the first word
unfoldable pub one_held : Text → Text → Held
one_held id word = record { rows = []; pending = Some (id, word ∷ []); skip = 0 }

one_walk : (name id word : Text) → has_hyphen word ≡ false
    → walk (built (with_one name id)).top.rules [] nothing_held (word ∷ []) ≡ at 2 (one_held id word)
unfolding one_held
one_walk name id word plain = walked_plain (built (with_one name id)).top.rules 1 nothing_held word plain

one_outcome : (name id word : Text) → outcome (built (with_one name id)) [] (at 2 (one_held id word)) ≡ []
unfolding outcome one_held defaults_fault
one_outcome name id word = simp same_text refl

-- one word has no fault, and is the value; no words have one, and so have more
one_just : (name id word : Text) → has_hyphen word ≡ false → fault_of (with_one name id) (word ∷ []) ≡ []
unfolding walk_fault
one_just name id word plain =
    by_outcome (with_one name id) (word ∷ []) refl
    ∙ ap₂ (outcome (built (with_one name id))) (walk_plain (built (with_one name id)).top 1 nothing_held word [] plain) (one_walk name id word plain)
    ∙ one_outcome name id word

one_row : (name id word : Text) → has_hyphen word ≡ false → first_of id (matches_of (with_one name id) (word ∷ [])) ≡ Some word
unfolding one_held
one_row name id word plain =
    ap (λ (w : Walk). first_of id (finished (built (with_one name id)).top.rules w.held)) (one_walk name id word plain)
    ∙ simp same_text refl

one_none : (name id : Text) → fault_of (with_one name id) [] ≢ []
unfolding walk_fault defaults_fault
one_none name id = is_fault _ MissingRequiredArgument [] refl

one_more : (name id word more : Text) (rest : List Text) → any_hyphen (word ∷ more ∷ rest) ≡ false → fault_of (with_one name id) (word ∷ more ∷ rest) ≢ []
unfolding one_held
one_more name id word more rest h =
    let s = (built (with_one name id)).top in
    is_fault _ UnknownArgument []
    (by_outcome (with_one name id) (word ∷ more ∷ rest) refl
    ∙ faulty_walk (built (with_one name id)) UnknownArgument [] _ _
    (walk_plain s 1 nothing_held word (more ∷ rest) (first_plain word (more ∷ rest) h)
    ∙ walk_plain s 2 (one_held id word) more rest (second_plain word more rest h)))

one_parses : (name id : Text) (words : List Text) (r : Option ArgMatches) → any_hyphen words ≡ false → Parses (with_one name id) words r
    → MatchOption r (only words ≡ None) (λ m. first_value (found_of m) id ≡ only words)
one_parses name id [] None h fault = refl
one_parses name id (word ∷ []) None h fault = absurd (fault (one_just name id word (first_plain word [] h)))
one_parses name id (word ∷ more ∷ rest) None h fault = refl
one_parses name id [] (Some m) h found = absurd (one_none name id found.0)
one_parses name id (word ∷ []) (Some m) h found =
    first_value-rows (found_of m) id ∙ ap (first_of id) found.1 ∙ one_row name id word (first_plain word [] h)
one_parses name id (word ∷ more ∷ rest) (Some m) h found = absurd (one_more name id word more rest h found.0)

pub one_value : (app : App) (name id : Text) (words : List Text) (r : Option ArgMatches) → app ≡ with_one name id → any_hyphen words ≡ false
    → Parses app words r
    → MatchOption r (only words ≡ None) (λ m. first_value (found_of m) id ≡ only words)
one_value app name id words r e h found = one_parses name id words r h (subst (λ a. Parses a words r) e found)
