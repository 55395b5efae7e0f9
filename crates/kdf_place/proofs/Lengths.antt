-- How long an image is.
use Rattle.std.proofs.Common.{◌≡◌, ℕ, ◌+◌, ◌-◌, ◌*◌, ◌/◌, ◌≤◌, List, [], ◌∷◌, ◌++◌, length, length-append, sum, replicate, refl, ap, ◌∙◌, arith}
use Rattle.std.proofs.Math.ListN.{length-set}
use Rattle.std.proofs.lemmas.List.{length-replicate}
use Rattle.kdf_syllable.specs.Spelling.{spelling}
use Rattle.kdf_usercode.specs.declared.statement.Statement.{Statement}
use Rattle.kdf_usercode.specs.declared.statement.What.{What}
use Rattle.kdf_usercode.specs.declared.statement.What.TheVariants.{Declare, Program, Part, Constant, Reference, Star, Plain, Fetch, Keep, Go, Short, SetAddress}
use Rattle.kdf_usercode.specs.declared.statement.What.TheVariants.{Finish}
use Rattle.kdf_place.specs.declared.here.Here.{Here}
use Rattle.kdf_place.specs.declared.here.Section.{Section}
use Rattle.kdf_place.specs.Layout.{size_of, stores, words_for, round_up, advance, after, front, end_of}
use Rattle.kdf_place.specs.Names.{Names, names, groups}
use Rattle.kdf_place.specs.Placement.{order_of, spelt, filling, syllables_of, syllables, words_of, value, with_constant, with_constants, first_word, words}

pub length-spelt : (names : Names) (section : Section) (what : What) → length (spelt (order_of names section what)) ≡ size_of what
unfolding spelling
length-spelt names section (Declare group n) = refl
length-spelt names section (Program v) = refl
length-spelt names section (Part p v) = refl
length-spelt names section (Constant n constant) = refl
length-spelt names section (Reference r) = refl
length-spelt names section Star = refl
length-spelt names section (Plain order) = refl
length-spelt names section (Fetch place q u) = refl
length-spelt names section (Keep place q u) = refl
length-spelt names section (Go c target) = refl
length-spelt names section (Short r q) = refl
length-spelt names section (SetAddress place) = refl
length-spelt names section Finish = refl

pub round_up-above : (at : ℕ) → at ≤ round_up at
round_up-above at = omega arith

pub length-filling : (at : ℕ) → at + length (filling at) ≡ round_up at
length-filling at = omega (arith, length-replicate {A = ℕ} (round_up at - at) 1, round_up-above at)

length-opening : (at n : ℕ) → at + length (filling at ++ replicate (6 * n) 0) ≡ round_up at + 6 * n
length-opening at n =
    omega (arith, length-append (filling at) (replicate (6 * n) 0), length-filling at, length-replicate {A = ℕ} (6 * n) 0)

-- a statement goes as far as its syllables
pub length-statement : (names : Names) (here : Here) (what : What) → here.at + length (syllables_of names here what) ≡ advance here.at what
length-statement names here Star = length-filling here.at
length-statement names here (Program v) = length-opening here.at (stores v)
length-statement names here (Part p v) = length-opening here.at (stores v)
length-statement names here (Declare group n) = refl
length-statement names here (Constant n constant) = refl
length-statement names here (Reference r) = refl
length-statement names here Finish = refl
length-statement names here (Plain order) = ap (λ n. here.at + n) (length-spelt names here.section (Plain order))
length-statement names here (Fetch place q u) = ap (λ n. here.at + n) (length-spelt names here.section (Fetch place q u))
length-statement names here (Keep place q u) = ap (λ n. here.at + n) (length-spelt names here.section (Keep place q u))
length-statement names here (Go c target) = ap (λ n. here.at + n) (length-spelt names here.section (Go c target))
length-statement names here (Short r q) = ap (λ n. here.at + n) (length-spelt names here.section (Short r q))
length-statement names here (SetAddress place) = ap (λ n. here.at + n) (length-spelt names here.section (SetAddress place))

-- all statements go up to a full word
pub length-syllables : (names : Names) (here : Here) (ss : List Statement) → here.at + length (syllables names here ss) ≡ round_up (end_of here ss)
length-syllables names here [] = length-filling here.at
length-syllables names here (s ∷ ss) =
    omega (
      arith,
      length-append (syllables_of names here s.what) (syllables names (after here s) ss),
      length-statement names here s.what,
      length-syllables names (after here s) ss,
    )

pub length-words_of : (bytes : List ℕ) → length (words_of bytes) ≡ length bytes / 6
length-words_of [] = refl
length-words_of (a ∷ []) = refl
length-words_of (a ∷ b ∷ []) = refl
length-words_of (a ∷ b ∷ c ∷ []) = refl
length-words_of (a ∷ b ∷ c ∷ d ∷ []) = refl
length-words_of (a ∷ b ∷ c ∷ d ∷ e ∷ []) = refl
length-words_of (a ∷ b ∷ c ∷ d ∷ e ∷ f ∷ rest) = omega (arith, length-words_of rest)

length-constant : (names : Names) (section : Section) (what : What) (ws : List ℕ) → length (with_constant names section what ws) ≡ length ws
length-constant names section (Constant n constant) ws = length-set ws (section.base + n) (value names section constant)
length-constant names section (Declare group n) ws = refl
length-constant names section (Program v) ws = refl
length-constant names section (Part p v) ws = refl
length-constant names section (Reference r) ws = refl
length-constant names section Star ws = refl
length-constant names section (Plain order) ws = refl
length-constant names section (Fetch place q u) ws = refl
length-constant names section (Keep place q u) ws = refl
length-constant names section (Go c target) ws = refl
length-constant names section (Short r q) ws = refl
length-constant names section (SetAddress place) ws = refl
length-constant names section Finish ws = refl

pub length-constants : (names : Names) (here : Here) (ss : List Statement) (ws : List ℕ) → length (with_constants names here ss ws) ≡ length ws
length-constants names here [] ws = refl
length-constants names here (s ∷ ss) ws =
    length-constants names (after here s) ss (with_constant names here.section s.what ws) ∙ length-constant names here.section s.what ws

pub length-first : (names : Names) → length (first_word names) ≡ 6
unfolding spelling
length-first names = refl

pub words-image : (m : Names) (ss : List Statement) → length (words m ss) ≡ words_for (end_of front ss) + sum m.groups
words-image m ss =
    let bytes = first_word m ++ syllables m front ss in
    let zeros : List ℕ = replicate (sum m.groups) 0 in
    omega (
      arith,
      length-constants m front ss (words_of bytes ++ zeros),
      length-append (words_of bytes) zeros,
      length-replicate {A = ℕ} (sum m.groups) 0,
      length-words_of bytes,
      length-append (first_word m) (syllables m front ss),
      length-first m,
      length-syllables m front ss,
    )

-- an image has the words of its syllables and those of its groups
pub words-length : (ss : List Statement) → length (words (names ss) ss) ≡ words_for (end_of front ss) + sum (groups ss)
words-length ss = words-image (names ss) ss
