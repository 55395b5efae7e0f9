-- A `*` directly after another does nothing.
use Rattle.std.proofs.Common.{◌≡◌, ℕ, ◌-◌, ◌||◌, cond, if◌then◌else◌, List, [], ◌∷◌, ◌++◌, Option, Some, None, Result, Ok, Err, replicate}
use Rattle.std.proofs.Common.{length, map, sum, refl, sym, ap, ap₂, ◌∙◌, arith}
use Rattle.kdf_usercode.specs.declared.fault.DeckError.{DeckError}
use Rattle.kdf_usercode.specs.declared.fault.DeckError.TheVariants as errors
use Rattle.kdf_usercode.specs.declared.fault.DeckFault.TheVariants.{PartTwice, ReferenceTwice, VRange}
use Rattle.kdf_usercode.specs.declared.stars.Stars.{Stars}
use Rattle.kdf_usercode.specs.declared.stars.Stars.TheVariants.{Every, AfterStar, AfterOther}
use Rattle.kdf_usercode.specs.declared.statement.Statement.{Statement}
use Rattle.kdf_usercode.specs.declared.statement.What.{What}
use Rattle.kdf_usercode.specs.declared.statement.What.TheVariants.{Star}
use Rattle.kdf_usercode.specs.Faults.{FoundFault, found, least}
use Rattle.kdf_usercode.specs.Grammar.{early, statements}
use Rattle.kdf_usercode.specs.Grammar as grammar
use Rattle.kdf_usercode.specs.Reading as reading
use Rattle.kdf_usercode.specs.Thinned.{keeps, stars_after, thinned, thinned_deck}
use Rattle.kdf_place.specs.Assembled.{placed_if_read, assembled}
use Rattle.kdf_place.specs.declared.here.Here.{Here}
use Rattle.kdf_place.specs.declared.names.Entry.{Entry}
use Rattle.kdf_place.specs.declared.names.Mark.{Mark}
use Rattle.kdf_place.specs.declared.names.Opening.{Opening}
use Rattle.kdf_place.specs.declared.image.Label.{Label}
use Rattle.kdf_place.specs.Late.{twice, wrong, wrongs, late_faults}
use Rattle.kdf_place.specs.Layout.{is_order, is_opening, words_for, round_up, after, next_order, end_of, front}
use Rattle.kdf_place.specs.Names.{first, part_opened, opening, openings, label_at, labels}
use Rattle.kdf_place.specs.Names.{constant_at, constants, with_group, groups_from, groups, Names, names}
use Rattle.kdf_place.specs.Placement.{Gives}
use Rattle.kdf_place.specs.Placement.{syllables_of, syllables, words_of, with_constant, with_constants, first_word, start_of}
use Rattle.kdf_place.specs.Placement.{words, label_of, Picture, picture_of, sized, verdict, placed}

-- from here on the walks over these and over those come to the same
record Alike (here : Here) (xs ys : List Statement) : Type 0 where
  order_at : next_order here.at xs ≡ next_order here.at ys
  parts : openings here xs ≡ openings here ys
  marks : labels here xs ≡ labels here ys
  stores : constants here xs ≡ constants here ys
  ending : end_of here xs ≡ end_of here ys
  counts : (g : List ℕ) → groups_from g xs ≡ groups_from g ys
  faults : (names : Names) → wrongs names here xs ≡ wrongs names here ys
  bytes : (names : Names) → syllables names here xs ≡ syllables names here ys
  filled : (names : Names) (ws : List ℕ) → with_constants names here xs ws ≡ with_constants names here ys ws

alike-nil : (here : Here) → Alike here [] []
alike-nil here = record {
  order_at = refl;
  parts = refl;
  marks = refl;
  stores = refl;
  ending = refl;
  counts = λ g. refl;
  faults = λ names. refl;
  bytes = λ names. refl;
  filled = λ names ws. refl;
}

-- one statement more in front of both
alike-more : (here : Here) (s : Statement) (xs ys : List Statement) → Alike (after here s) xs ys → Alike here (s ∷ xs) (s ∷ ys)
alike-more here s xs ys a =
    let further = after here s in
    record {
      order_at = ap (λ (n : ℕ). if is_order s.what || is_opening s.what then here.at else n) a.order_at;
      parts = ap₂ (λ (n : ℕ) (es : List (Entry Opening)). opening (part_opened s.what) further.section n s.place ++ es) a.order_at a.parts;
      marks = ap₂ (λ (n : ℕ) (es : List (Entry Mark)). label_at s.what here.section n s.place ++ es) a.order_at a.marks;
      stores = ap (λ (es : List (Entry (Unit {0}))). constant_at s.what here.section s.place ++ es) a.stores;
      ending = a.ending;
      counts = λ g. a.counts (with_group g s.what);
      faults = λ names. ap (λ (fs : List FoundFault). map (λ fault. found fault s.place) (wrong names here s.what) ++ fs) (a.faults names);
      bytes = λ names. ap (λ (bs : List ℕ). syllables_of names here s.what ++ bs) (a.bytes names);
      filled = λ names ws. a.filled names (with_constant names here.section s.what ws);
    }

-- at the begin of a word one `*` more in front of those
alike-star : (here : Here) (place : ℕ) (xs ys : List Statement) → round_up here.at ≡ here.at → Alike here xs ys
    → Alike here xs (record { place = place; what = Star } ∷ ys)
alike-star here place xs ys full a =
    let moved : ℕ → Here = λ at. record { section = here.section; at = at } in
    let on = sym full in
    let none : 0 ≡ round_up here.at - here.at = omega (arith, full) in
    record {
      order_at = a.order_at ∙ ap (λ (at : ℕ). next_order at ys) on;
      parts = a.parts ∙ ap (λ (at : ℕ). openings (moved at) ys) on;
      marks = a.marks ∙ ap (λ (at : ℕ). labels (moved at) ys) on;
      stores = a.stores ∙ ap (λ (at : ℕ). constants (moved at) ys) on;
      ending = a.ending ∙ ap (λ (at : ℕ). end_of (moved at) ys) on;
      counts = a.counts;
      faults = λ names. a.faults names ∙ ap (λ (at : ℕ). wrongs names (moved at) ys) on;
      bytes = λ names.
          a.bytes names ∙ ap (λ (at : ℕ). syllables names (moved at) ys) on
          ∙ ap (λ (n : ℕ). replicate n 1 ++ syllables names (moved (round_up here.at)) ys) none;
      filled = λ names ws. a.filled names ws ∙ ap (λ (at : ℕ). with_constants names (moved at) ys ws) on;
    }

-- ---- all statements

-- after a `*` a word begins
abbrev IsAfter : Stars → ℕ → Type 0
IsAfter AfterStar at = round_up at ≡ at
IsAfter stars at = Unit {0}

round-twice : (at : ℕ) → round_up (round_up at) ≡ round_up at
round-twice at = omega arith

alike-one : (stars : Stars) (here : Here) (place : ℕ) (what : What) (ss : List Statement) → IsAfter stars here.at
    → ((further : Here) → IsAfter (stars_after stars what) further.at → Alike further (thinned (stars_after stars what) ss) ss)
    → Alike here (cond (keeps stars what) (record { place = place; what = what } ∷ []) [] ++ thinned (stars_after stars what) ss)
    (record { place = place; what = what } ∷ ss)
alike-one AfterStar here place Star ss full later = alike-star here place (thinned AfterStar ss) ss full (later here full)
alike-one AfterOther here place Star ss full later =
    let s : Statement = record { place = place; what = Star } in alike-more here s (thinned AfterStar ss) ss (later (after here s) (round-twice here.at))
alike-one Every here place what ss full later =
    let s : Statement = record { place = place; what = what } in alike-more here s (thinned Every ss) ss (later (after here s) tt)
alike-one stars here place what ss full later =
    let s : Statement = record { place = place; what = what } in alike-more here s (thinned AfterOther ss) ss (later (after here s) tt)

alike : (stars : Stars) (here : Here) (ss : List Statement) → IsAfter stars here.at → Alike here (thinned stars ss) ss
alike stars here [] full = alike-nil here
alike stars here (s ∷ ss) full = alike-one stars here s.place s.what ss full (λ further f. alike (stars_after stars s.what) further ss f)

-- ---- the image

same-names : (xs ys : List Statement) → Alike front xs ys → names xs ≡ names ys
same-names xs ys a =
    let made : List (Entry Opening) → List (Entry Mark) → List ℕ → ℕ → Names =
    λ os ls gs at. record { parts = λ p. first 0 p os; labels = λ section r. first section r ls; groups = gs; behind = words_for at } in
    ap (λ (os : List (Entry Opening)). made os (labels front xs) (groups xs) (end_of front xs)) a.parts
    ∙ ap (λ (ls : List (Entry Mark)). made (openings front ys) ls (groups xs) (end_of front xs)) a.marks
    ∙ ap (λ (gs : List ℕ). made (openings front ys) (labels front ys) gs (end_of front xs)) (a.counts (replicate 27 0))
    ∙ ap (λ (at : ℕ). made (openings front ys) (labels front ys) (groups ys) at) a.ending

same-faults : (xs ys : List Statement) → Alike front xs ys → late_faults xs ≡ late_faults ys
same-faults xs ys a =
    let all : List (Entry Opening) → List (Entry Mark) → List (Entry (Unit {0})) → List FoundFault → List FoundFault =
    λ os ls cs fs. twice PartTwice [] os ++ twice ReferenceTwice [] ls ++ twice VRange [] cs ++ fs in
    let found_there = ap (λ (n : Names). wrongs n front xs) (same-names xs ys a) ∙ a.faults (names ys) in
    ap (λ (os : List (Entry Opening)). all os (labels front xs) (constants front xs) (wrongs (names xs) front xs)) a.parts
    ∙ ap (λ (ls : List (Entry Mark)). all (openings front ys) ls (constants front xs) (wrongs (names xs) front xs)) a.marks
    ∙ ap (λ (cs : List (Entry (Unit {0}))). all (openings front ys) (labels front ys) cs (wrongs (names xs) front xs)) a.stores
    ∙ ap (λ (fs : List FoundFault). all (openings front ys) (labels front ys) (constants front ys) fs) found_there

same-words : (xs ys : List Statement) (m : Names) → Alike front xs ys → words m xs ≡ words m ys
same-words xs ys m a =
    let behind = replicate (sum m.groups) 0 in
    ap (λ (bs : List ℕ). with_constants m front xs (words_of (first_word m ++ bs) ++ behind)) (a.bytes m)
    ∙ a.filled m (words_of (first_word m ++ syllables m front ys) ++ behind)

same-picture : (xs ys : List Statement) → Alike front xs ys → picture_of xs ≡ picture_of ys
same-picture xs ys a =
    let same = same-names xs ys a in
    let made : List ℕ → ℕ → List Label → Picture = λ ws at ls. record { words = ws; start = at; labels = ls } in
    ap (λ (ws : List ℕ). made ws (start_of (names xs)) (map label_of (labels front xs)))
    (ap (λ (m : Names). words m xs) same ∙ same-words xs ys (names ys) a)
    ∙ ap (λ (m : Names). made (words (names ys) ys) (start_of m) (map label_of (labels front xs))) same
    ∙ ap (λ (ls : List (Entry Mark)). made (words (names ys) ys) (start_of (names ys)) (map label_of ls)) a.marks

-- a deck has the same image, or the same fault, without them
pub placed-thinned : (ss : List Statement) (len size : ℕ) → placed (thinned AfterOther ss) len size ≡ placed ss len size
unfolding placed
placed-thinned ss len size =
    let xs = thinned AfterOther ss in
    let a = alike AfterOther front ss tt in
    ap (λ (fs : List FoundFault). verdict (least fs) (sized (picture_of xs) len size)) (same-faults xs ss a)
    ∙ ap (λ (p : Picture). verdict (least (late_faults ss)) (sized p len size)) (same-picture xs ss a)

-- ---- the text

verdict-thinned : (first : Option FoundFault) (ss : List Statement) (len size : ℕ)
    → placed_if_read (grammar.verdict first (thinned AfterOther ss)) len size ≡ placed_if_read (grammar.verdict first ss) len size
verdict-thinned None ss len size = placed-thinned ss len size
verdict-thinned (Some f) ss len size = refl

-- what is answered for the text of a deck of which only so much is kept
pub assembled-thinned : (size : ℕ) (text : List ℕ) → placed_if_read (thinned_deck AfterOther text) (length text) size ≡ assembled size text
unfolding assembled
assembled-thinned size text = verdict-thinned (early text) (statements text) (length text) size

-- what comes of the text where that can be read, and where it can't
pub assembled-read : (size len : ℕ) (text : List ℕ) (ss : List Statement) → thinned_deck AfterOther text ≡ Ok ss → len ≡ length text
    → placed ss len size ≡ assembled size text
assembled-read size len text ss read long =
    ap (λ (n : ℕ). placed ss n size) long ∙ sym (ap (λ (d : Result (List Statement) FoundFault). placed_if_read d (length text) size) read)
    ∙ assembled-thinned size text

pub assembled-unread : (size : ℕ) (text : List ℕ) (e : DeckError) → reading.Gives (Err e) (length text) (thinned_deck AfterOther text)
    → Gives (Err e) (assembled size text)
assembled-unread size text errors.Memory h = tt
assembled-unread size text (errors.Fault fault place) h =
    sym (assembled-thinned size text) ∙ ap (λ (d : Result (List Statement) FoundFault). placed_if_read d (length text) size) h
