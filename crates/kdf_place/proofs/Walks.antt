-- A walk over statements, piece by piece.
use Rattle.std.proofs.Common.{◌≡◌, ℕ, ◌+◌, ◌*◌, ◌≤◌, List, [], ◌∷◌, ◌++◌, length, length-append, map, refl, sym, ap, ◌∙◌, append_assoc, arith}
use Rattle.kdf_usercode.specs.declared.fault.DeckFault.{DeckFault}
use Rattle.kdf_usercode.specs.declared.statement.Statement.{Statement}
use Rattle.kdf_usercode.specs.declared.statement.What.{What}
use Rattle.kdf_usercode.specs.declared.statement.What.TheVariants.{Program, Part}
use Rattle.kdf_usercode.specs.Faults.{FoundFault, found}
use Rattle.kdf_usercode.specs.WellFormed.{AreInRange}
use Rattle.kdf_place.specs.declared.here.Here.{Here}
use Rattle.kdf_place.specs.declared.names.Entry.{Entry}
use Rattle.kdf_place.specs.declared.names.Mark.{Mark}
use Rattle.kdf_place.specs.declared.names.Opening.{Opening}
use Rattle.kdf_place.specs.Layout.{advance, section_after, after, walked, next_order}
use Rattle.kdf_place.specs.Late.{wrong, wrongs}
use Rattle.kdf_place.specs.Names.{Names, part_opened, opening, openings, label_at, labels}
use Rattle.kdf_place.specs.Placement.{syllables_of, syllables, with_constant, with_constants}
use Rattle.kdf_place.specs.Stands.{AllPassed, EndsAt}
use Rattle.kdf_place.proofs.Lengths.{length-statement}

pub nil-both : {A : Type 0} (xs ys : List A) → xs ++ ys ≡ [] → (xs ≡ []) × (ys ≡ [])
nil-both [] ys e = (refl, e)
nil-both (x ∷ xs) ys e = absurd cc

pub nil-founds : (place : ℕ) (fs : List DeckFault) → map (λ fault. found fault place) fs ≡ [] → fs ≡ []
nil-founds place [] e = refl
nil-founds place (f ∷ fs) e = absurd cc

pub walked-append : (here : Here) (before behind : List Statement) → walked here (before ++ behind) ≡ walked (walked here before) behind
walked-append here [] behind = refl
walked-append here (s ∷ before) behind = walked-append (after here s) before behind

-- a walk goes on
pub after-above : (names : Names) (here : Here) (s : Statement) → here.at ≤ (after here s).at
after-above names here s = omega (arith, length-statement names here s.what)

pub walked-above : (names : Names) (here : Here) (ss : List Statement) → here.at ≤ (walked here ss).at
walked-above names here [] = omega arith
walked-above names here (s ∷ ss) = omega (arith, after-above names here s, walked-above names (after here s) ss)

pub in_range-append : (before behind : List Statement) → AreInRange (before ++ behind) → AreInRange before × AreInRange behind
in_range-append [] behind are = (tt, are)
in_range-append (s ∷ before) behind are = let rest = in_range-append before behind are.1 in ((are.0, rest.0), rest.1)

pub wrongs-append : (names : Names) (here : Here) (before behind : List Statement)
    → wrongs names here (before ++ behind) ≡ wrongs names here before ++ wrongs names (walked here before) behind
wrongs-append names here [] behind = refl
wrongs-append names here (s ∷ before) behind =
    let first : List FoundFault = map (λ fault. found fault s.place) (wrong names here s.what) in
    let rest = wrongs names (after here s) before in
    let later = wrongs names (walked (after here s) before) behind in
    ap (λ (fs : List FoundFault). first ++ fs) (wrongs-append names (after here s) before behind) ∙ sym (append_assoc first rest later)

pub constants-append : (names : Names) (here : Here) (before behind : List Statement) (ws : List ℕ)
    → with_constants names here (before ++ behind) ws ≡ with_constants names (walked here before) behind (with_constants names here before ws)
constants-append names here [] behind ws = refl
constants-append names here (s ∷ before) behind ws = constants-append names (after here s) before behind (with_constant names here.section s.what ws)

-- the syllables of statements, without the filling of the last word
abbrev pub bytes : Names → Here → List Statement → List ℕ
bytes names here [] = []
bytes names here (s ∷ ss) = syllables_of names here s.what ++ bytes names (after here s) ss

pub syllables-append : (names : Names) (here : Here) (before behind : List Statement)
    → syllables names here (before ++ behind) ≡ bytes names here before ++ syllables names (walked here before) behind
syllables-append names here [] behind = refl
syllables-append names here (s ∷ before) behind =
    let first = syllables_of names here s.what in
    ap (λ (xs : List ℕ). first ++ xs) (syllables-append names (after here s) before behind)
    ∙ sym (append_assoc first (bytes names (after here s) before) (syllables names (walked (after here s) before) behind))

pub length-bytes : (names : Names) (here : Here) (ss : List Statement) → here.at + length (bytes names here ss) ≡ (walked here ss).at
length-bytes names here [] = omega arith
length-bytes names here (s ∷ ss) =
    omega (
      arith,
      length-append (syllables_of names here s.what) (bytes names (after here s) ss),
      length-statement names here s.what,
      length-bytes names (after here s) ss,
    )

-- where the search for the next order ends
pub next_order-found : (here : Here) (between behind : List Statement) → AllPassed between → EndsAt behind
    → next_order here.at (between ++ behind) ≡ (walked here between).at
next_order-found here [] [] passed ends = refl
next_order-found here [] (s ∷ behind) passed ends = rw ends refl
next_order-found here (s ∷ between) behind passed ends = rw passed.0 (next_order-found (after here s) between behind passed.1 ends)

pub labels-append : (here : Here) (before behind : List Statement) → (first : List (Entry Mark))
    × (labels here (before ++ behind) ≡ first ++ labels (walked here before) behind)
labels-append here [] behind = ([], refl)
labels-append here (s ∷ before) behind =
    let one = label_at s.what here.section (next_order (after here s).at (before ++ behind)) s.place in
    let rest = labels-append (after here s) before behind in
    (one ++ rest.0, ap (λ (es : List (Entry Mark)). one ++ es) rest.1 ∙ sym (append_assoc one rest.0 (labels (walked (after here s) before) behind)))

pub openings-append : (here : Here) (before behind : List Statement) → (first : List (Entry Opening))
    × (openings here (before ++ behind) ≡ first ++ openings (walked here before) behind)
openings-append here [] behind = ([], refl)
openings-append here (s ∷ before) behind =
    let one = opening (part_opened s.what) (after here s).section (next_order (after here s).at (before ++ behind)) s.place in
    let rest = openings-append (after here s) before behind in
    (one ++ rest.0, ap (λ (es : List (Entry Opening)). one ++ es) rest.1 ∙ sym (append_assoc one rest.0 (openings (walked (after here s) before) behind)))

-- the V-stores of a part end before its statements
pub stores_end-after : (here : Here) (place : ℕ) (what : What) → 6 * (here.section.base + here.section.stores) ≤ here.at
    → 6 * ((section_after here place what).base + (section_after here place what).stores) ≤ advance here.at what
stores_end-after here place (Program v) end = omega arith
stores_end-after here place (Part p v) end = omega arith
stores_end-after here place what end = omega arith

pub stores_end : (here : Here) (ss : List Statement) → 6 * (here.section.base + here.section.stores) ≤ here.at
    → 6 * ((walked here ss).section.base + (walked here ss).section.stores) ≤ (walked here ss).at
stores_end here [] end = end
stores_end here (s ∷ ss) end = stores_end (after here s) ss (stores_end-after here s.place s.what end)
