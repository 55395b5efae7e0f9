-- What a name means that stands once.
use Rattle.std.proofs.Common.{◌≡◌, ℕ, Bool, true, false, cond, eqb, ◌&&◌, is_some, List, [], ◌∷◌, ◌++◌, append_assoc, Option, Some, Ok, refl, sym, ap, ◌∙◌}
use Rattle.std.proofs.lemmas.Bool.{eq-eqb}
use Rattle.std.proofs.lemmas.List.{append-nil}
use Rattle.kdf_usercode.specs.declared.fault.DeckFault.{DeckFault}
use Rattle.kdf_usercode.specs.declared.fault.DeckFault.TheVariants.{PartTwice, ReferenceTwice}
use Rattle.kdf_usercode.specs.declared.statement.Statement.{Statement}
use Rattle.kdf_usercode.specs.declared.statement.What.{What}
use Rattle.kdf_usercode.specs.declared.statement.What.TheVariants.{Reference}
use Rattle.kdf_usercode.specs.Faults.{FoundFault, found}
use Rattle.kdf_place.specs.declared.here.Here.{Here}
use Rattle.kdf_place.specs.declared.names.Entry.{Entry}
use Rattle.kdf_place.specs.declared.names.Mark.{Mark}
use Rattle.kdf_place.specs.declared.names.Opening.{Opening}
use Rattle.kdf_place.specs.Layout.{after, walked, next_order, front}
use Rattle.kdf_place.specs.Late.{twice}
use Rattle.kdf_place.specs.Names.{first, part_opened, opening, openings, label_at, labels, names, found_mark, reference, found_first, first_order}
use Rattle.kdf_place.specs.Stands.{AllPassed, EndsAt}
use Rattle.kdf_place.proofs.Walks.{nil-both, walked-append, next_order-found, labels-append, openings-append}

pub no-fault : (b : Bool) (f : FoundFault) → cond b (f ∷ []) [] ≡ [] → b ≡ false
no-fault true f e = absurd cc
no-fault false f e = refl

-- where no number stands twice, none stood before
stood_not : {T : Type 0} (fault : DeckFault) (before es : List (Entry T)) (e : Entry T) (later : List (Entry T)) → twice fault before (es ++ e ∷ later) ≡ []
    → is_some (first e.section e.number (before ++ es)) ≡ false
stood_not {T = T} fault before [] e later none =
    let stood = is_some (first e.section e.number before) in
    let both = nil-both (cond stood (found fault e.place ∷ []) []) (twice fault (before ++ e ∷ []) later) none in
    rw (append-nil before) (no-fault stood (found fault e.place) both.0)
stood_not {T = T} fault before (d ∷ es) e later none =
    let stood = is_some (first d.section d.number before) in
    let both = nil-both (cond stood (found fault d.place ∷ []) []) (twice fault (before ++ d ∷ []) (es ++ e ∷ later)) none in
    let rest = stood_not fault (before ++ d ∷ []) es e later both.1 in
    ap (λ (xs : List (Entry T)). is_some (first e.section e.number xs)) (sym (append_assoc before (d ∷ []) es)) ∙ rest

chosen : {T : Type 0} (b : Bool) (v : T) (o o' w : Option T) → is_some (cond b (Some v) o) ≡ false → (is_some o ≡ false → o' ≡ w) → cond b (Some v) o' ≡ w
chosen true v o o' w none step = absurd cc
chosen false v o o' w none step = step none

first-new : {T : Type 0} (es : List (Entry T)) (e : Entry T) (later : List (Entry T)) → is_some (first e.section e.number es) ≡ false
    → first e.section e.number (es ++ e ∷ later) ≡ Some e.means
first-new [] e later none = rw (eq-eqb e.section e.section refl, eq-eqb e.number e.number refl) refl
first-new (d ∷ es) e later none =
    chosen (eqb d.section e.section && eqb d.number e.number) d.means (first e.section e.number es) (first e.section e.number (es ++ e ∷ later)) (Some e.means)
    none (first-new es e later)

-- an entry whose number stands once is what its number means
means-entry : {T : Type 0} (fault : DeckFault) (all es : List (Entry T)) (e : Entry T) (later : List (Entry T)) → all ≡ es ++ e ∷ later
    → twice fault [] all ≡ []
    → first e.section e.number all ≡ Some e.means
means-entry {T = T} fault all es e later is none =
    let split : twice fault [] (es ++ e ∷ later) ≡ [] = ap (twice fault []) (sym is) ∙ none in
    ap (λ (xs : List (Entry T)). first e.section e.number xs) is ∙ first-new es e later (stood_not fault [] es e later split)

-- the next order after a statement
next-order-behind : (before between behind : List Statement) (s : Statement) → AllPassed between → EndsAt behind
    → next_order (after (walked front before) s).at (between ++ behind) ≡ (walked front (before ++ s ∷ between)).at
next-order-behind before between behind s passed ends =
    next_order-found (after (walked front before) s) between behind passed ends
    ∙ ap (λ (h : Here). h.at) (sym (walked-append front before (s ∷ between)))

-- a reference means the next order of its part
pub reference-means : (ss before between behind : List Statement) (s : Statement) (r : ℕ) → twice ReferenceTwice [] (labels front ss) ≡ []
    → ss ≡ before ++ s ∷ (between ++ behind) → s.what ≡ Reference r → AllPassed between → EndsAt behind
    → reference (names ss) (Some (walked front before).section) r ≡ Ok (walked front (before ++ s ∷ between)).at
reference-means ss before between behind s r once is what passed ends =
    let here = walked front before in
    let at = next_order (after here s).at (between ++ behind) in
    let e : Entry Mark = record { section = here.section.opened; number = r; means = record { part = here.section.part; at = at }; place = s.place } in
    let later = labels (after here s) (between ++ behind) in
    let split = labels-append front before (s ∷ (between ++ behind)) in
    let one : label_at s.what here.section at s.place ≡ e ∷ [] = ap (λ (w : What). label_at w here.section at s.place) what in
    let all : labels front ss ≡ split.0 ++ e ∷ later =
    ap (labels front) is ∙ split.1 ∙ ap (λ (es : List (Entry Mark)). split.0 ++ (es ++ later)) one in
    let means : first here.section.opened r (labels front ss) ≡ Some e.means = means-entry ReferenceTwice (labels front ss) split.0 e later all once in
    ap found_mark means ∙ ap (λ (n : ℕ). Ok n) (next-order-behind before between behind s passed ends)

-- and a part's number its first order
pub first-means : (ss before between behind : List Statement) (s : Statement) (p : ℕ) → twice PartTwice [] (openings front ss) ≡ []
    → ss ≡ before ++ s ∷ (between ++ behind) → part_opened s.what ≡ Some p → AllPassed between → EndsAt behind
    → first_order (names ss) p ≡ Ok (walked front (before ++ s ∷ between)).at
first-means ss before between behind s p once is what passed ends =
    let here = walked front before in
    let section = (after here s).section in
    let at = next_order (after here s).at (between ++ behind) in
    let e : Entry Opening = record { section = 0; number = p; means = record { section = section; first = at }; place = s.place } in
    let later = openings (after here s) (between ++ behind) in
    let split = openings-append front before (s ∷ (between ++ behind)) in
    let one : opening (part_opened s.what) section at s.place ≡ e ∷ [] = ap (λ (o : Option ℕ). opening o section at s.place) what in
    let all : openings front ss ≡ split.0 ++ e ∷ later =
    ap (openings front) is ∙ split.1 ∙ ap (λ (es : List (Entry Opening)). split.0 ++ (es ++ later)) one in
    let means : first 0 p (openings front ss) ≡ Some e.means = means-entry PartTwice (openings front ss) split.0 e later all once in
    ap found_first means ∙ ap (λ (n : ℕ). Ok n) (next-order-behind before between behind s passed ends)
