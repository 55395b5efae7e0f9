-- A constant stands in its V-store, and every store that is named stands in the image.
use Rattle.std.proofs.Common.{◌≡◌, ◌≢◌, ℕ, ◌+◌, ◌*◌, ◌<◌, ◌≤◌, ◌⊎◌, inl, inr, true, false, cond, eqb, is_some, List, [], ◌∷◌, ◌++◌, length, get_or, take, drop}
use Rattle.std.proofs.Common.{sum, replicate, Option, Some, None, Ok, Err, append_assoc, refl, sym, ap, ◌∙◌, arith}
use Rattle.std.proofs.Math.ListN.{get_or-eq_default}
use Rattle.std.proofs.lemmas.Bool.{cases_lt, cases_Bool, lt-ltb, le-ltb, eq-eqb, eqb-true}
use Rattle.std.proofs.lemmas.List.Sums.{sum_by-take-drop, sum_by-drop_more}
use Rattle.std.proofs.lemmas.List.{append-nil, get_or-set_other, get_or-set_same}
use Rattle.kdf_usercode.specs.declared.fault.DeckFault.{DeckFault}
use Rattle.kdf_usercode.specs.declared.fault.DeckFault.TheVariants.{VRange, YRange}
use Rattle.kdf_usercode.specs.declared.statement.Named.{Named}
use Rattle.kdf_usercode.specs.declared.statement.Named.TheVariants.{Y, V, E}
use Rattle.kdf_usercode.specs.declared.statement.Statement.{Statement}
use Rattle.kdf_usercode.specs.declared.statement.Value.{Value}
use Rattle.kdf_usercode.specs.declared.statement.What.{What}
use Rattle.kdf_usercode.specs.declared.statement.What.TheVariants.{Program, Part, Constant}
use Rattle.kdf_usercode.specs.Faults.{found}
use Rattle.kdf_place.specs.declared.here.Here.{Here}
use Rattle.kdf_place.specs.declared.here.Section.{Section}
use Rattle.kdf_place.specs.declared.names.Entry.{Entry}
use Rattle.kdf_place.specs.declared.names.Opening.{Opening}
use Rattle.kdf_place.specs.Layout.{section_after, after, walked, next_order, front}
use Rattle.kdf_place.specs.Late.{fault_in, value_faults, wrong, twice}
use Rattle.kdf_place.specs.Names.{Names, names, first, part_opened, opening, openings, constant_at, constants, store_at, v_store, section_of, store_address}
use Rattle.kdf_place.specs.Placement.{words_of, syllables, first_word, value, with_constant, with_constants, words}
use Rattle.kdf_place.specs.Stands.{is_address}
use Rattle.kdf_place.proofs.Said.{says, both-true}
use Rattle.kdf_place.proofs.Lengths.{length-constants, words-image}
use Rattle.kdf_place.proofs.Meant.{no-fault}
use Rattle.kdf_place.proofs.Untouched.{store-there}
use Rattle.kdf_place.proofs.Walks.{nil-both, after-above, walked-above, walked-append, constants-append, stores_end-after, stores_end}

-- ---- a number that stands once

still-some : {T : Type 0} (p n : ℕ) (xs ys : List (Entry T)) → is_some (first p n xs) ≡ true → is_some (first p n (xs ++ ys)) ≡ true
still-some p n [] ys some = absurd cc
still-some p n (x ∷ xs) ys some =
    elim (cases_Bool (says p n x)) [
      | inl here ↦ rw here refl
      | inr other ↦ rw other (still-some p n xs ys (rw other at some))
    ]

some-last : {T : Type 0} (xs : List (Entry T)) (e : Entry T) → is_some (first e.section e.number (xs ++ e ∷ [])) ≡ true
some-last [] e = rw (eq-eqb e.section e.section refl, eq-eqb e.number e.number refl) refl
some-last (x ∷ xs) e =
    elim (cases_Bool (says e.section e.number x)) [ inl here ↦ rw here refl | inr other ↦ rw other (some-last xs e) ]

stands-no-more : {T : Type 0} (fault : DeckFault) (p n : ℕ) (before es : List (Entry T)) → twice fault before es ≡ [] → is_some (first p n before) ≡ true
    → first p n es ≡ None
stands-no-more fault p n before [] none stood = refl
stands-no-more {T = T} fault p n before (d ∷ es) none stood =
    let stood_d = is_some (first d.section d.number before) in
    let both = nil-both (cond stood_d (found fault d.place ∷ []) []) (twice fault (before ++ d ∷ []) es) none in
    let new = no-fault stood_d (found fault d.place) both.0 in
    elim (cases_Bool (says p n d)) [
      | inl same ↦
          let parts = both-true (eqb d.section p) (eqb d.number n) same in
          let section = eqb-true d.section p parts.0 in
          let number = eqb-true d.number n parts.1 in
          let old : is_some (first p n before) ≡ false = rw (section, number) at new in absurd cc
      | inr other ↦ rw other (stands-no-more fault p n (before ++ d ∷ []) es both.1 (still-some p n before (d ∷ []) stood))
    ]

twice-later : {T : Type 0} (fault : DeckFault) (before xs ys : List (Entry T)) → twice fault before (xs ++ ys) ≡ [] → twice fault (before ++ xs) ys ≡ []
twice-later {T = T} fault before [] ys none = ap (λ (es : List (Entry T)). twice fault es ys) (append-nil before) ∙ none
twice-later {T = T} fault before (x ∷ xs) ys none =
    let both = nil-both (cond (is_some (first x.section x.number before)) (found fault x.place ∷ []) []) (twice fault (before ++ x ∷ []) (xs ++ ys)) none in
    ap (λ (es : List (Entry T)). twice fault es ys) (sym (append_assoc before (x ∷ []) xs)) ∙ twice-later fault (before ++ x ∷ []) xs ys both.1

first-none : {T : Type 0} (p n : ℕ) (xs ys : List (Entry T)) → first p n (xs ++ ys) ≡ None → (first p n xs ≡ None) × (first p n ys ≡ None)
first-none p n [] ys none = (refl, none)
first-none {T = T} p n (x ∷ xs) ys none =
    elim (cases_Bool (says p n x)) [
      | inl here ↦ let some : Some x.means ≡ None = rw here at none in absurd cc
      | inr other ↦
          let rest : first p n (xs ++ ys) ≡ None = rw other at none in
          let both = first-none p n xs ys rest in (rw other both.0, both.1)
    ]

first-some : {T : Type 0} (p n : ℕ) (xs ys : List (Entry T)) (v : T) → first p n (xs ++ ys) ≡ Some v → (first p n xs ≡ Some v) ⊎ (first p n ys ≡ Some v)
first-some p n [] ys v is = inr is
first-some {T = T} p n (x ∷ xs) ys v is =
    elim (cases_Bool (says p n x)) [
      | inl here ↦ let some : Some x.means ≡ Some v = rw here at is in inl (rw here some)
      | inr other ↦
          let rest : first p n (xs ++ ys) ≡ Some v = rw other at is in
          elim (first-some p n xs ys v rest) [ inl left ↦ inl (rw other left) | inr right ↦ inr right ]
    ]

-- ---- a constant in its V-store

constants-split : (here : Here) (before behind : List Statement) → constants here (before ++ behind) ≡ constants here before ++ constants
    (walked here before) behind
constants-split here [] behind = refl
constants-split here (s ∷ before) behind =
    let one = constant_at s.what here.section s.place in
    ap (λ (es : List (Entry (Unit {0}))). one ++ es) (constants-split (after here s) before behind)
    ∙ sym (append_assoc one (constants (after here s) before) (constants (walked (after here s) before) behind))

-- this part, or a part that begins after the word
abbrev IsLater : Section → Section → ℕ → Type 0
IsLater now section w = (now ≡ section) ⊎ (w < now.base)

later-section : (here : Here) (place : ℕ) (what : What) (section : Section) (w : ℕ) → IsLater here.section section w → 6 * w < here.at
    → IsLater (section_after here place what) section w
later-section here place (Program v) section w later low = inr (omega arith)
later-section here place (Part p v) section w later low = inr (omega arith)
later-section here place what section w later low = later

kept-one : (names : Names) (now section : Section) (what : What) (place n : ℕ) (ws : List ℕ) → first section.opened n (constant_at what now place) ≡ None
    → IsLater now section (section.base + n) → get_or (with_constant names now what ws) (section.base + n) 0 ≡ get_or ws (section.base + n) 0
kept-one names now section (Constant k constant) place n ws none later =
    let far : section.base + n ≢ now.base + k =
    elim later [
      | inl same ↦
          λ e.
          let base : now.base ≡ section.base = ap (λ (x : Section). x.base) same in
          let opened : now.opened ≡ section.opened = ap (λ (x : Section). x.opened) same in
          let number : k ≡ n = omega arith in
          let some : Some tt ≡ None = rw (eq-eqb now.opened section.opened opened, eq-eqb k n number) at none in absurd cc
      | inr behind ↦ omega arith
    ] in
    get_or-set_other ws (now.base + k) (section.base + n) (value names now constant) 0 far
kept-one names now section what place n ws none later = refl

kept-later : (names : Names) (here : Here) (ss : List Statement) (ws : List ℕ) (section : Section) (n : ℕ)
    → first section.opened n (constants here ss) ≡ None → IsLater here.section section (section.base + n) → 6 * (section.base + n) < here.at
    → get_or (with_constants names here ss ws) (section.base + n) 0 ≡ get_or ws (section.base + n) 0
kept-later names here [] ws section n none later low = refl
kept-later names here (s ∷ ss) ws section n none later low =
    let both = first-none section.opened n (constant_at s.what here.section s.place) (constants (after here s) ss) none in
    kept-later names (after here s) ss (with_constant names here.section s.what ws) section n both.1
    (later-section here s.place s.what section (section.base + n) later low) (omega (arith, low, after-above names here s))
    ∙ kept-one names here.section section s.what s.place n ws both.0 later

-- the V-store is there
there : (names : Names) (here : Here) (what : What) (n : ℕ) (constant : Value) → wrong names here what ≡ [] → what ≡ Constant n constant
    → n < here.section.stores
there names here what n constant ok is =
    let ok_constant : wrong names here (Constant n constant) ≡ [] = ap (wrong names here) (sym is) ∙ ok in
    store-there here.section.base here.section.stores n
    (nil-both (fault_in (v_store (Some here.section) n)) (value_faults names here.section constant) ok_constant).0

pub stand-constant : (m : Names) (before behind : List Statement) (s : Statement) (n : ℕ) (constant : Value) → wrong m (walked front before) s.what ≡ []
    → twice VRange [] (constants front (before ++ s ∷ behind)) ≡ [] → s.what ≡ Constant n constant
    → get_or (words m (before ++ s ∷ behind)) ((walked front before).section.base + n) 0 ≡ value m (walked front before).section constant
stand-constant m before behind s n constant ok once is =
    let ss = before ++ s ∷ behind in
    let here = walked front before in
    let w = here.section.base + n in
    let plain = words_of (first_word m ++ syllables m front ss) ++ replicate (sum m.groups) 0 in
    let before_it = with_constants m front before plain in
    let e : Entry (Unit {0}) = record { section = here.section.opened; number = n; means = tt; place = s.place } in
    let earlier = constants front before in
    let later = constants (after here s) behind in
    let one : constant_at s.what here.section s.place ≡ e ∷ [] = ap (λ (x : What). constant_at x here.section s.place) is in
    let all : constants front ss ≡ (earlier ++ e ∷ []) ++ later =
    constants-split front before (s ∷ behind) ∙ ap (λ (es : List (Entry (Unit {0}))). earlier ++ (es ++ later)) one
    ∙ sym (append_assoc earlier (e ∷ []) later) in
    let none = stands-no-more VRange here.section.opened n (earlier ++ e ∷ []) later
    (twice-later VRange [] (earlier ++ e ∷ []) later (ap (twice VRange []) (sym all) ∙ once)) (some-last earlier e) in
    let same : (after here s).section ≡ here.section = ap (λ (x : What). section_after here s.place x) is in
    let count = there m here s.what n constant ok is in
    let end = stores_end front before (omega arith) in
    let goes : (walked front ss).at ≡ (walked (after here s) behind).at = ap (λ (h : Here). h.at) (walked-append front before (s ∷ behind)) in
    let long : length (words m ss) ≡ length plain = length-constants m front ss plain in
    ap (λ (xs : List ℕ). get_or xs w 0) (constants-append m front before (s ∷ behind) plain)
    ∙ kept-later m (after here s) behind (with_constant m here.section s.what before_it) here.section n none (inl same)
    (omega (arith, count, end, after-above m here s))
    ∙ ap (λ (x : What). get_or (with_constant m here.section x before_it) w 0) is
    ∙ get_or-set_same before_it w (value m here.section constant) 0
    (omega (arith, count, end, after-above m here s, walked-above m (after here s) behind, goes, words-image m ss, long, length-constants m front before plain))

-- ---- stores that are named

opening-is : (number : Option ℕ) (section : Section) (at place p : ℕ) (o : Opening) → first 0 p (opening number section at place) ≡ Some o → section ≡ o.section
opening-is None section at place p o is = absurd cc
opening-is (Some q) section at place p o is =
    let means : Opening = record { section = section; first = at } in
    let it : Some means ≡ Some o =
    elim (cases_Bool (eqb q p)) [ inl same ↦ rw same at is | inr other ↦ let no : None ≡ Some o = rw other at is in absurd cc ] in
    let same : means ≡ o = cc in ap (λ (x : Opening). x.section) same

opened-within : (names : Names) (here : Here) (ss : List Statement) (p : ℕ) (o : Opening) → 6 * (here.section.base + here.section.stores) ≤ here.at
    → first 0 p (openings here ss) ≡ Some o → 6 * (o.section.base + o.section.stores) ≤ (walked here ss).at
opened-within names here [] p o end is = absurd cc
opened-within names here (s ∷ ss) p o end is =
    let mine = (after here s).section in
    let at = next_order (after here s).at ss in
    let end_after = stores_end-after here s.place s.what end in
    elim (first-some 0 p (opening (part_opened s.what) mine at s.place) (openings (after here s) ss) o is) [
      | inl here_it ↦
          let same = opening-is (part_opened s.what) mine at s.place p o here_it in
          let sum_same : mine.base + mine.stores ≡ o.section.base + o.section.stores = ap (λ (x : Section). x.base + x.stores) same in
          omega (arith, sum_same, end_after, walked-above names (after here s) ss)
      | inr later ↦ opened-within names (after here s) ss p o end_after later
    ]

store_at-is : (base count n a : ℕ) (fault : DeckFault) → store_at base count fault n ≡ Ok a → (n < count) × (base + n ≡ a)
store_at-is base count n a fault is =
    elim (cases_lt n count) [
      | inl lt ↦ let ok : Ok (base + n) ≡ Ok a = rw (lt-ltb n count lt) at is in (lt, cc)
      | inr ge ↦ let no : Err fault ≡ Ok a = rw (le-ltb n count ge) at is in absurd cc
    ]

sum-part : (xs : List ℕ) (i : ℕ) → i < length xs → sum (take i xs) + get_or xs i 0 ≤ sum xs
sum-part xs i lt =
    let split : sum (take i xs) + sum (drop i xs) ≡ sum xs = sum_by-take-drop (λ x. x) xs i in
    let next : sum (drop i xs) ≡ get_or xs i 0 + sum (drop (i + 1) xs) = sum_by-drop_more (λ x. x) xs i 0 lt in
    omega arith

v_store-within : (m : Names) (section : Option Section) (n a end : ℕ) → ((x : Section) → section ≡ Some x → 6 * (x.base + x.stores) ≤ end)
    → v_store section n ≡ Ok a → 6 * a < end
v_store-within m None n a end within is = absurd cc
v_store-within m (Some x) n a end within is = let store = store_at-is x.base x.stores n a VRange is in omega (arith, store.0, store.1, within x refl)

section-of-is : (o : Option Opening) (x : Section) → section_of o ≡ Some x → (opening : Opening) × (o ≡ Some opening) × (opening.section ≡ x)
section-of-is None x is = absurd cc
section-of-is (Some opening) x is = (opening, refl, cc)

-- the address of a store that the deck declares is one of the image
pub stand-store : (ss before behind : List Statement) (place : Named) (a : ℕ) → ss ≡ before ++ behind → is_address place ≡ false
    → store_address (names ss) (walked front before).section place ≡ Ok a → a < length (words (names ss) ss)
stand-store ss before behind (E n) a e other is = absurd cc
stand-store ss before behind (Y group n) a e other is =
    let m = names ss in
    let store = store_at-is (m.behind + sum (take group m.groups)) (get_or m.groups group 0) n a YRange is in
    elim (cases_lt group (length m.groups)) [
      | inl lt ↦ omega (arith, store.0, store.1, sum-part m.groups group lt, words-image m ss)
      | inr ge ↦ let none : get_or m.groups group 0 ≡ 0 = get_or-eq_default m.groups 0 ge in absurd (omega (arith, none, store.0))
    ]
stand-store ss before behind (V n None) a e other is =
    let m = names ss in
    let goes : (walked front ss).at ≡ (walked (walked front before) behind).at =
    ap (λ (xs : List Statement). (walked front xs).at) e ∙ ap (λ (h : Here). h.at) (walked-append front before behind) in
    let store = store_at-is (walked front before).section.base (walked front before).section.stores n a VRange is in
    omega (arith, store.0, store.1, stores_end front before (omega arith), walked-above m (walked front before) behind, goes, words-image m ss)
stand-store ss before behind (V n (Some p)) a e other is =
    let m = names ss in
    let within : (x : Section) → section_of (m.parts p) ≡ Some x → 6 * (x.base + x.stores) ≤ (walked front ss).at =
    λ x x_is.
    let opened = section-of-is (m.parts p) x x_is in
    let end = opened-within m front ss p opened.0 (omega arith) opened.1 in
    let same : opened.0.section.base + opened.0.section.stores ≡ x.base + x.stores = ap (λ (y : Section). y.base + y.stores) opened.2 in
    omega (arith, end, same) in
    omega (arith, v_store-within m (section_of (m.parts p)) n a (walked front ss).at within is, words-image m ss)
