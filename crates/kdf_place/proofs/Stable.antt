-- What a stable sort keeps: the first entry of each number, and the faults of those that stand twice.
use Rattle.std.proofs.Common.{◌≡◌, ℕ, ◌⊎◌, inl, inr, Bool, true, false, not, ◌&&◌, cond, eqb, is_some, List, [], ◌∷◌, ◌++◌, Option, Some, None, refl, sym, ap}
use Rattle.std.proofs.Common.{subst, ◌∙◌, arith}
use Rattle.std.proofs.lemmas.Bool.{cases_Bool, le-ltb, eq-eqb, eqb-true}
use Rattle.std.proofs.lemmas.List.{append-nil}
use Rattle.std.proofs.lemmas.List.Elements.{filter-append}
use Rattle.std.specs.List.{filter}
use Rattle.std.specs.List.Sorted.{ties, IsStableByKey}
use Rattle.std.specs.Ordering.{is_lt, nat_cmp}
use Rattle.kdf_fault.specs.Faults.{IsOneOf, NoneBefore, IsFirst, before}
use Rattle.kdf_fault.proofs.Least.{least-first}
use Rattle.kdf_usercode.specs.declared.fault.DeckFault.{DeckFault}
use Rattle.kdf_usercode.specs.Faults.{FoundFault, found, number_of, lesser, least}
use Rattle.kdf_usercode.proofs.Least.{least-between}
use Rattle.kdf_place.specs.declared.names.Entry.{Entry}
use Rattle.kdf_place.specs.Keys.{key}
use Rattle.kdf_place.specs.Late.{twice}
use Rattle.kdf_place.specs.Names.{first}
use Rattle.kdf_place.proofs.Said.{says, both-true}

-- the test tells entries of one number alike
abbrev IsByNumber : {T : Type 0} → (Entry T → Bool) → Type 0
IsByNumber {T} q = (a b : Entry T) → a.section ≡ b.section → a.number ≡ b.number → q a ≡ q b

-- the first of its number is the first of those that pass
filter-first : {T : Type 0} (q : Entry T → Bool) (x : Entry T) (es : List (Entry T)) → IsByNumber q → q x ≡ true
    → first x.section x.number (filter q es) ≡ first x.section x.number es
filter-first q x [] by passes = refl
filter-first q x (e ∷ es) by passes =
    elim (cases_Bool (says x.section x.number e)) [
      | inl same ↦
          let both = both-true (eqb e.section x.section) (eqb e.number x.number) same in
          let too : q e ≡ true = by e x (eqb-true e.section x.section both.0) (eqb-true e.number x.number both.1) ∙ passes in
          rw (too, same) refl
      | inr other ↦
          elim (cases_Bool (q e)) [
            | inl pass ↦ rw (pass, other) (filter-first q x es by passes)
            | inr fail ↦ rw (fail, other) (filter-first q x es by passes)
          ]
    ]

filter-one : {T : Type 0} (q : Entry T → Bool) (before : List (Entry T)) (e : Entry T) → q e ≡ true → filter q (before ++ e ∷ []) ≡ filter q before ++ e ∷ []
filter-one {T = T} q before e pass =
    let one : filter q (e ∷ []) ≡ e ∷ [] = rw pass refl in
    filter-append q before (e ∷ []) ∙ ap (λ (es : List (Entry T)). filter q before ++ es) one

filter-none : {T : Type 0} (q : Entry T → Bool) (before : List (Entry T)) (e : Entry T) → q e ≡ false → filter q (before ++ e ∷ []) ≡ filter q before
filter-none {T = T} q before e fail =
    let none : filter q (e ∷ []) ≡ [] = rw fail refl in
    filter-append q before (e ∷ []) ∙ ap (λ (es : List (Entry T)). filter q before ++ es) none ∙ append-nil (filter q before)

-- ---- faults as members

joined-left : (f : FoundFault) (xs ys : List FoundFault) → IsOneOf f xs → IsOneOf f (xs ++ ys)
joined-left f [] ys is = absurd is
joined-left f (x ∷ xs) ys is = elim is [ inl here ↦ inl here | inr later ↦ inr (joined-left f xs ys later) ]

joined-right : (f : FoundFault) (xs ys : List FoundFault) → IsOneOf f ys → IsOneOf f (xs ++ ys)
joined-right f [] ys is = is
joined-right f (x ∷ xs) ys is = inr (joined-right f xs ys is)

apart-of : (f : FoundFault) (xs ys : List FoundFault) → IsOneOf f (xs ++ ys) → IsOneOf f xs ⊎ IsOneOf f ys
apart-of f [] ys is = inr is
apart-of f (x ∷ xs) ys is =
    elim is [ inl here ↦ inl (inl here) | inr later ↦ elim (apart-of f xs ys later) [ inl left ↦ inl (inr left) | inr right ↦ inr right ] ]

-- the fault of an entry, where its number stood before
abbrev fault_of : {T : Type 0} → DeckFault → List (Entry T) → Entry T → List FoundFault
fault_of fault before e = cond (is_some (first e.section e.number before)) (found fault e.place ∷ []) []

fault_of-filter : {T : Type 0} (fault : DeckFault) (q : Entry T → Bool) (before : List (Entry T)) (e : Entry T) → IsByNumber q → q e ≡ true
    → fault_of fault (filter q before) e ≡ fault_of fault before e
fault_of-filter {T = T} fault q before e by pass =
    ap (λ (o : Option T). cond (is_some o) (found fault e.place ∷ []) []) (filter-first q e before by pass)

-- the faults of those that pass are faults of all
among-all : {T : Type 0} (fault : DeckFault) (q : Entry T → Bool) (f : FoundFault) (before es : List (Entry T)) → IsByNumber q
    → IsOneOf f (twice fault (filter q before) (filter q es)) → IsOneOf f (twice fault before es)
among-all fault q f before [] by is = is
among-all {T = T} fault q f before (e ∷ es) by is =
    let mine = fault_of fault before e in
    let later = twice fault (before ++ e ∷ []) es in
    elim (cases_Bool (q e)) [
      | inl pass ↦
          let passed : filter q (e ∷ es) ≡ e ∷ filter q es = rw pass refl in
          let now : IsOneOf f (fault_of fault (filter q before) e ++ twice fault (filter q before ++ e ∷ []) (filter q es)) =
          subst (λ (xs : List (Entry T)). IsOneOf f (twice fault (filter q before) xs)) passed is in
          elim (apart-of f (fault_of fault (filter q before) e) (twice fault (filter q before ++ e ∷ []) (filter q es)) now) [
            | inl here ↦ joined-left f mine later (subst (λ (fs : List FoundFault). IsOneOf f fs) (fault_of-filter fault q before e by pass) here)
            | inr rest ↦
                joined-right f mine later (among-all fault q f (before ++ e ∷ []) es by
                (subst (λ (xs : List (Entry T)). IsOneOf f (twice fault xs (filter q es))) (sym (filter-one q before e pass)) rest))
          ]
      | inr fail ↦
          let passed : filter q (e ∷ es) ≡ filter q es = rw fail refl in
          let now : IsOneOf f (twice fault (filter q before) (filter q es)) =
          subst (λ (xs : List (Entry T)). IsOneOf f (twice fault (filter q before) xs)) passed is in
          joined-right f mine later (among-all fault q f (before ++ e ∷ []) es by
          (subst (λ (xs : List (Entry T)). IsOneOf f (twice fault xs (filter q es))) (sym (filter-none q before e fail)) now))
    ]

-- a fault of all is one of those that are told alike with the entry that has it
with-alike : {T : Type 0} (fault : DeckFault) (f : FoundFault) (before es : List (Entry T)) → IsOneOf f (twice fault before es)
    → (x : Entry T) × ((q : Entry T → Bool) → IsByNumber q → q x ≡ true → IsOneOf f (twice fault (filter q before) (filter q es)))
with-alike fault f before [] is = absurd is
with-alike {T = T} fault f before (e ∷ es) is =
    let mine = fault_of fault before e in
    let later = twice fault (before ++ e ∷ []) es in
    elim (apart-of f mine later is) [
      | inl here ↦ (
        e,
        λ q by pass.
            let passed : filter q (e ∷ es) ≡ e ∷ filter q es = rw pass refl in
            let now : IsOneOf f (fault_of fault (filter q before) e) =
            subst (λ (fs : List FoundFault). IsOneOf f fs) (sym (fault_of-filter fault q before e by pass)) here in
            subst (λ (xs : List (Entry T)). IsOneOf f (twice fault (filter q before) xs)) (sym passed)
            (joined-left f (fault_of fault (filter q before) e) (twice fault (filter q before ++ e ∷ []) (filter q es)) now),
      )
      | inr rest ↦
          let found_in = with-alike fault f (before ++ e ∷ []) es rest in (
            found_in.0,
            λ q by passes.
                let there = found_in.1 q by passes in
                elim (cases_Bool (q e)) [
                  | inl pass ↦
                      let passed : filter q (e ∷ es) ≡ e ∷ filter q es = rw pass refl in
                      let now : IsOneOf f (twice fault (filter q before ++ e ∷ []) (filter q es)) =
                      subst (λ (xs : List (Entry T)). IsOneOf f (twice fault xs (filter q es))) (filter-one q before e pass) there in
                      subst (λ (xs : List (Entry T)). IsOneOf f (twice fault (filter q before) xs)) (sym passed)
                      (joined-right f (fault_of fault (filter q before) e) (twice fault (filter q before ++ e ∷ []) (filter q es)) now)
                  | inr fail ↦
                      let passed : filter q (e ∷ es) ≡ filter q es = rw fail refl in
                      let now : IsOneOf f (twice fault (filter q before) (filter q es)) =
                      subst (λ (xs : List (Entry T)). IsOneOf f (twice fault xs (filter q es))) (filter-none q before e fail) there in
                      subst (λ (xs : List (Entry T)). IsOneOf f (twice fault (filter q before) xs)) (sym passed) now
                ],
          )
    ]

-- ---- the least of the same members

not-before : (f g : FoundFault) (fs : List FoundFault) → NoneBefore number_of f fs → IsOneOf g fs → before number_of g f ≡ false
not-before f g [] none is = absurd is
not-before f g (x ∷ fs) none is =
    elim is [
      | inl here ↦ ap (λ (h : FoundFault). before number_of h f) here ∙ none.0
      | inr later ↦ not-before f g fs none.1 later
    ]

one-first : (a b : Option FoundFault) (fs gs : List FoundFault) → IsFirst number_of a fs → IsFirst number_of b gs
    → ((f : FoundFault) → IsOneOf f fs → IsOneOf f gs) → ((f : FoundFault) → IsOneOf f gs → IsOneOf f fs) → a ≡ b
one-first None None fs gs a_is b_is to from = refl
one-first None (Some g) fs gs a_is b_is to from =
    absurd (subst (λ (xs : List FoundFault). IsOneOf g xs) a_is (from g b_is.0))
one-first (Some f) None fs gs a_is b_is to from =
    absurd (subst (λ (xs : List FoundFault). IsOneOf f xs) b_is (to f a_is.0))
one-first (Some f) (Some g) fs gs a_is b_is to from =
    let g_late = not-before f g fs a_is.1 (from g b_is.0) in
    let f_late = not-before g f gs b_is.1 (to f a_is.0) in
    let left : lesser (Some f) (Some g) ≡ Some f = rw g_late refl in
    let right : lesser (Some g) (Some f) ≡ Some g = rw f_late refl in
    let turned : lesser (Some g) (Some f) ≡ lesser (Some f) (Some g) = least-between None (f ∷ []) (g ∷ []) [] in
    sym left ∙ sym turned ∙ right

least-alike : (fs gs : List FoundFault) → ((f : FoundFault) → IsOneOf f fs → IsOneOf f gs) → ((f : FoundFault) → IsOneOf f gs → IsOneOf f fs)
    → least fs ≡ least gs
least-alike fs gs to from = one-first (least fs) (least gs) fs gs (least-first number_of fs) (least-first number_of gs) to from

-- ---- a stable sort

-- the entries of one key with this one
abbrev alike : {T : Type 0} → Entry T → Entry T → Bool
alike x e = ties (λ a b. is_lt (nat_cmp (key a) (key b))) x e

alike-by : {T : Type 0} (x : Entry T) → IsByNumber (alike x)
alike-by x a b s n =
    let same : key a ≡ key b = rw (s, n) refl in
    ap (λ (k : ℕ). not (is_lt (nat_cmp (key x) k)) && not (is_lt (nat_cmp k (key x)))) same

alike-self : {T : Type 0} (x : Entry T) → alike x x ≡ true
alike-self x = rw (le-ltb (key x) (key x) (omega arith), eq-eqb (key x) (key x) refl) refl

first-stable-some : {T : Type 0} (xs ys : List (Entry T)) (x : Entry T) → IsStableByKey key nat_cmp xs ys
    → first x.section x.number ys ≡ first x.section x.number xs
first-stable-some {T = T} xs ys x stable =
    sym (filter-first (alike x) x ys (alike-by x) (alike-self x)) ∙ ap (λ (es : List (Entry T)). first x.section x.number es) (stable x)
    ∙ filter-first (alike x) x xs (alike-by x) (alike-self x)

first-stable-at : {T : Type 0} (xs ys : List (Entry T)) (p n : ℕ) (a b : Option T) → first p n ys ≡ a → first p n xs ≡ b
    → IsStableByKey key nat_cmp xs ys → first p n ys ≡ first p n xs
first-stable-at xs ys p n None None ys_is xs_is stable = ys_is ∙ sym xs_is
first-stable-at xs ys p n (Some v) b ys_is xs_is stable = first-stable-some xs ys (record { section = p; number = n; means = v; place = 0 }) stable
first-stable-at xs ys p n None (Some v) ys_is xs_is stable = first-stable-some xs ys (record { section = p; number = n; means = v; place = 0 }) stable

pub first-stable : {T : Type 0} (xs ys : List (Entry T)) (p n : ℕ) → IsStableByKey key nat_cmp xs ys → first p n ys ≡ first p n xs
first-stable xs ys p n stable = first-stable-at xs ys p n (first p n ys) (first p n xs) refl refl stable

moved : {T : Type 0} (fault : DeckFault) (xs ys : List (Entry T)) (f : FoundFault) → ((x : Entry T) → filter (alike x) ys ≡ filter (alike x) xs)
    → IsOneOf f (twice fault [] xs) → IsOneOf f (twice fault [] ys)
moved {T = T} fault xs ys f stable is =
    let there = with-alike fault f [] xs is in
    let x = there.0 in
    among-all fault (alike x) f [] ys (alike-by x)
    (subst (λ (es : List (Entry T)). IsOneOf f (twice fault [] es)) (sym (stable x)) (there.1 (alike x) (alike-by x) (alike-self x)))

pub twice-stable : {T : Type 0} (fault : DeckFault) (xs ys : List (Entry T)) → IsStableByKey key nat_cmp xs ys
    → least (twice fault [] ys) ≡ least (twice fault [] xs)
twice-stable fault xs ys stable =
    least-alike (twice fault [] ys) (twice fault [] xs)
    (λ f is. moved fault ys xs f (λ x. sym (stable x)) is)
    (λ f is. moved fault xs ys f stable is)
