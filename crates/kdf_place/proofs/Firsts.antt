-- The first entry of a number among entries in order.
use Rattle.std.proofs.Common.{◌≡◌, ◌≢◌, ℕ, zero, suc, ◌+◌, ◌-◌, ◌<◌, ◌≤◌, length, get_or, take, drop, Bool, true, false, cond, eqb, ltb, is_some, List, [], ◌∷◌}
use Rattle.std.proofs.Common.{◌++◌, Option, Some, None, refl, sym, ap, ◌∙◌, arith, inl, inr}
use Rattle.std.proofs.Math.Seq.{drop-cons}
use Rattle.std.proofs.lemmas.Bool.{cases_lt, cases_Bool, lt-ltb, le-ltb, eqb-true, eq-eqb}
use Rattle.std.proofs.lemmas.List.{at_drop_more, take_more, get_or_default, get_or-take, take-append-drop, length-take-le}
use Rattle.std.specs.List.Sorted.{IsNonDecreasingBy, IsPartitionPoint}
use Rattle.kdf_usercode.specs.declared.fault.DeckFault.{DeckFault}
use Rattle.kdf_usercode.specs.Faults.{FoundFault, found, lesser, least}
use Rattle.kdf_usercode.proofs.Least.{least-front}
use Rattle.kdf_place.specs.declared.names.Entry.{Entry}
use Rattle.kdf_place.specs.Keys.{key_of, key}
use Rattle.kdf_place.specs.Late.{twice}
use Rattle.kdf_place.specs.Names.{first}
use Rattle.kdf_place.proofs.Said.{says, both-true}

-- one entry more
take-entry : {T : Type 0} (i : ℕ) (es : List T) (e : T) → i < length es → e ≡ get_or es i e → take (i + 1) es ≡ take i es ++ e ∷ []
take-entry i es e lt is = take_more es i e lt ∙ ap (λ x. take i es ++ x ∷ []) (sym is)

-- one entry more was looked at
pub twice-step : {T : Type 0} (fault : DeckFault) (best best' : Option FoundFault) (i : ℕ) (es : List (Entry T)) (e : Entry T) (stood : Bool) → i < length es
    → e ≡ get_or es i e
    → stood ≡ is_some (first e.section e.number (take i es))
    → best' ≡ lesser best (least (cond stood (found fault e.place ∷ []) []))
    → lesser best' (least (twice fault (take (i + 1) es) (drop (i + 1) es))) ≡ lesser best (least (twice fault (take i es) (drop i es)))
twice-step {T = T} fault best best' i es e stood lt is s b =
    let later = twice fault (take (i + 1) es) (drop (i + 1) es) in
    let here : twice fault (take i es) (drop i es) ≡ cond stood (found fault e.place ∷ []) [] ++ later
    = at_drop_more (twice fault (take i es)) es i e lt ∙ rw (← is, ← s, ← take-entry i es e lt is) refl in
    ap (λ o. lesser o (least later)) b ∙ least-front best (cond stood (found fault e.place ∷ []) []) later ∙ ap (λ x. lesser best (least x)) (sym here)

-- ---- numbers and keys

-- an entry of a number has its key
key-said : {T : Type 0} (p n : ℕ) (e : Entry T) → says p n e ≡ true → key e ≡ key_of p n
key-said p n e said =
    let both = both-true (eqb e.section p) (eqb e.number n) said in
    let section = eqb-true e.section p both.0 in
    let number = eqb-true e.number n both.1 in
    omega arith

says-not : {T : Type 0} (p n : ℕ) (e : Entry T) → key e ≢ key_of p n → says p n e ≡ false
says-not p n e other =
    elim (cases_Bool (says p n e)) [
      | inl said ↦ absurd (other (key-said p n e said))
      | inr not_said ↦ not_said
    ]

-- of numbers below 2^16 each key has one
said-key : {T : Type 0} (p n : ℕ) (e : Entry T) → e.number < 65536 → n < 65536 → key e ≡ key_of p n → says p n e ≡ true
said-key p n e low n_low same =
    let section : e.section ≡ p = omega arith in
    let number : e.number ≡ n = omega arith in
    rw (eq-eqb e.section p section, eq-eqb e.number n number) refl

-- ---- looking for a number

-- entries that say nothing of a number
passed-over : {T : Type 0} (p n : ℕ) (d : Entry T) (xs ys : List (Entry T)) → ((k : ℕ) → k < length xs → says p n (get_or xs k d) ≡ false)
    → first p n (xs ++ ys) ≡ first p n ys
passed-over p n d [] ys none = refl
passed-over p n d (x ∷ xs) ys none =
    let here : says p n x ≡ false = none zero (omega arith) in
    rw here (passed-over p n d xs ys (λ k lt. none (suc k) (omega arith)))

nothing-said : {T : Type 0} (p n : ℕ) (d : Entry T) (xs : List (Entry T)) → ((k : ℕ) → k < length xs → says p n (get_or xs k d) ≡ false)
    → first p n xs ≡ None
nothing-said p n d [] none = refl
nothing-said p n d (x ∷ xs) none =
    let here : says p n x ≡ false = none zero (omega arith) in
    rw here (nothing-said p n d xs (λ k lt. none (suc k) (omega arith)))

something-said : {T : Type 0} (p n : ℕ) (xs : List (Entry T)) (k : ℕ) (d : Entry T) → k < length xs → says p n (get_or xs k d) ≡ true
    → is_some (first p n xs) ≡ true
something-said p n [] k d lt said = absurd (omega arith)
something-said p n (x ∷ xs) zero d lt said = rw said refl
something-said p n (x ∷ xs) (suc k) d lt said =
    elim (cases_Bool (says p n x)) [
      | inl here ↦ rw here refl
      | inr other ↦ rw other (something-said p n xs k d (omega arith) said)
    ]

-- the keys below i are less than this one, and those from i on are not
pub record Parts {T : Type 0} (es : List (Entry T)) (goal i : ℕ) : Type 0 where
  pub below : (k : ℕ) (d : Entry T) → k < i → ltb (key (get_or es k d)) goal ≡ true
  pub from : (k : ℕ) (d : Entry T) → i ≤ k → k < length es → ltb (key (get_or es k d)) goal ≡ false

-- a partition point, told of the same entries and the same key
pub same-point : {T : Type 0} (es es' : List (Entry T)) (k goal i : ℕ) → es' ≡ es → k ≡ goal
    → IsPartitionPoint (λ e. ltb (key e) k ≡ true) (λ e. ltb (key e) k ≡ false) es' i
    → IsPartitionPoint (λ e. ltb (key e) goal ≡ true) (λ e. ltb (key e) goal ≡ false) es i
same-point es es' k goal i same is point = rw (← same, ← is) point

pub parts-from : {T : Type 0} (es : List (Entry T)) (goal i : ℕ)
    → IsPartitionPoint (λ e. ltb (key e) goal ≡ true) (λ e. ltb (key e) goal ≡ false) es i → Parts es goal i
parts-from es goal i point = record {
  below = λ j d lt. point.0 j d (omega arith) lt;
  from = λ j d le lt. point.1 j d le lt;
}

not-less : (a b : ℕ) → ltb a b ≡ false → b ≤ a
not-less a b fail = elim (cases_lt a b) [ inl lt ↦ let pass = lt-ltb a b lt in absurd cc | inr ge ↦ ge ]

less : (a b : ℕ) → ltb a b ≡ true → a < b
less a b pass = elim (cases_lt a b) [ inl lt ↦ lt | inr ge ↦ let fail = le-ltb a b ge in absurd cc ]

pub found-here : {T : Type 0} (es : List (Entry T)) (p n i : ℕ) (e : Entry T) → Parts es (key_of p n) i → i < length es → e ≡ get_or es i e
    → says p n e ≡ true → first p n es ≡ Some e.means
found-here {T = T} es p n i e parts lt is said =
    let front = take i es in
    let long : length front ≡ i = length-take-le i es (omega arith) in
    let none : (k : ℕ) → k < length front → says p n (get_or front k e) ≡ false =
    λ k low.
    let under : k < i = omega arith in
    let below = less (key (get_or es k e)) (key_of p n) (parts.below k e under) in
    ap (says p n) (get_or-take i es k e under) ∙ says-not p n (get_or es k e) (λ same. absurd (omega arith)) in
    let split : drop i es ≡ e ∷ drop (suc i) es = drop-cons es i e lt ∙ ap (λ (x : Entry T). x ∷ drop (suc i) es) (sym is) in
    ap (first p n) (sym (take-append-drop i es)) ∙ passed-over p n e front (drop i es) none ∙ ap (first p n) split ∙ rw said refl

pub not-here : {T : Type 0} (es : List (Entry T)) (p n i : ℕ) (e : Entry T) → Parts es (key_of p n) i → IsNonDecreasingBy key es
    → i < length es → e ≡ get_or es i e → e.number < 65536 → n < 65536 → says p n e ≡ false → first p n es ≡ None
not-here {T = T} es p n i e parts rising lt is low n_low other =
    nothing-said p n e es
    (λ k within. says-not p n (get_or es k e)
    (λ same.
    elim (cases_lt k i) [
      | inl under ↦ let below = less (key (get_or es k e)) (key_of p n) (parts.below k e under) in absurd (omega arith)
      | inr over ↦
          let mine : key e ≡ key (get_or es i e) = ap (λ (x : Entry T). key x) is in
          let up = rising i k e over within in
          let from = not-less (key (get_or es i e)) (key_of p n) (parts.from i e (omega arith) lt) in
          let said = said-key p n e low n_low (omega (arith, mine, up, from, same)) in absurd cc
    ]))

pub none-there : {T : Type 0} (es : List (Entry T)) (p n i : ℕ) → Parts es (key_of p n) i → length es ≤ i → first p n es ≡ None
none-there [] p n i parts past = refl
none-there {T = T} (x ∷ xs) p n i parts past =
    let es : List (Entry T) = x ∷ xs in
    nothing-said p n x es
    (λ k within. says-not p n (get_or es k x)
    (λ same. let below = less (key (get_or es k x)) (key_of p n) (parts.below k x (omega (arith, past, within))) in absurd (omega (arith, same, below))))

-- in order, a number that stood before stands directly before
pub stood-directly : {T : Type 0} (es : List (Entry T)) (i : ℕ) (e b : Entry T) → IsNonDecreasingBy key es → 0 < i → i < length es
    → e ≡ get_or es i e → b ≡ get_or es (i - 1) b → e.number < 65536 → b.number < 65536
    → says e.section e.number b ≡ is_some (first e.section e.number (take i es))
stood-directly {T = T} es i e b rising some lt is b_is low b_low =
    let front = take i es in
    let long : length front ≡ i = length-take-le i es (omega arith) in
    let b_at : get_or es (i - 1) e ≡ b = get_or_default es (i - 1) e b (omega arith) ∙ sym b_is in
    elim (cases_Bool (says e.section e.number b)) [
      | inl said ↦
          let there : get_or front (i - 1) e ≡ b = get_or-take i es (i - 1) e (omega arith) ∙ b_at in
          said ∙ sym (something-said e.section e.number front (i - 1) e (omega arith) (ap (says e.section e.number) there ∙ said))
      | inr other ↦
          let none : first e.section e.number front ≡ None =
          nothing-said e.section e.number e front
          (λ k within.
          let under : k < i = omega arith in
          ap (says e.section e.number) (get_or-take i es k e under)
          ∙ says-not e.section e.number (get_or es k e)
          (λ same.
          let up = rising k (i - 1) e (omega arith) (omega arith) in
          let last = rising (i - 1) i e (omega arith) lt in
          let b_key : key (get_or es (i - 1) e) ≡ key b = ap (λ (x : Entry T). key x) b_at in
          let e_key : key e ≡ key (get_or es i e) = ap (λ (x : Entry T). key x) is in
          let said = said-key e.section e.number b b_low low (omega (arith, same, up, last, b_key, e_key)) in absurd cc)) in
          other ∙ ap (λ (o : Option T). is_some o) (sym none)
    ]
