-- A device of the pool that a program has claimed has exactly one stint that isn't given back, and one that it hasn't claimed has none.
use Rattle.std.specs.List.{filter}
use Rattle.std.proofs.Common.{◌≡◌, ◌≢◌, ℕ, zero, suc, ◌+◌, ◌<◌, Bool, true, false, cond, eqb, not, ◌&&◌, List, [], ◌∷◌, ◌++◌, length, get_or, map, set, Option}
use Rattle.std.proofs.Common.{Some, None, is_some, refl, sym, ap, ap₂, ◌∙◌, subst, ⊎_elim, arith}
use Rattle.std.proofs.lemmas.Bool.{and_parts, cases_Bool, cases_eq, eq-eqb, false≢true, ne_eqb}
use Rattle.std.proofs.lemmas.List.{get_or-replicate, get_or-set_other, get_or-set_same, length-append}
use Rattle.std.proofs.lemmas.List.Elements.{filter-append}
use Rattle.kdf_journal.specs.declared.kind.Kind.{Kind}
use Rattle.kdf_transfer.specs.Devices.{Fixture, DeviceProgress, is_kind}
use Rattle.kdf_transfer.specs.declared.order.TransferOrder.{TransferOrder}
use Rattle.kdf_transfer.specs.Slots.{Slot}
use Rattle.kdf_processor.specs.declared.registers.Registers.{Registers}
use Rattle.kdf_processor.specs.Claims.{is_claimed, taken_device}
use Rattle.kdf_processor.specs.Effect.{Question, FreeOf, Effect, Starting, Asking, Claiming, Returning}
use Rattle.kdf_processor.specs.Lone.{is_live, lone, lone_step}
use Rattle.kdf_processor.specs.Needs.{next_effect}
use Rattle.kdf_processor.specs.Row.{handed, perform, row, transferred}
use Rattle.kdf_processor.specs.State.{Claims, Lending, State, StintState, Stock, begin, device_in, device_limit, fixture_at, is_pooled, lending_of, lendings}
use Rattle.kdf_processor.specs.State.{own_fixture_at, pool_kind_at, unclaimed, word_at}
use Rattle.kdf_processor.proofs.Fit.{IsFit, next_fit}
use Rattle.kdf_processor.proofs.Lending.{mark_claimed}
use Rattle.kdf_processor.proofs.RowFacts.{live_step, next_answer, over_step}
use Rattle.kdf_processor.proofs.Stinting.{not_true, taken_can, unmarked}
use Rattle.kdf_transfer.proofs.OfKind.{exact}
use Rattle.kdf_theory.specs.Slots.{IsSlot}
use Rattle.kdf_theory.proofs.Course.DevicesHeld.{IsFixed, fixed_at, same_lone}

-- ---- the stints of a device that aren't given back

abbrev is_open : ℕ → StintState → Bool
is_open d x = eqb x.device d && not (is_some x.left)

abbrev opened : ℕ → List StintState → ℕ
opened d xs = length (filter (is_open d) xs)

abbrev one_if : Bool → ℕ
one_if b = cond b 1 0

more : {A : Type 0} (b : Bool) (x : A) (xs : List A) → length (cond b (x ∷ xs) xs) ≡ one_if b + length xs
more true x xs = omega arith
more false x xs = omega arith

opened_head : (d : ℕ) (x : StintState) (xs : List StintState) → opened d (x ∷ xs) ≡ one_if (is_open d x) + opened d xs
opened_head d x xs = more (is_open d x) x (filter (is_open d) xs)

-- those that are seen are as many
seen_open : (k : Stock) (d : ℕ) (xs : List StintState) → length (filter (λ (x : Lending). eqb x.device d && not x.given) (map (lending_of k) xs)) ≡ opened d xs
seen_open k d [] = refl
seen_open k d (x ∷ xs) =
    more (is_open d x) (lending_of k x) (filter (λ (y : Lending). eqb y.device d && not y.given) (map (lending_of k) xs))
    ∙ ap (λ n. one_if (is_open d x) + n) (seen_open k d xs)
    ∙ sym (opened_head d x xs)

open_new : (e d : ℕ) → is_open d (record { device = e; left = None }) ≡ eqb e d
open_new e d = of (eqb e d)
  where
    of : (b : Bool) → (b && true) ≡ b
    of true = refl
    of false = refl

-- a stint more
opened_more : (d e : ℕ) (xs : List StintState) → opened d (xs ++ record { device = e; left = None } ∷ []) ≡ opened d xs + one_if (eqb e d)
opened_more d e xs =
    ap length (filter-append (is_open d) xs (record { device = e; left = None } ∷ []))
    ∙ length-append (filter (is_open d) xs) (filter (is_open d) (record { device = e; left = None } ∷ []))
    ∙ ap (λ n. opened d xs + n) (opened_head d (record { device = e; left = None }) [] ∙ omega (arith, ap one_if (open_new e d)))

-- one that is over
shut : (d e : ℕ) (p : DeviceProgress) → is_open d (record { device = e; left = Some p }) ≡ false
shut d e p = of (eqb e d)
  where
    of : (b : Bool) → (b && false) ≡ false
    of true = refl
    of false = refl

-- one after its device was given back
open_after : (x d : ℕ) (p : DeviceProgress) (e : ℕ) (l : Option DeviceProgress)
    → is_open d (handed x p (record { device = e; left = l })) ≡ cond (eqb x d) false
    (is_open d (record { device = e; left = l }))
open_after x d p e (Some q) = of (eqb e x) ∙ sym (both (eqb x d))
  where
    of : (b : Bool) → is_open d (cond (b && false) (let y : StintState = record { device = e; left = Some p } in y)
        (let y : StintState = record { device = e; left = Some q } in y)) ≡ false
    of true = shut d e q
    of false = shut d e q

    both : (b : Bool) → cond b false (is_open d (record { device = e; left = Some q })) ≡ false
    both true = refl
    both false = shut d e q
open_after x d p e None =
    ⊎_elim
    (λ (same : e ≡ x). ap (λ b. is_open d (cond (b && true) (let y : StintState = record { device = e; left = Some p } in y)
    (let y : StintState = record { device = e; left = None } in y))) (eq-eqb e x same) ∙ shut d e p ∙ sym (gone same))
    (λ (ne : e ≢ x). ap (λ b. is_open d (cond (b && true) (let y : StintState = record { device = e; left = Some p } in y)
    (let y : StintState = record { device = e; left = None } in y))) (ne_eqb e x ne) ∙ sym (stays ne))
    (cases_eq e x)
  where
    gone : e ≡ x → cond (eqb x d) false (is_open d (record { device = e; left = None })) ≡ false
    gone same = ap (λ b. cond (eqb x d) false b) (open_new e d ∙ ap (λ n. eqb n d) same) ∙ of (eqb x d)
      where
        of : (b : Bool) → cond b false b ≡ false
        of true = refl
        of false = refl

    stays : e ≢ x → cond (eqb x d) false (is_open d (record { device = e; left = None })) ≡ is_open d (record { device = e; left = None })
    stays ne =
        ⊎_elim
        (λ (same : x ≡ d). ap (λ b. cond b false (is_open d (record { device = e; left = None }))) (eq-eqb x d same)
        ∙ sym (open_new e d ∙ ne_eqb e d (λ is. ne (is ∙ sym same))))
        (λ (other : x ≢ d). ap (λ b. cond b false (is_open d (record { device = e; left = None }))) (ne_eqb x d other))
        (cases_eq x d)

opened_after : (x d : ℕ) (p : DeviceProgress) (xs : List StintState) → opened d (map (handed x p) xs) ≡ cond (eqb x d) 0 (opened d xs)
opened_after x d p [] = of (eqb x d)
  where
    of : (b : Bool) → opened d [] ≡ cond b 0 (opened d [])
    of true = refl
    of false = refl
opened_after x d p (y ∷ ys) =
    opened_head d (handed x p y) (map (handed x p) ys)
    ∙ ap₂ (λ b n. one_if b + n) (open_after x d p y.device y.left) (opened_after x d p ys)
    ∙ of (eqb x d)
  where
    of : (b : Bool) → one_if (cond b false (is_open d y)) + cond b 0 (opened d ys) ≡ cond b 0 (opened d (y ∷ ys))
    of true = refl
    of false = sym (opened_head d y ys)

-- ---- after an order

abbrev IsCounted : State → Type 0
IsCounted s = (d : ℕ) → is_pooled s.stock.claims d ≡ true → opened d s.stock.stints ≡ one_if (get_or s.stock.claims.claimed d false)

module _ (s : State) (fixed : IsFixed s.stock.claims) (counted : IsCounted s) where
  abbrev k : Stock
  k = s.stock

  abbrev c : Claims
  c = s.stock.claims

  low : (d : ℕ) → is_pooled c d ≡ true → d < length c.claimed
  low d pooled = omega (arith, fixed.few d pooled, fixed.marks)

  -- the mark of another device changes
  aside : (x d : ℕ) (b : Bool) → is_pooled c d ≡ true → d ≢ x → opened d k.stints ≡ one_if (get_or (set c.claimed x b) d false)
  aside x d b pooled other = counted d pooled ∙ sym (ap one_if (get_or-set_other c.claimed x d b false other))

  taken_counted : (x d : ℕ) → is_pooled c x ≡ true → get_or c.claimed x false ≡ false → is_pooled c d ≡ true
      → opened d (k.stints ++ record { device = x; left = None } ∷ []) ≡ one_if (get_or (set c.claimed x true) d false)
  taken_counted x d there free pooled =
      opened_more d x k.stints
      ∙ ⊎_elim
      (λ (same : x ≡ d).
      let was : opened d k.stints ≡ 0 = counted d pooled ∙ ap one_if (ap (λ e. get_or c.claimed e false) (sym same) ∙ free) in
      let new : one_if (eqb x d) ≡ 1 = ap one_if (eq-eqb x d same) in
      let marked : one_if (get_or (set c.claimed x true) d false) ≡ 1 =
      ap one_if (ap (λ e. get_or (set c.claimed x true) e false) (sym same) ∙ get_or-set_same c.claimed x true false (low x there)) in
      omega (arith, was, new, marked))
      (λ (other : x ≢ d).
      let none : one_if (eqb x d) ≡ 0 = ap one_if (ne_eqb x d other) in
      let stays = aside x d true pooled (λ e. other (sym e)) in
      omega (arith, none, stays))
      (cases_eq x d)

  given_counted : (x d : ℕ) (p : DeviceProgress) → is_pooled c x ≡ true → is_pooled c d ≡ true
      → opened d (map (handed x p) k.stints) ≡ one_if (get_or (set c.claimed x false) d false)
  given_counted x d p there pooled =
      opened_after x d p k.stints
      ∙ ⊎_elim
      (λ (same : x ≡ d).
      ap (λ b. cond b 0 (opened d k.stints)) (eq-eqb x d same)
      ∙ sym (ap one_if (ap (λ e. get_or (set c.claimed x false) e false) (sym same) ∙ get_or-set_same c.claimed x false false (low x there))))
      (λ (other : x ≢ d).
      ap (λ b. cond b 0 (opened d k.stints)) (ne_eqb x d other)
      ∙ aside x d false pooled (λ e. other (sym e)))
      (cases_eq x d)

  moved_counted : (r : Registers) (d : ℕ) (o : TransferOrder) (first last : ℕ) (f : Option Fixture)
      → IsCounted (record { registers = r; stock = transferred d o first last f k })
  moved_counted r d o first last None = counted
  moved_counted r d o first last (Some f) = counted

  by_effect : (answer : Question → ℕ) (e : Effect) → IsFit c e → IsCounted (perform answer e s)
  by_effect answer (Starting d o first last after) fit = moved_counted s.registers d o first last (fixture_at c d)
  by_effect answer (Claiming x after) fit =
      λ d pooled. aside x d true pooled (λ same. false≢true (ap is_some (sym (fixed.apart d pooled)) ∙ ap (λ e. is_some (own_fixture_at c e)) same ∙ fit))
  by_effect answer (Asking (FreeOf kind) after) fit =
      let x : ℕ = taken_device c kind (answer (FreeOf kind)) in
      let can = and_parts (is_kind kind (pool_kind_at c x)) (not (is_claimed c x)) (taken_can c kind (answer (FreeOf kind)) fit) in
      let is : pool_kind_at c x ≡ Some kind = exact kind (pool_kind_at c x) can.0 in
      let there : is_pooled c x ≡ true = ap is_some is in
      λ d pooled. taken_counted x d there (unmarked c x kind is (fixed.few x there) (not_true (is_claimed c x) can.1)) pooled
  by_effect answer (Returning true x after) fit = λ d pooled. given_counted x d (device_in k x) (sym fit) pooled
  by_effect answer (Returning false x after) fit =
      λ d pooled. aside x d false pooled (λ same. false≢true (fit ∙ ap (is_pooled c) (sym same) ∙ pooled))
  by_effect answer e fit = counted

  row_counted : (answer : Question → ℕ) → IsCounted (row s answer)
  row_counted answer = by_effect answer (next_effect s) (next_fit c (word_at s) s.registers)

step_counted : (answers : List ℕ) (s : State) → IsFixed s.stock.claims → IsCounted s → IsCounted (lone_step answers s)
step_counted answers s fixed counted =
    ⊎_elim
    (λ (live : is_live s.registers.state ≡ true). subst IsCounted (sym (live_step answers s live)) (row_counted s fixed counted (next_answer answers s)))
    (λ (over : is_live s.registers.state ≡ false). subst IsCounted (sym (over_step answers s over)) counted)
    (cases_Bool (is_live s.registers.state))

-- ---- a program run alone

module _ (slot : Slot) (is : IsSlot slot) (answers : List ℕ) where
  fixed_lone : (n : ℕ) → IsFixed (lone (begin slot) answers n).stock.claims
  fixed_lone n =
      let same = same_lone (begin slot) answers n in
      let first = fixed_at (Some slot) is in
      record {
        marks = same.marks ∙ first.marks;
        few = λ d pooled. first.few d (ap (λ (ks : List (Option Kind)). is_some (get_or ks d None)) (sym same.pool) ∙ pooled);
        apart = λ d pooled.
            ap (λ (fs : List (Option Fixture)). get_or fs d None) same.fixtures
            ∙ first.apart d (ap (λ (ks : List (Option Kind)). is_some (get_or ks d None)) (sym same.pool) ∙ pooled);
      }

  counted_first : IsCounted (begin slot)
  unfolding unclaimed
  counted_first d pooled = sym (ap one_if (get_or-replicate {A = Bool} device_limit d false false (is.few d pooled)))

  counted_lone : (n : ℕ) → IsCounted (lone (begin slot) answers n)
  counted_lone zero = counted_first
  counted_lone (suc n) = step_counted answers (lone (begin slot) answers n) (fixed_lone n) (counted_lone n)

  counted_seen : (n d : ℕ) → is_pooled (lone (begin slot) answers n).stock.claims d ≡ true
      → length (filter (λ (x : Lending). eqb x.device d && not x.given) (lendings (lone (begin slot) answers n).stock))
      ≡ one_if (get_or (lone (begin slot) answers n).stock.claims.claimed d false)
  unfolding lendings
  counted_seen n d pooled =
      seen_open (lone (begin slot) answers n).stock d (lone (begin slot) answers n).stock.stints ∙ counted_lone n d pooled

  -- one that is claimed has exactly one
  pub one_stint : (n d : ℕ) → is_pooled (lone (begin slot) answers n).stock.claims d ≡ true → is_claimed (lone (begin slot) answers n).stock.claims d ≡ true
      → length (filter (λ (x : Lending). eqb x.device d && not x.given) (lendings (lone (begin slot) answers n).stock)) ≡ 1
  one_stint n d pooled claimed = counted_seen n d pooled ∙ ap one_if (mark_claimed (lone (begin slot) answers n).stock.claims d claimed)

  -- one that isn't has none
  pub no_stint : (n d : ℕ) → is_pooled (lone (begin slot) answers n).stock.claims d ≡ true → is_claimed (lone (begin slot) answers n).stock.claims d ≡ false
      → length (filter (λ (x : Lending). eqb x.device d && not x.given) (lendings (lone (begin slot) answers n).stock)) ≡ 0
  no_stint n d pooled free = counted_seen n d pooled ∙ ap one_if (free_mark (pool_kind_at c d) refl pooled)
    where
      c : Claims
      c = (lone (begin slot) answers n).stock.claims

      free_mark : (o : Option Kind) → pool_kind_at c d ≡ o → is_some o ≡ true → get_or c.claimed d false ≡ false
      free_mark None e there = cc
      free_mark (Some kind) e there = unmarked c d kind e ((fixed_lone n).few d pooled) free
