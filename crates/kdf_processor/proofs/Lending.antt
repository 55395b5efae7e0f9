-- What holds of the stints of a program holds at its start and after each order.
use Rattle.std.specs.List.{All, AllPairs}
use Rattle.std.proofs.Common.{◌≡◌, ◌≢◌, ℕ, zero, suc, ◌<◌, ◌≤◌, Bool, true, false, cond, eqb, ltb, not, ◌&&◌, List, [], ◌∷◌, ◌++◌, length, get_or, map, set}
use Rattle.std.proofs.Common.{Option, Some, None, is_some, refl, sym, ap, ◌∙◌, subst, ⊎_elim, arith}
use Rattle.std.proofs.lemmas.Bool.{and_parts, cases_Bool, cases_eq, cases_lt, eq-eqb, false_from_ne_true, false≢true}
use Rattle.std.proofs.lemmas.List.{get_or_append_left, get_or_push, get_or-map, get_or-set_other, get_or-set_same, length-map, length-replicate, length-set}
use Rattle.std.proofs.lemmas.List.{length_push}
use Rattle.std.proofs.lemmas.List.Elements.{All-push}
use Rattle.kdf_journal.specs.declared.failure.Failure.TheVariants.{Liv, Claim}
use Rattle.kdf_journal.specs.declared.kind.Kind.{Kind}
use Rattle.kdf_journal.specs.declared.kind.Kind.TheVariants.{Mt}
use Rattle.kdf_syllable.specs.declared.order.Order.{Order}
use Rattle.kdf_transfer.specs.AtOnce.{kind_of, has_area}
use Rattle.kdf_transfer.specs.Devices.{Fixture, DeviceProgress, is_kind, new_progress}
use Rattle.kdf_transfer.specs.declared.order.TransferOrder.{TransferOrder}
use Rattle.kdf_processor.specs.declared.registers.Registers.{Registers}
use Rattle.kdf_transfer.specs.declared.test.Test.TheVariants.{Flag, Start, Mark}
use Rattle.kdf_processor.specs.Claims.{can_take, claim, is_claimed, kind_at, taken_device}
use Rattle.kdf_processor.specs.Effect.{Question, FreeOf, Change, Refused, Going, of_change, Effect, Failing, Ending, Changing, Fetching, Keeping, Testing}
use Rattle.kdf_processor.specs.Effect.{Starting, Asking, IsBusy, IsOut, Time, OfService, Claiming, Returning, Spooling}
use Rattle.kdf_processor.specs.Needs.{effect_at, effect_or_liv, next_effect, order_at}
use Rattle.kdf_processor.specs.Row.{answered, handed, perform, released, row, transferred}
use Rattle.kdf_transfer.specs.Slots.{Slot}
use Rattle.kdf_processor.specs.State.{Claims, State, StintState, Stock, begin, stocked, unclaimed, device_in, device_limit, fixture_at, is_pooled, pool_kind_at}
use Rattle.kdf_processor.specs.State.{word_at}
use Rattle.kdf_processor.specs.Stints.{HasPool, IsLent}
use Rattle.kdf_processor.specs.Table.{effect, guarded, is_area}
use Rattle.kdf_processor.proofs.Fit.{IsFit, next_fit}
use Rattle.kdf_transfer.proofs.OfKind.{exact}
use Rattle.kdf_processor.proofs.Frees.{none_of_kind}
use Rattle.kdf_processor.proofs.Stinting.{not_true, taken_can, unmarked}
use Rattle.kdf_processor.proofs.EachEffect.{each_effect}

-- ---- a transfer begins on a device that is claimed alone, and only such a one is given back

abbrev pub IsBegun : Claims → Effect → Type 0
IsBegun c (Starting d o first last after) = is_kind (kind_of o) (claim c d) ≡ true
IsBegun c (Returning pooled d after) = is_claimed c d ≡ true
IsBegun c e = Unit {0}

either_begun : (c : Claims) (b : Bool) (x y : Effect) → (b ≡ true → IsBegun c x) → IsBegun c y → IsBegun c (cond b x y)
either_begun c true x y hx hy = hx refl
either_begun c false x y hx hy = hy

guarded_begun : (c : Claims) (e : Effect) → IsBegun c (guarded c e)
unfolding guarded
guarded_begun c (Failing kind) = tt
guarded_begun c (Ending after) = tt
guarded_begun c (Changing after) = tt
guarded_begun c (Fetching a after) = either_begun c (ltb a c.size) (Fetching a after) (Failing Liv) (λ _. tt) tt
guarded_begun c (Keeping a w after) = either_begun c (ltb a c.size) (Keeping a w after) (Failing Liv) (λ _. tt) tt
guarded_begun c (Testing d Flag after) = either_begun c (is_claimed c d) (Testing d Flag after) (Failing Claim) (λ _. tt) tt
guarded_begun c (Testing d Start after) = either_begun c (is_kind Mt (claim c d)) (Testing d Start after) (Failing Claim) (λ _. tt) tt
guarded_begun c (Testing d Mark after) = either_begun c (is_kind Mt (claim c d)) (Testing d Mark after) (Failing Claim) (λ _. tt) tt
guarded_begun c (Starting d o first last after) =
    either_begun c (is_kind (kind_of o) (claim c d)) _ (Failing Claim)
    (λ is. either_begun c (has_area o) _ (Starting d o first last after)
    (λ _. either_begun c (is_area c.size first last) (Starting d o first last after) (Failing Liv) (λ _. is) tt) is)
    tt
guarded_begun c (Asking (IsBusy d) after) = either_begun c (is_claimed c d) (Asking (IsBusy d) after) (Failing Claim) (λ _. tt) tt
guarded_begun c (Asking (IsOut first last) after) = either_begun c (is_area c.size first last) (Asking (IsOut first last) after) (Failing Liv) (λ _. tt) tt
guarded_begun c (Asking Time after) = tt
guarded_begun c (Asking (FreeOf kind) after) = tt
guarded_begun c (Asking (OfService word) after) = tt
guarded_begun c (Claiming d after) = tt
guarded_begun c (Returning pooled d after) = either_begun c (is_claimed c d) (Returning pooled d after) (Failing Claim) (λ is. is) tt
guarded_begun c (Spooling stream first last after) = either_begun c (is_area c.size first last) (Spooling stream first last after) (Failing Liv) (λ _. tt) tt

change_begun : (c : Claims) (x : Change) → IsBegun c (of_change x)
change_begun c (Refused kind) = tt
change_begun c (Going after) = tt

effect_begun : (c : Claims) (r : Registers) (o : Order) → IsBegun c (effect c r o)
effect_begun c r = each_effect c r (λ _. Unit {0}) (IsBegun c) (λ e _. guarded_begun c e) (change_begun c) tt (λ code k q. tt) (λ t u q a. tt) (λ code q. tt)
    (λ b q. tt)

or_liv_begun : (c : Claims) (r : Registers) (o : Option Order) → IsBegun c (effect_or_liv c r o)
or_liv_begun c r None = tt
or_liv_begun c r (Some o) = effect_begun c r o

pub next_begun : (c : Claims) (word : ℕ → ℕ) (r : Registers) → IsBegun c (effect_at c word r)
next_begun c word r = or_liv_begun c r (order_at c.size word r.at)

held_mark : (k : Kind) (b : Bool) (o : Option Kind) → is_kind k (cond b o None) ≡ true → b ≡ true
held_mark k true o is = refl
held_mark k false o is = absurd (false≢true (sym (none_of_kind k) ∙ is))

-- such a device has the mark
pub mark_of : (c : Claims) (d : ℕ) (k : Kind) → is_kind k (claim c d) ≡ true → get_or c.claimed d false ≡ true
mark_of c d k is = (and_parts (ltb d device_limit) (get_or c.claimed d false) (held_mark k (ltb d device_limit && get_or c.claimed d false) (kind_at c d) is)).1

claimed_mark : (b : Bool) (o : Option Kind) → is_some (cond b o None) ≡ true → b ≡ true
claimed_mark true o is = refl
claimed_mark false o is = cc

-- and so has any that is claimed
pub mark_claimed : (c : Claims) (d : ℕ) → is_claimed c d ≡ true → get_or c.claimed d false ≡ true
mark_claimed c d is = (and_parts (ltb d device_limit) (get_or c.claimed d false)
    (claimed_mark (ltb d device_limit && get_or c.claimed d false) (kind_at c d) is)).1

-- ---- marks

more_marked : (xs : List Bool) (x d : ℕ) → get_or xs d false ≡ true → get_or (set xs x true) d false ≡ true
more_marked [] x d is = is
more_marked (y ∷ ys) zero zero is = refl
more_marked (y ∷ ys) zero (suc d) is = is
more_marked (y ∷ ys) (suc x) zero is = is
more_marked (y ∷ ys) (suc x) (suc d) is = more_marked ys x d is

-- a device that isn't marked, with one mark more, wasn't
less_marked : (xs : List Bool) (x d : ℕ) → get_or (set xs x true) d false ≡ false → get_or xs d false ≡ false
less_marked xs x d free = false_from_ne_true _ (λ is. false≢true (sym free ∙ more_marked xs x d is))

-- ---- pairs

pairs_push : {X : Type 0} (R : X → X → Type 0) (xs : List X) (x : X) → AllPairs R xs → All (λ y. R y x) xs → AllPairs R (xs ++ x ∷ [])
pairs_push R xs x pairs last i j d less inside =
    ⊎_elim
    (λ (low : j < length xs).
    let below : i < length xs = omega arith in
    subst (λ y. R y (get_or (xs ++ x ∷ []) j d)) (sym (get_or_append_left xs (x ∷ []) d i below))
    (subst (λ z. R (get_or xs i d) z) (sym (get_or_append_left xs (x ∷ []) d j low)) (pairs i j d less low)))
    (λ (high : length xs ≤ j).
    let at : j ≡ length xs = omega (arith, length_push xs x) in
    let below : i < length xs = omega arith in
    subst (λ y. R y (get_or (xs ++ x ∷ []) j d)) (sym (get_or_append_left xs (x ∷ []) d i below))
    (subst (λ z. R (get_or xs i d) z) (sym (get_or_push xs x d j (sym at))) (last i d below)))
    (cases_lt j (length xs))

module _ (s : State) (lent : IsLent s) where
  abbrev k : Stock
  k = s.stock

  abbrev c : Claims
  c = s.stock.claims

  -- a device more is claimed
  pub claimed_more : (r : Registers) (x : ℕ) → IsLent (record { registers = r; stock = record k { claims = record c { claimed = set c.claimed x true } } })
  claimed_more r x =
      record {
        places = lent.places;
        marks = length-set c.claimed x true ∙ lent.marks;
        few = lent.few;
        fresh = λ d pooled free. lent.fresh d pooled (less_marked c.claimed x d free);
        pooled = lent.pooled;
        held = λ i y lt none. more_marked c.claimed x (get_or k.stints i y).device (lent.held i y lt none);
        one = lent.one;
      }

  -- one of the pool is taken
  pub taken_lent : (r : Registers) (kind : Kind) (a : ℕ) → can_take c kind (taken_device c kind a) ≡ true
      → IsLent (record { registers = r; stock = answered (FreeOf kind) a k })
  taken_lent r kind a can =
      record {
        places = lent.places;
        marks = length-set c.claimed d true ∙ lent.marks;
        few = lent.few;
        fresh = λ e pooled free. lent.fresh e pooled (less_marked c.claimed d e free);
        pooled = All-push (λ (x : StintState). is_pooled c x.device ≡ true) k.stints (record { device = d; left = None }) lent.pooled pooled;
        held =
            All-push (λ (x : StintState). x.left ≡ None → get_or (set c.claimed d true) x.device false ≡ true) k.stints (record { device = d; left = None })
            (λ i y lt none. more_marked c.claimed d (get_or k.stints i y).device (lent.held i y lt none))
            (λ none. get_or-set_same c.claimed d true false (omega (arith, low, lent.marks)));
        one =
            pairs_push (λ (x y : StintState). x.left ≡ None → y.left ≡ None → x.device ≢ y.device) k.stints (record { device = d; left = None }) lent.one
            (λ i y lt none last same. false≢true (sym mark ∙ ap (λ e. get_or c.claimed e false) (sym same) ∙ lent.held i y lt none));
      }
    where
      d : ℕ
      d = taken_device c kind a

      parts : (is_kind kind (pool_kind_at c d) ≡ true) × (not (is_claimed c d) ≡ true)
      parts = and_parts (is_kind kind (pool_kind_at c d)) (not (is_claimed c d)) can

      is : pool_kind_at c d ≡ Some kind
      is = exact kind (pool_kind_at c d) parts.0

      pooled : is_pooled c d ≡ true
      pooled = ap is_some is

      low : d < device_limit
      low = lent.few d pooled

      mark : get_or c.claimed d false ≡ false
      mark = unmarked c d kind is low (not_true (is_claimed c d) parts.1)

  -- one of the program's own is given back
  pub own_lent : (r : Registers) (x : ℕ) → is_pooled c x ≡ false → IsLent (record { registers = r; stock = released false x k })
  own_lent r x own =
      record {
        places = lent.places;
        marks = length-set c.claimed x false ∙ lent.marks;
        few = lent.few;
        fresh = λ d pooled free. lent.fresh d pooled (sym (get_or-set_other c.claimed x d false false (other d pooled)) ∙ free);
        pooled = lent.pooled;
        held = λ i y lt none. get_or-set_other c.claimed x (get_or k.stints i y).device false false (other (get_or k.stints i y).device (lent.pooled i y lt))
            ∙ lent.held i y lt none;
        one = lent.one;
      }
    where
      other : (d : ℕ) → is_pooled c d ≡ true → d ≢ x
      other d pooled same = false≢true (sym own ∙ ap (is_pooled c) (sym same) ∙ pooled)

  -- a stint that isn't over then, wasn't, and is of another device
  open_then : (x : ℕ) (p : DeviceProgress) (e : ℕ) (l : Option DeviceProgress) → (handed x p (record { device = e; left = l })).left ≡ None
      → (l ≡ None) × (e ≢ x)
  open_then x p e (Some q) none =
      ⊎_elim
      (λ (is : eqb e x ≡ true). cc (sym (ap (λ b. (cond (b && false) (some_stint e p) (some_stint e q)).left) is) ∙ none))
      (λ (no : eqb e x ≡ false). cc (sym (ap (λ b. (cond (b && false) (some_stint e p) (some_stint e q)).left) no) ∙ none))
      (cases_Bool (eqb e x))
    where
      some_stint : ℕ → DeviceProgress → StintState
      some_stint d left = record { device = d; left = Some left }
  open_then x p e None none =
      ⊎_elim
      (λ (same : e ≡ x). cc (sym (ap (λ b. (cond (b && true) (let y : StintState = record { device = e; left = Some p } in y)
      (let y : StintState = record { device = e; left = None } in y)).left) (eq-eqb e x same)) ∙ none))
      (λ (ne : e ≢ x). (refl, ne))
      (cases_eq e x)

  same_number : (x : ℕ) (p : DeviceProgress) (y : StintState) → (handed x p y).device ≡ y.device
  same_number x p y =
      ⊎_elim
      (λ (is : (eqb y.device x && not (is_some y.left)) ≡ true). ap (λ b. (cond b (record y { left = Some p }) y).device) is)
      (λ (no : (eqb y.device x && not (is_some y.left)) ≡ false). ap (λ b. (cond b (record y { left = Some p }) y).device) no)
      (cases_Bool (eqb y.device x && not (is_some y.left)))

  -- one of the pool is given back
  pub pool_lent : (r : Registers) (x : ℕ) → is_pooled c x ≡ true → IsLent (record { registers = r; stock = released true x k })
  pool_lent r x there =
      record {
        places = length-set k.devices x new_progress ∙ lent.places;
        marks = length-set c.claimed x false ∙ lent.marks;
        few = lent.few;
        fresh = λ d pooled free.
            ⊎_elim
            (λ (same : d ≡ x). ap (device_in (released true x k)) same
            ∙ get_or-set_same k.devices x new_progress new_progress (omega (arith, lent.few x there, lent.places)))
            (λ (ne : d ≢ x). get_or-set_other k.devices x d new_progress new_progress ne
            ∙ lent.fresh d pooled (sym (get_or-set_other c.claimed x d false false ne) ∙ free))
            (cases_eq d x);
        pooled = λ i y lt.
            let low : i < length k.stints = omega (arith, length-map k.stints hand) in
            subst (λ z. is_pooled c z.device ≡ true) (sym (get_or-map hand k.stints i y y low))
            (ap (is_pooled c) (same_number x p (get_or k.stints i y)) ∙ lent.pooled i y low);
        held = λ i y lt.
            let low : i < length k.stints = omega (arith, length-map k.stints hand) in
            subst (λ z. z.left ≡ None → get_or (set c.claimed x false) z.device false ≡ true) (sym (get_or-map hand k.stints i y y low))
            (λ none. let was = open_then x p (get_or k.stints i y).device (get_or k.stints i y).left none in
            ap (λ e. get_or (set c.claimed x false) e false) (same_number x p (get_or k.stints i y))
            ∙ get_or-set_other c.claimed x (get_or k.stints i y).device false false was.1 ∙ lent.held i y low was.0);
        one = λ i j y less inside.
            let high : j < length k.stints = omega (arith, length-map k.stints hand) in
            let low : i < length k.stints = omega arith in
            subst (λ z. z.left ≡ None → (get_or (map hand k.stints) j y).left ≡ None → z.device ≢ (get_or (map hand k.stints) j y).device)
            (sym (get_or-map hand k.stints i y y low))
            (subst (λ z. (hand (get_or k.stints i y)).left ≡ None → z.left ≡ None → (hand (get_or k.stints i y)).device ≢ z.device)
            (sym (get_or-map hand k.stints j y y high))
            (λ first second same.
            let one = open_then x p (get_or k.stints i y).device (get_or k.stints i y).left first in
            let other = open_then x p (get_or k.stints j y).device (get_or k.stints j y).left second in
            lent.one i j y less high one.0 other.0 (sym (same_number x p (get_or k.stints i y)) ∙ same ∙ same_number x p (get_or k.stints j y))));
      }
    where
      p : DeviceProgress
      p = device_in k x

      hand : StintState → StintState
      hand = handed x p

  -- a transfer is finished on a device that is claimed
  pub moved_lent : (r : Registers) (d : ℕ) (o : TransferOrder) (first last : ℕ) (f : Option Fixture) → get_or c.claimed d false ≡ true
      → IsLent (record { registers = r; stock = transferred d o first last f k })
  moved_lent r d o first last None mark =
      record { places = lent.places; marks = lent.marks; few = lent.few; fresh = lent.fresh; pooled = lent.pooled; held = lent.held; one = lent.one }
  moved_lent r d o first last (Some f) mark =
      record {
        places = length-set k.devices d _ ∙ lent.places;
        marks = lent.marks;
        few = lent.few;
        fresh = λ e pooled free.
            get_or-set_other k.devices d e _ new_progress (λ same. false≢true (sym free ∙ ap (λ x. get_or c.claimed x false) same ∙ mark))
            ∙ lent.fresh e pooled free;
        pooled = lent.pooled;
        held = lent.held;
        one = lent.one;
      }

  as_it_was : (r : Registers) (store : List ℕ) (asked : ℕ) → IsLent (record { registers = r; stock = record k { store = store; asked = asked } })
  as_it_was r store asked =
      record { places = lent.places; marks = lent.marks; few = lent.few; fresh = lent.fresh; pooled = lent.pooled; held = lent.held; one = lent.one }

  by_effect : (answer : Question → ℕ) (e : Effect) → IsFit c e → IsBegun c e → IsLent (perform answer e s)
  by_effect answer (Starting d o first last after) fit begun = moved_lent _ d o first last (fixture_at c d) (mark_of c d (kind_of o) begun)
  by_effect answer (Claiming d after) fit begun = claimed_more _ d
  by_effect answer (Asking (FreeOf kind) after) fit begun = taken_lent _ kind (answer (FreeOf kind)) (taken_can c kind (answer (FreeOf kind)) fit)
  by_effect answer (Returning true d after) fit begun = pool_lent _ d (sym fit)
  by_effect answer (Returning false d after) fit begun = own_lent _ d (sym fit)
  by_effect answer e fit begun =
      record { places = lent.places; marks = lent.marks; few = lent.few; fresh = lent.fresh; pooled = lent.pooled; held = lent.held; one = lent.one }

  pub row_lent : (answer : Question → ℕ) → IsLent (row s answer)
  row_lent answer = by_effect answer (next_effect s) (next_fit c (word_at s) s.registers) (next_begun c (word_at s) s.registers)

nothing : (P : StintState → Type 0) → All P []
nothing P i d lt = absurd (omega arith)

pub begin_lent : (slot : Slot) → HasPool slot → IsLent (begin slot)
unfolding unclaimed
begin_lent slot is =
    record {
      places = is.places;
      marks = length-replicate device_limit false;
      few = is.few;
      fresh = λ d pooled free. is.fresh d pooled;
      pooled = nothing (λ x. is_pooled (stocked slot).claims x.device ≡ true);
      held = nothing (λ x. x.left ≡ None → get_or (stocked slot).claims.claimed x.device false ≡ true);
      one = λ i j d less inside. absurd (omega arith);
    }
