-- A live program has claimed just those devices of the pool that it took and hasn't given back, and one that takes a
-- device takes the one that it is answered.
use Rattle.std.specs.Prelude.{replicate, unwrap_or}
use Rattle.std.specs.List.{range_with_len}
use Rattle.std.proofs.Common.{◌≡◌, ◌≢◌, ℕ, zero, suc, ◌<◌, ◌≤◌, Bool, true, false, cond, eqb, ltb, not, ◌&&◌, ◌||◌, List, [], ◌∷◌, length, get_or, set, Option}
use Rattle.std.proofs.Common.{Some, None, is_some, refl, sym, ap, ◌∙◌, subst, ⊎_elim, arith}
use Rattle.std.proofs.lemmas.Bool.{and_from, and_parts, cases_Bool, cases_eq, cases_lt, eq-eqb, false≢true, ne_eqb, or_parts}
use Rattle.std.proofs.lemmas.List.{get_or-replicate, get_or-set_other, get_or-set_same, get_or_past, length-replicate, length-set}
use Rattle.kdf_journal.specs.declared.entry.Entry.{Entry}
use Rattle.kdf_journal.specs.declared.kind.Kind.{Kind}
use Rattle.kdf_journal.specs.Counts.{answers, holder, over, ran, taker, unless_over}
use Rattle.kdf_journal.specs.Steps.{Note, JournalStep, Obeys, Holds, Waits, Moves, Ends, Sets, Swaps, added, journal_of, steps}
use Rattle.kdf_journal.proofs.Added.{answer_in_note, answers_by, ends_by, over-added, ran_by, taker_by, taker-added}
use Rattle.kdf_transfer.specs.Devices.{Fixture, is_kind}
use Rattle.kdf_journal.specs.declared.need.Need.TheVariants.{Pool}
use Rattle.kdf_processor.proofs.Frees.{none_of_kind}
use Rattle.kdf_processor.specs.Claims.{can_take, is_claimed, kind_at, least_pooled, taken_device}
use Rattle.kdf_processor.specs.Effect.{Question, FreeOf, Effect, Failing, Ending, Starting, Asking, Claiming, Returning}
use Rattle.kdf_processor.specs.Frame.{HidesNone}
use Rattle.kdf_processor.specs.Lone.{is_live, lone, lone_step}
use Rattle.kdf_processor.specs.Needs.{effect_needs, next_effect}
use Rattle.kdf_processor.specs.Row.{done_by, perform}
use Rattle.kdf_transfer.specs.Slots.{Slot}
use Rattle.kdf_processor.specs.State.{Claims, State, device_limit, fixture_at, is_pooled, own_fixture_at, pool_kind_at, unclaimed, word_at}
use Rattle.kdf_processor.proofs.Fit.{IsFit, found, next_fit}
use Rattle.kdf_processor.proofs.Lending.{IsBegun, mark_claimed, next_begun}
use Rattle.kdf_transfer.specs.ByNumber.{device_count}
use Rattle.kdf_processor.proofs.RowFacts.{next_answer}
use Rattle.kdf_theory.specs.Holders.{has_mark, is_taker}
use Rattle.kdf_course.specs.Legal as course
use Rattle.kdf_theory.specs.Legal.{EachMeets, IsLegal, IsTrue, Meets, is_true, note_of_outcome}
use Rattle.kdf_theory.specs.Slots.{AreSlots, slot_of, start, start_of}
use Rattle.kdf_theory.specs.ByJournal.{free_after, is_free_after, is_pending_after, lone_world, mine_after, own}
use Rattle.kdf_theory.specs.True.{truth}
use Rattle.kdf_theory.specs.World.{first_need}
use Rattle.kdf_theory.proofs.Seen.WholeTransfers.{transferred_claims}
use Rattle.kdf_theory.proofs.Course.WorldsJudged.{meets_truly}
use Rattle.kdf_theory.proofs.Course.LegalFacts.{IsKept, ends_not, kept_of}
use Rattle.kdf_theory.proofs.Course.FlightsOnCourse.{effect-free, free_hides_none}
use Rattle.kdf_theory.proofs.Course.OwnSteps.{own-nil, own-obeys, own-same}
use Rattle.kdf_theory.proofs.Course.SlotsAtStart.{IfSlot, found_slot}
use Rattle.kdf_theory.proofs.Course.Worlds.{next_on}

-- ---- what no order changes

pub record SameClaims (s t : State) : Type 0 where
  pub fixtures : s.stock.claims.fixtures ≡ t.stock.claims.fixtures
  pub pool : s.stock.claims.pool ≡ t.stock.claims.pool
  pub marks : length s.stock.claims.claimed ≡ length t.stock.claims.claimed

same_claims : (answer : Question → ℕ) (e : Effect) (s : State) → SameClaims (perform answer e s) s
same_claims answer (Starting d o first last after) s =
    let same = transferred_claims d o first last (fixture_at s.stock.claims d) s.stock in
    record { fixtures = ap (λ (c : Claims). c.fixtures) same; pool = ap (λ (c : Claims). c.pool) same; marks = ap (λ (c : Claims). length c.claimed) same }
same_claims answer (Claiming d after) s = record { fixtures = refl; pool = refl; marks = length-set s.stock.claims.claimed d true }
same_claims answer (Asking (FreeOf kind) after) s =
    record { fixtures = refl; pool = refl; marks = length-set s.stock.claims.claimed (taken_device s.stock.claims kind (answer (FreeOf kind))) true }
same_claims answer (Returning true d after) s = record { fixtures = refl; pool = refl; marks = length-set s.stock.claims.claimed d false }
same_claims answer (Returning false d after) s = record { fixtures = refl; pool = refl; marks = length-set s.stock.claims.claimed d false }
same_claims answer e s = record { fixtures = refl; pool = refl; marks = refl }

same_step : (given : List ℕ) (s : State) → SameClaims (lone_step given s) s
same_step given s =
    ⊎_elim
    (λ (live : is_live s.registers.state ≡ true). rw live (same_claims (next_answer given s) (next_effect s) s))
    (λ (dead : is_live s.registers.state ≡ false). rw dead (let same : SameClaims s s = record { fixtures = refl; pool = refl; marks = refl } in same))
    (cases_Bool (is_live s.registers.state))

pub same_lone : (first : State) (given : List ℕ) (n : ℕ) → SameClaims (lone first given n) first
same_lone first given zero = record { fixtures = refl; pool = refl; marks = refl }
same_lone first given (suc n) =
    let step = same_step given (lone first given n) in
    let before = same_lone first given n in
    record { fixtures = step.fixtures ∙ before.fixtures; pool = step.pool ∙ before.pool; marks = step.marks ∙ before.marks }

-- a program has sixteen marks, and no device of its own has a number of the pool, which are below sixteen
pub record IsFixed (c : Claims) : Type 0 where
  pub marks : length c.claimed ≡ device_limit
  pub few : (d : ℕ) → is_pooled c d ≡ true → d < device_limit
  pub apart : (d : ℕ) → is_pooled c d ≡ true → own_fixture_at c d ≡ None

pub fixed_at : (o : Option Slot) → IfSlot o → IsFixed (start_of o).stock.claims
unfolding unclaimed
fixed_at None is = record { marks = length-replicate device_limit false; few = λ d pooled. cc; apart = λ d pooled. cc }
fixed_at (Some s) is =
    record {
      marks = length-replicate device_limit false;
      few = is.few;
      apart = λ d pooled.
          ⊎_elim (λ none. none) (λ none. absurd (false≢true (ap is_some (sym none) ∙ pooled))) (is.apart d);
    }

pub fixed : (slots : List Slot) (J : List Entry) (p : ℕ) → AreSlots slots → IsFixed (own slots J p).stock.claims
unfolding own
fixed slots J p are =
    let same = same_lone (start slots p) (answers p J) (ran p J) in
    let first = fixed_at (slot_of slots p) (found_slot slots p are.each) in
    record {
      marks = same.marks ∙ first.marks;
      few = λ d pooled. first.few d (ap (λ (ks : List (Option Kind)). is_some (get_or ks d None)) (sym same.pool) ∙ pooled);
      apart = λ d pooled.
          ap (λ (fs : List (Option Fixture)). get_or fs d None) same.fixtures
          ∙ first.apart d (ap (λ (ks : List (Option Kind)). is_some (get_or ks d None)) (sym same.pool) ∙ pooled);
    }

-- ---- a device without a holder

-- no live program took it
not_taker : (q : ℕ) (J : List Entry) (o : Option ℕ) → unless_over J o ≡ None → not (over q J) ≡ true → is_taker q o ≡ false
not_taker q J None none live = refl
not_taker q J (Some r) none live =
    ⊎_elim
    (λ (same : r ≡ q).
    let on : over r J ≡ false = ap (λ x. over x J) same ∙ not_true (over q J) live in
    cc (sym (ap (λ b. cond b None (Some r)) on) ∙ none))
    (λ (ne : r ≢ q). ne_eqb r q ne)
    (cases_eq r q)
  where
    not_true : (b : Bool) → not b ≡ true → b ≡ false
    not_true true e = cc
    not_true false e = refl

-- nor two programs
one_taker : (p q : ℕ) (o : Option ℕ) → p ≢ q → is_taker p o ≡ true → is_taker q o ≡ false
one_taker p q None ne is = refl
one_taker p q (Some r) ne is =
    ne_eqb r q
    (λ same. ⊎_elim (λ (e : r ≡ p). ne (sym e ∙ same)) (λ (n : r ≢ p). false≢true (sym (ne_eqb r p n) ∙ is)) (cases_eq r p))

abbrev pub IsHeld : List Slot → List Entry → ℕ → Type 0
IsHeld slots J q = (d : ℕ) → is_pooled (own slots J q).stock.claims d ≡ true → not (over q J) ≡ true → has_mark (own slots J q) d ≡ is_taker q (taker d J)

-- ---- the device that is answered

module _ (slots : List Slot) (J : List Entry) (p : ℕ) (are : AreSlots slots) (held : IsHeld slots J p) (live : not (over p J) ≡ true) (kind : Kind) where
  abbrev s : State
  s = own slots J p

  abbrev c : Claims
  c = (own slots J p).stock.claims

  same_pool : (start slots p).stock.claims.pool ≡ c.pool
  unfolding own
  same_pool = sym (same_lone (start slots p) (answers p J) (ran p J)).pool

  free_can : (a : ℕ) → is_free_after slots J p kind a ≡ true → can_take c kind a ≡ true
  free_can a is =
      let parts = and_parts (is_kind kind (pool_kind_at (start slots p).stock.claims a)) (not (is_some (holder a J))) is in
      let of_kind : is_kind kind (pool_kind_at c a) ≡ true = ap (λ (ks : List (Option Kind)). is_kind kind (get_or ks a None)) (sym same_pool) ∙ parts.0 in
      and_from (is_kind kind (pool_kind_at c a)) (not (is_claimed c a)) of_kind (ap not (unclaimed_now a of_kind (no_one (holder a J) parts.1)))
    where
      no_one : (o : Option ℕ) → not (is_some o) ≡ true → o ≡ None
      no_one None e = refl
      no_one (Some q) e = cc

      some_of : (o : Option Kind) → is_kind kind o ≡ true → is_some o ≡ true
      some_of None e = absurd (false≢true (sym (none_of_kind kind) ∙ e))
      some_of (Some k) e = refl

      unclaimed_now : (a : ℕ) → is_kind kind (pool_kind_at c a) ≡ true → holder a J ≡ None → is_claimed c a ≡ false
      unclaimed_now a of_kind none =
          let unmarked : get_or c.claimed a false ≡ false = held a (some_of (pool_kind_at c a) of_kind) live ∙ not_taker p J (taker a J) none live in
          ap (λ b. is_some (cond (ltb a device_limit && b) (kind_at c a) None)) unmarked ∙ none_claimed (ltb a device_limit)
        where
          none_claimed : (b : Bool) → is_some (cond (b && false) (kind_at c a) None) ≡ false
          none_claimed true = refl
          none_claimed false = refl

  -- where the kind isn't pending, it is one that may be taken
  pub answered_can : (o : Option ℕ) → free_after slots J p kind ≡ o → not (is_some o) ≡ false → (a : ℕ) × (o ≡ Some a) × (can_take c kind a ≡ true)
      × (holder a J ≡ None)
  unfolding free_after
  answered_can None is some = cc
  answered_can (Some a) is some =
      let passes = found (is_free_after slots J p kind) (range_with_len 0 device_count) a is in (
        a,
        refl,
        free_can a passes,
        no_one (holder a J)
            (and_parts (is_kind kind (pool_kind_at (start slots p).stock.claims a)) (not (is_some (holder a J))) passes).1,
      )
    where
      no_one : (o : Option ℕ) → not (is_some o) ≡ true → o ≡ None
      no_one None e = refl
      no_one (Some q) e = cc

-- ---- a step

held-stays : (slots : List Slot) (J : List Entry) (s : JournalStep) (q : ℕ) → ran_by q s ≡ 0 → answers_by q s ≡ [] → ends_by q s ≡ false
    → ((d : ℕ) → is_pooled (own slots J q).stock.claims d ≡ true → not (over q J) ≡ true → is_taker q (taker_by d (taker d J) s) ≡ is_taker q (taker d J))
    → IsHeld slots J q → IsHeld slots (added J s) q
held-stays slots J s q none silent on same held d pooled live =
    let o = own-same slots J s q none silent in
    let was : is_pooled (own slots J q).stock.claims d ≡ true = ap (λ (t : State). is_pooled t.stock.claims d) (sym o) ∙ pooled in
    let before : not (over q J) ≡ true = sym (ap not (over-added q J s ∙ ap (λ b. b || over q J) on)) ∙ live in
    ap (λ (t : State). has_mark t d) o ∙ held d was before ∙ sym (same d was before) ∙ sym (ap (is_taker q) (taker-added d J s))

module _ (slots : List Slot) (J : List Entry) (p : ℕ) (are : AreSlots slots) (kept : IsKept slots J p) (held : (q : ℕ) → IsHeld slots J q)
    (on : not (over p J) ≡ true) (none : HidesNone (is_pending_after slots J p) (effect_needs (mine_after J p) (next_effect (own slots J p)))) (heard : ℕ) where
  abbrev t : State
  t = own slots J p

  abbrev answer : Question → ℕ
  answer = truth (lone_world slots J) J p heard

  abbrev noted : Effect → Note
  noted e = note_of_outcome (done_by answer e t)

  -- what is answered where a device is taken
  told : (kind : Kind) → HidesNone (is_pending_after slots J p) (Pool kind ∷ []) → (a : ℕ) × (answer (FreeOf kind) ≡ a)
      × (can_take t.stock.claims kind a ≡ true) × (holder a J ≡ None)
  told kind free_hides_none =
      let x = answered_can slots J p are (held p) on kind (free_after slots J p kind) refl (or_parts _ _ free_hides_none).0 in
      (x.0, ap (λ (o : Option ℕ). unwrap_or o 0) x.1, x.2, x.3)

  others : (q : ℕ) → p ≢ q → (e : Effect) → IsFit t.stock.claims e → IsBegun t.stock.claims e
      → HidesNone (is_pending_after slots J p) (effect_needs (mine_after J p) e) → (d : ℕ) → not (over q J) ≡ true
      → is_taker q (taker_by d (taker d J) (Obeys p (noted e))) ≡ is_taker q (taker d J)
  others q ne (Asking (FreeOf kind) after) fit begun free_hides_none d live =
      let x = told kind free_hides_none in
      ⊎_elim
      (λ (same : answer (FreeOf kind) ≡ d).
      ap (λ b. is_taker q (cond b (Some p) (taker d J))) (eq-eqb (answer (FreeOf kind)) d same)
      ∙ ne_eqb p q ne
      ∙ sym (not_taker q J (taker d J) (ap (λ e. holder e J) (sym same ∙ x.1) ∙ x.3) live))
      (λ (other : answer (FreeOf kind) ≢ d). ap (λ b. is_taker q (cond b (Some p) (taker d J))) (ne_eqb (answer (FreeOf kind)) d other))
      (cases_eq (answer (FreeOf kind)) d)
  others q ne (Returning true x after) fit begun free_hides_none d live =
      ⊎_elim
      (λ (same : x ≡ d).
      let its : is_taker p (taker d J) ≡ true = subst (λ e. is_taker p (taker e J) ≡ true) same (sym (held p x (sym fit) on)
      ∙ mark_claimed t.stock.claims x begun) in
      ap (λ b. is_taker q (cond b None (taker d J))) (eq-eqb x d same) ∙ sym (one_taker p q (taker d J) ne its))
      (λ (other : x ≢ d). ap (λ b. is_taker q (cond b None (taker d J))) (ne_eqb x d other))
      (cases_eq x d)
  others q ne (Returning false x after) fit begun free_hides_none d live = refl
  others q ne (Failing kind) fit begun free_hides_none d live = refl
  others q ne (Ending after) fit begun free_hides_none d live = refl
  others q ne (Asking question after) fit begun free_hides_none d live = refl
  others q ne e fit begun free_hides_none d live = refl

  mine : (e : Effect) → IsFit t.stock.claims e → IsBegun t.stock.claims e → HidesNone (is_pending_after slots J p) (effect_needs (mine_after J p) e)
      → not (ends_by p (Obeys p (noted e)) || over p J) ≡ true → (d : ℕ) → is_pooled t.stock.claims d ≡ true
      → has_mark (perform answer e t) d ≡ is_taker p (taker_by d (taker d J) (Obeys p (noted e)))
  mine (Failing kind) fit begun free_hides_none live d pooled = cc (sym (ap (λ b. not (b || over p J)) (eq-eqb p p refl)) ∙ live)
  mine (Ending after) fit begun free_hides_none live d pooled = cc (sym (ap (λ b. not (b || over p J)) (eq-eqb p p refl)) ∙ live)
  mine (Claiming x after) fit begun free_hides_none live d pooled =
      let other : d ≢ x = λ same. false≢true (ap is_some (sym ((fixed slots J p are).apart d pooled))
      ∙ ap (λ e. is_some (own_fixture_at t.stock.claims e)) same ∙ fit) in
      get_or-set_other t.stock.claims.claimed x d true false other ∙ held p d pooled on
  mine (Asking (FreeOf kind) after) fit begun free_hides_none live d pooled =
      let x = told kind free_hides_none in
      let a : ℕ = answer (FreeOf kind) in
      let can : can_take t.stock.claims kind a ≡ true = ap (can_take t.stock.claims kind) x.1 ∙ x.2 in
      let is : taken_device t.stock.claims kind a ≡ a = ap (λ b. cond b a (unwrap_or (least_pooled t.stock.claims kind) 0)) can in
      ap (λ e. get_or (set t.stock.claims.claimed e true) d false) is
      ∙ ⊎_elim
      (λ (same : a ≡ d).
      ap (λ e. get_or (set t.stock.claims.claimed e true) d false) same
      ∙ get_or-set_same t.stock.claims.claimed d true false (omega (arith, (fixed slots J p are).few d pooled, (fixed slots J p are).marks))
      ∙ sym (ap (λ b. is_taker p (cond b (Some p) (taker d J))) (eq-eqb a d same) ∙ eq-eqb p p refl))
      (λ (other : a ≢ d).
      get_or-set_other t.stock.claims.claimed a d true false (λ e. other (sym e))
      ∙ held p d pooled on
      ∙ sym (ap (λ b. is_taker p (cond b (Some p) (taker d J))) (ne_eqb a d other)))
      (cases_eq a d)
  mine (Returning true x after) fit begun free_hides_none live d pooled =
      ⊎_elim
      (λ (same : x ≡ d).
      ap (λ e. get_or (set t.stock.claims.claimed e false) d false) same
      ∙ get_or-set_same t.stock.claims.claimed d false false (omega (arith, (fixed slots J p are).few d pooled, (fixed slots J p are).marks))
      ∙ sym (ap (λ b. is_taker p (cond b None (taker d J))) (eq-eqb x d same)))
      (λ (other : x ≢ d).
      get_or-set_other t.stock.claims.claimed x d false false (λ e. other (sym e))
      ∙ held p d pooled on
      ∙ sym (ap (λ b. is_taker p (cond b None (taker d J))) (ne_eqb x d other)))
      (cases_eq x d)
  mine (Returning false x after) fit begun free_hides_none live d pooled =
      let other : d ≢ x = λ same. false≢true (fit ∙ ap (is_pooled t.stock.claims) (sym same) ∙ pooled) in
      get_or-set_other t.stock.claims.claimed x d false false other ∙ held p d pooled on
  mine (Starting x o first last after) fit begun free_hides_none live d pooled =
      ap (λ (c : Claims). get_or c.claimed d false) (transferred_claims x o first last (fixture_at t.stock.claims x) t.stock) ∙ held p d pooled on
  mine (Asking question after) fit begun free_hides_none live d pooled = held p d pooled on
  mine e fit begun free_hides_none live d pooled = held p d pooled on

  fit : IsFit t.stock.claims (next_effect t)
  fit = next_fit t.stock.claims (word_at t) t.registers

  begun : IsBegun t.stock.claims (next_effect t)
  begun = next_begun t.stock.claims (word_at t) t.registers

  pub turn_held : (q : ℕ) → IsHeld slots (added J (Obeys p (noted (next_effect t)))) q
  turn_held q =
      ⊎_elim
      (λ (same : p ≡ q). subst (IsHeld slots (added J (Obeys p (noted (next_effect t))))) same its)
      (λ (ne : p ≢ q).
      let apart : eqb p q ≡ false = ne_eqb p q ne in
      held-stays slots J (Obeys p (noted (next_effect t))) q (ap (λ b. cond b 1 0) apart) (ap (λ b. cond b (answer_in_note (noted (next_effect t))) []) apart)
      (ends_other (noted (next_effect t)) q apart)
      (λ d pooled live. others q ne (next_effect t) fit begun none d live) (held q))
      (cases_eq p q)
    where
      ends_other : (note : Note) (q : ℕ) → eqb p q ≡ false → ends_by q (Obeys p note) ≡ false
      ends_other note q apart = ends_not p q note apart

      its : IsHeld slots (added J (Obeys p (noted (next_effect t)))) p
      its d pooled live =
          let o = own-obeys slots J p answer kept.asked (kept.alive ∙ on) in
          let there : is_pooled t.stock.claims d ≡ true = ap (λ (ks : List (Option Kind)). is_some (get_or ks d None))
          (sym (same_claims answer (next_effect t) t).pool) ∙ ap (λ (x : State). is_pooled x.stock.claims d) (sym o) ∙ pooled in
          ap (λ (x : State). has_mark x d) o
          ∙ mine (next_effect t) fit begun none (sym (ap not (over-added p J (Obeys p (noted (next_effect t))))) ∙ live) d there
          ∙ sym (ap (is_taker p) (taker-added d J (Obeys p (noted (next_effect t)))))

held-added : (slots : List Slot) (J : List Entry) (heard : ℕ) (s : JournalStep) → AreSlots slots → Meets (lone_world slots J) slots J heard s
    → ((q : ℕ) → IsKept slots J q) → ((q : ℕ) → IsHeld slots J q) → (q : ℕ) → IsHeld slots (added J s) q
held-added slots J heard (Obeys p note) are m kept held q =
    rw m.2
    (turn_held slots J p are (kept p) held (next_on (lone_world slots J) slots J p m.0)
    (effect-free (is_pending_after slots J p) (mine_after J p) (own slots J p) (free_hides_none slots J p m.1))
    heard q)
held-added slots J heard (Holds p by) are m kept held q = held-stays slots J (Holds p by) q refl refl refl (λ d pooled live. refl) (held q)
held-added slots J heard Waits are m kept held q = held-stays slots J Waits q refl refl refl (λ d pooled live. refl) (held q)
held-added slots J heard (Moves d n) are m kept held q = held-stays slots J (Moves d n) q refl refl refl (λ d pooled live. refl) (held q)
held-added slots J heard (Ends d) are m kept held q = held-stays slots J (Ends d) q refl refl refl (λ d pooled live. refl) (held q)
held-added slots J heard (Sets t) are m kept held q = held-stays slots J (Sets t) q refl refl refl (λ d pooled live. refl) (held q)
held-added slots J heard (Swaps p r) are m kept held q = held-stays slots J (Swaps p r) q refl refl refl (λ d pooled live. refl) (held q)

none_marked : (d : ℕ) → get_or unclaimed d false ≡ false
unfolding unclaimed
none_marked d =
    ⊎_elim
    (λ (lt : d < device_limit). get_or-replicate {A = Bool} device_limit d false false lt)
    (λ (past : device_limit ≤ d). get_or_past (replicate {A = Bool} device_limit false) d false (omega (arith, length-replicate {A = Bool} device_limit false)))
    (cases_lt d device_limit)

-- before the first step nothing is claimed
held-first : (slots : List Slot) (q : ℕ) → IsHeld slots [] q
held-first slots q d pooled live = ap (λ (t : State). has_mark t d) (own-nil slots q) ∙ no_mark (slot_of slots q) d
  where
    no_mark : (o : Option Slot) (d : ℕ) → has_mark (start_of o) d ≡ false
    no_mark None d = none_marked d
    no_mark (Some s) d = none_marked d

held_of : (slots : List Slot) → AreSlots slots → (P : List JournalStep) → EachMeets slots P → course.EachNoted (is_true slots) P → (q : ℕ)
    → IsHeld slots (journal_of P) q
held_of slots are [] m truly q = held-first slots q
held_of slots are (s ∷ P) m truly q =
    let met = meets_truly slots (journal_of P) s m.1 truly.1 in
    held-added slots (journal_of P) met.0 s are met.1 (kept_of slots P m.0) (held_of slots are P m.0 truly.0) q

-- a live program has claimed a device of the pool exactly where it took it and hasn't given it back
pub legal_held : (slots : List Slot) (J : List Entry) → AreSlots slots → IsLegal slots J → IsTrue slots J → (q : ℕ) → IsHeld slots J q
legal_held slots J are l truly q = rw l.in_form at (held_of slots are (steps J) l.each truly q)

-- and where it takes one, it takes the one that it is truly answered
pub legal_taken : (slots : List Slot) (J : List Entry) → AreSlots slots → IsLegal slots J → IsTrue slots J → (p heard : ℕ) (kind : Kind)
    → not (over p J) ≡ true → is_pending_after slots J p (Pool kind) ≡ false
    → taken_device (own slots J p).stock.claims kind (truth (lone_world slots J) J p heard (FreeOf kind)) ≡ truth (lone_world slots J) J p heard (FreeOf kind)
legal_taken slots J are l truly p heard kind live free_hides_none =
    let x = answered_can slots J p are (legal_held slots J are l truly p) live kind (free_after slots J p kind) refl free_hides_none in
    let a : ℕ = truth (lone_world slots J) J p heard (FreeOf kind) in
    let is : a ≡ x.0 = ap (λ (o : Option ℕ). unwrap_or o 0) x.1 in
    ap (λ b. cond b a (unwrap_or (least_pooled (own slots J p).stock.claims kind) 0)) (ap (can_take (own slots J p).stock.claims kind) is ∙ x.2)
