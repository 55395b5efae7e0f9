-- One order of one program of the machine.
use Rattle.std.proofs.Common.{◌≡◌, ◌≢◌, ℕ, zero, suc, ◌+◌, ◌<◌, ◌≤◌, ◌⊎◌, inl, inr, Bool, true, false, List, [], ◌∷◌, length, get_or, set, Option, Some, None}
use Rattle.std.proofs.Common.{is_some, cond, refl, sym, ap, ◌∙◌, subst, ⊎_elim, arith}
use Rattle.std.proofs.lemmas.Bool.{cases_eq, cases_lt}
use Rattle.std.proofs.lemmas.List.{get_or-set_same, get_or-set_other, length-set}
use Rattle.kdf_journal.specs.declared.need.Need.{Need}
use Rattle.kdf_processor.specs.declared.registers.Registers.{Registers}
use Rattle.kdf_processor.specs.State.{State, Stock, word_in}
use Rattle.kdf_processor.specs.Effect.{Effect, Act, Nothing, Writes, Starts, Asks, FreeOf, Acquires, Releases, Spools}
use Rattle.kdf_processor.specs.Lone.{is_live}
use Rattle.kdf_processor.specs.Needs.{fetch_needs, effect_needs, next_effect}
use Rattle.kdf_processor.specs.Outcome.{Outcome, done, held_or, outcome}
use Rattle.kdf_processor.specs.View.{first_pending}
use Rattle.kdf_yard.specs.declared.moment.Moment.{Moment}
use Rattle.kdf_theory.specs.Seen.{begun, tried}
use Rattle.kdf_yard.specs.Fields.Parts.{Part, Seat, Reach, borrower, has_device, in_pool, is_lent_by, part_in, part_after, asked_after, own_stock}
use Rattle.kdf_places.specs.Shared.{Shared, IsSound}
use Rattle.kdf_yard.specs.Fields.Shared.{Setting, setting, view, after_act}
use Rattle.kdf_yard.specs.Fields.Stints.{lends}
use Rattle.kdf_journal.specs.declared.kind.Kind.{Kind}
use Rattle.kdf_transfer.specs.Devices.{new_progress}
use Rattle.kdf_yard.specs.Fields.Running.{no_seat, seat_at, reach_at, part_at, own_state, hold_of, outcome_at, IsRunning, IsUnlent}
use Rattle.kdf_yard.specs.Fields.Keeping.{IsActive, IsKept}
use Rattle.kdf_places.specs.Spots.{own_from, spot_at}
use Rattle.kdf_yard.specs.Fields.Turned.{seat_after}
use Rattle.kdf_theory.proofs.Seen.EffectsChecked.{IsLawful, next_lawful, later_none}
use Rattle.kdf_yard.proofs.Physical.PoolDevices.{has_pooled}
use Rattle.kdf_yard.proofs.Turns.OrdersTried.{IsOther, IsPart, acts_active, acts_gains, acts_keeps, acts_kept, acts_own, acts_other, acts_other_kept}
use Rattle.kdf_yard.proofs.Turns.OrdersTried.{acts_settles, acts_sound}
use Rattle.kdf_yard.proofs.Physical.PartsAlike.{SamePart}

abbrev pub state : Registers → Stock → State
state r k = record { registers = r; stock = k }

-- what a program is told where these programs have the devices of the pool
abbrev pub told_by : List Seat → Moment → Setting
told_by seats t = setting (is_lent_by seats) t

-- a device of the pool that isn't lent is no program's
pub unlent_by : (seats : List Seat) (d : ℕ) → is_lent_by seats d ≡ false → IsUnlent seats d
unlent_by [] d none j lt = absurd (omega arith)
unlent_by (x ∷ seats) d none j lt = of (lends x.stints d) refl none (λ rest. unlent_by seats d rest) j lt
  where
    of : (b : Bool) → lends x.stints d ≡ b → is_some (cond b (Some x.p) (borrower seats d)) ≡ false → (is_lent_by seats d ≡ false → IsUnlent seats d) → (j : ℕ)
        → j < length (x ∷ seats) → lends (seat_at (x ∷ seats) j).stints d ≡ false
    of true is none later j lt = cc
    of false is none later zero lt = is
    of false is none later (suc j) lt = later none j (omega arith)

-- the part of a live program
pub is_part : (reaches : List Reach) (seats : List Seat) (t : Moment) (s : Shared) (p : ℕ) → IsRunning reaches seats s → p < length seats
    → is_live (seat_at seats p).registers.state ≡ true → IsPart (part_at reaches seats p) (told_by seats t) s
is_part reaches seats t s p run lt live =
    record {
      at_group = run.at_group p lt;
      in_store = run.in_store p lt;
      kept = run.kept p lt;
      active = run.active p lt live;
      untaken = λ d pooled none. let unlent = unlent_by seats d none in (unlent p lt, run.fresh p d lt pooled unlent);
    }

-- two windows are apart
pub parts_apart : (reaches : List Reach) (seats : List Seat) (s : Shared) (p r : ℕ) → IsRunning reaches seats s → p < length seats → r < length seats → p ≢ r
    → ((part_at reaches seats p).base + (part_at reaches seats p).size ≤ (part_at reaches seats r).base)
    ⊎ ((part_at reaches seats r).base + (part_at reaches seats r).size ≤ (part_at reaches seats p).base)
parts_apart reaches seats s p r run lt lt' ne =
    ⊎_elim
    (λ (low : p < r). inl (run.apart p r low lt'))
    (λ (high : r ≤ p). inr (run.apart r p (omega arith) lt))
    (cases_lt p r)

-- and have other numbers
pub numbers_apart : (reaches : List Reach) (seats : List Seat) (s : Shared) (p r : ℕ) → IsRunning reaches seats s → p < length seats → r < length seats → p ≢ r
    → (seat_at seats p).p ≢ (seat_at seats r).p
numbers_apart reaches seats s p r run lt lt' ne same =
    ⊎_elim
    (λ (low : p < r). let a = run.numbered p r low lt' in absurd (omega arith))
    (λ (high : r ≤ p). let a = run.numbered r p (omega arith) lt in absurd (omega arith))
    (cases_lt p r)

-- and another's
pub is_other : (reaches : List Reach) (seats : List Seat) (s : Shared) (p x : ℕ) → IsRunning reaches seats s → p < length seats → x < length seats → x ≢ p
    → IsOther (part_at reaches seats p) (part_at reaches seats x) s
is_other reaches seats s p x run lt lt' ne =
    record {
      apart = parts_apart reaches seats s p x run lt lt' (λ i. ne (sym i));
      kept = run.kept x lt';
      not_its = λ d has. run.single p x d lt lt' (λ same. ne (sym same)) has;
    }

module _ (reaches : List Reach) (seats : List Seat) (t : Moment) (s : Shared) (p : ℕ) (run : IsRunning reaches seats s) (lt : p < length seats) where
  abbrev pub q : Part
  q = part_at reaches seats p

  abbrev pub r : Registers
  r = (seat_at seats p).registers

  abbrev pub k : Stock
  k = own_stock q 0 s

  abbrev pub e : Effect
  e = next_effect (state r k)

  abbrev pub own : List ℕ
  own = own_from (seat_at seats p).p 0 s.spots

  abbrev pub live : Type 0
  live = is_live r.state ≡ true

  abbrev pub told : Setting
  told = told_by seats t

  pub part : live → IsPart q told s
  part = is_part reaches seats t s p run lt

  pub lawful : IsLawful k.claims e
  lawful = next_lawful k.claims (word_in k) r

  -- what is done over the view
  abbrev pub over : Outcome
  over = done (view q told s) r e

  -- the outcome by the hold
  abbrev pub by : Option Need → Outcome
  by o = held_or r o over

  pub outcome_by : (o : Option Need) → hold_of reaches seats s p ≡ o → outcome (view q told s) r ≡ by o
  unfolding hold_of own_state
  outcome_by o is = ap by is

  pub outcome_is : (n : ℕ) → outcome_at reaches seats s t n p ≡ by (hold_of reaches seats s p)
  unfolding outcome_at own_state
  outcome_is n = refl

  pub free : hold_of reaches seats s p ≡ None → first_pending (view q told s) (effect_needs own e) ≡ None
  unfolding hold_of own_state
  free none = later_none (view q told s) (fetch_needs k.claims.size (word_in k) r.at) (effect_needs own e) none

  abbrev pub new : Option Need → Seat
  new o = seat_after q s (by o)

  abbrev pub later : Option Need → List Seat
  later o = set seats p (new o)

  abbrev pub shared : Option Need → Shared
  shared o = after_act q s (by o).act

  pub there : (o : Option Need) → seat_at (later o) p ≡ new o
  there o = get_or-set_same seats p (new o) no_seat lt

  pub same_part : (o : Option Need) (x : ℕ) → SamePart (part_at reaches seats x) (part_at reaches (later o) x)
  same_part o x =
      ⊎_elim
      (λ (same : x ≡ p).
      let at : seat_at (later o) x ≡ new o = ap (seat_at (later o)) same ∙ there o in
      record {
        p = ap (λ (y : Seat). y.p) at ∙ sym (ap (λ y. (seat_at seats y).p) same);
        base = refl;
        size = refl;
        devices = refl;
        pool = refl;
      })
      (λ (ne : x ≢ p).
      record {
        p = ap (λ (y : Seat). y.p) (get_or-set_other seats p x (new o) no_seat ne);
        base = refl;
        size = refl;
        devices = refl;
        pool = refl;
      })
      (cases_eq x p)

  -- its part, after an act
  part_new : (o : Option Need) → part_in (new o) (reach_at reaches p) ≡ part_after q s (by o).act
  part_new (Some need) = refl
  part_new None = at_act over.act
    where
      at_act : (act : Act) → part_in (seat_after q s (record over { act = act })) (reach_at reaches p) ≡ part_after q s act
      at_act Nothing = refl
      at_act (Writes a w) = refl
      at_act (Starts d o first last) = refl
      at_act (Asks (FreeOf kind) answer) = refl
      at_act (Asks question answer) = refl
      at_act (Acquires d) = refl
      at_act (Releases true d) = refl
      at_act (Releases false d) = refl
      at_act (Spools stream first last) = refl

  -- its own state
  pub tried_own : live → (n : ℕ) (o : Option Need) → hold_of reaches seats s p ≡ o → own_state reaches (later o) (shared o) (asked_after n (by o).act) p
      ≡ tried (by o) (own_state reaches seats s n p)
  unfolding own_state
  tried_own is_on n o is =
      ap (λ (y : Seat). state y.registers (own_stock (part_in y (reach_at reaches p)) (asked_after n (by o).act) (shared o))) (there o)
      ∙ ap (λ (x : Part). state (by o).registers (own_stock x (asked_after n (by o).act) (shared o))) (part_new o)
      ∙ ap (state (by o).registers) (at_hold o is)
    where
      at_hold : (o : Option Need) → hold_of reaches seats s p ≡ o → own_stock (part_after q s (by o).act) (asked_after n (by o).act) (shared o)
          ≡ begun (by o).act (own_stock q n s)
      at_hold (Some need) is = refl
      at_hold None is = acts_own q told s r own run.sound (part is_on) n e lawful (free is)

  -- another program's state
  pub tried_other : live → (n : ℕ) (o : Option Need) → hold_of reaches seats s p ≡ o → (x : ℕ) → x < length seats → x ≢ p
      → own_state reaches (later o) (shared o) n x ≡ own_state reaches seats s n x
  unfolding own_state
  tried_other is_on n o is x lt' ne =
      ap (λ (y : Seat). state y.registers (own_stock (part_in y (reach_at reaches x)) n (shared o))) (get_or-set_other seats p x (new o) no_seat ne)
      ∙ ap (state (seat_at seats x).registers) (stays o is)
    where
      stays : (o : Option Need) → hold_of reaches seats s p ≡ o → own_stock (part_at reaches seats x) n (shared o) ≡ own_stock (part_at reaches seats x) n s
      stays (Some need) is = refl
      stays None is = acts_other q told s r own run.sound (part is_on) n (part_at reaches seats x) (is_other reaches seats s p x run lt lt' ne) e lawful
          (free is)

  pub tried_sound : live → (o : Option Need) → hold_of reaches seats s p ≡ o → IsSound (shared o)
  tried_sound is_on (Some need) is = run.sound
  tried_sound is_on None is = acts_sound q told s r own run.sound (part is_on) e lawful (free is)

  -- what each program keeps
  pub tried_kept : live → (o : Option Need) → hold_of reaches seats s p ≡ o → (x : ℕ) → x < length seats → IsKept (part_at reaches (later o) x) (shared o)
  tried_kept is_on o is x lt' =
      ⊎_elim
      (λ (same : x ≡ p).
      subst (λ k. IsKept (part_at reaches (later o) k) (shared o)) (sym same)
      (subst (λ (y : Seat). IsKept (part_in y (reach_at reaches p)) (shared o)) (sym (there o))
      (subst (λ y. IsKept y (shared o)) (sym (part_new o)) (its o is))))
      (λ (ne : x ≢ p).
      subst (λ (y : Seat). IsKept (part_in y (reach_at reaches x)) (shared o)) (sym (get_or-set_other seats p x (new o) no_seat ne)) (others o is ne))
      (cases_eq x p)
    where
      its : (o : Option Need) → hold_of reaches seats s p ≡ o → IsKept (part_after q s (by o).act) (shared o)
      its (Some need) is = run.kept p lt
      its None is = acts_kept q told s r own run.sound (part is_on) e lawful (free is)

      others : (o : Option Need) → hold_of reaches seats s p ≡ o → x ≢ p → IsKept (part_at reaches seats x) (shared o)
      others (Some need) is ne = run.kept x lt'
      others None is ne = acts_other_kept q told s r own run.sound (part is_on) (part_at reaches seats x) (is_other reaches seats s p x run lt lt' ne) e lawful
          (free is)

  -- and has claimed, while it is live
  pub tried_active : live → (o : Option Need) → hold_of reaches seats s p ≡ o → (x : ℕ) → x < length seats
      → is_live (seat_at (later o) x).registers.state ≡ true → IsActive (part_at reaches (later o) x)
  tried_active is_on o is x lt' live_then =
      ⊎_elim
      (λ (same : x ≡ p).
      subst (λ k. IsActive (part_at reaches (later o) k)) (sym same)
      (subst (λ (y : Seat). IsActive (part_in y (reach_at reaches p))) (sym (there o)) (subst IsActive (sym (part_new o)) (its o is))))
      (λ (ne : x ≢ p).
      let was : seat_at (later o) x ≡ seat_at seats x = get_or-set_other seats p x (new o) no_seat ne in
      subst (λ (y : Seat). IsActive (part_in y (reach_at reaches x))) (sym was)
      (run.active x lt' (ap (λ (y : Seat). is_live y.registers.state) (sym was) ∙ live_then)))
      (cases_eq x p)
    where
      its : (o : Option Need) → hold_of reaches seats s p ≡ o → IsActive (part_after q s (by o).act)
      its (Some need) is = run.active p lt is_on
      its None is = acts_active q told s r own run.sound (part is_on) e lawful (free is)

  -- which devices it has then
  pub its_devices : (o : Option Need) (d : ℕ) → has_device (part_at reaches (later o) p) d ≡ has_device (part_after q s (by o).act) d
  its_devices o d = ap (λ (y : Seat). has_device (part_in y (reach_at reaches p)) d) (there o) ∙ ap (λ (y : Part). has_device y d) (part_new o)

  pub other_devices : (o : Option Need) (x d : ℕ) → x ≢ p → has_device (part_at reaches (later o) x) d ≡ has_device (part_at reaches seats x) d
  other_devices o x d ne = ap (λ (y : Seat). has_device (part_in y (reach_at reaches x)) d) (get_or-set_other seats p x (new o) no_seat ne)

  pub its_stints : (o : Option Need) (d : ℕ) → lends (seat_at (later o) p).stints d ≡ lends (part_after q s (by o).act).stints d
  its_stints o d = ap (λ (y : Seat). lends (part_in y (reach_at reaches p)).stints d) (there o) ∙ ap (λ (y : Part). lends y.stints d) (part_new o)

  pub other_stints : (o : Option Need) (x d : ℕ) → x ≢ p → lends (seat_at (later o) x).stints d ≡ lends (seat_at seats x).stints d
  other_stints o x d ne = ap (λ (y : Seat). lends y.stints d) (get_or-set_other seats p x (new o) no_seat ne)

  -- no other program has one of the pool that was nobody's
  nobody_else : (d x : ℕ) → x < length seats → in_pool q d ≡ true → is_lent_by seats d ≡ false → has_device (part_at reaches seats x) d ≡ false
  nobody_else d x lt' pooled none =
      has_pooled (part_at reaches seats x) s d (run.kept x lt') (ap (λ ks. is_some (get_or ks d (let k : Option Kind = None in k))) (run.common x p lt' lt)
      ∙ pooled)
      ∙ unlent_by seats d none x lt'

  pub tried_gains : live → (o : Option Need) → hold_of reaches seats s p ≡ o → (i d : ℕ) → i < length seats → has_device (part_at reaches (later o) i) d ≡ true
      → (has_device (part_at reaches seats i) d ≡ true) ⊎ ((j : ℕ) → j < length seats → j ≢ i → has_device (part_at reaches (later o) j) d ≡ false)
  tried_gains is_on o is i d lt' has =
      ⊎_elim
      (λ (same : i ≡ p).
      ⊎_elim
      (λ (had : has_device q d ≡ true). inl (ap (λ k. has_device (part_at reaches seats k) d) same ∙ had))
      (λ (new : (in_pool q d ≡ true) × (is_lent_by seats d ≡ false)).
      inr (λ j lt'' ne. other_devices o j d (λ is_p. ne (is_p ∙ sym same)) ∙ nobody_else d j lt'' new.0 new.1))
      (gains o is (sym (its_devices o d) ∙ (ap (λ k. has_device (part_at reaches (later o) k) d) (sym same) ∙ has))))
      (λ (ne : i ≢ p). inl (sym (other_devices o i d ne) ∙ has))
      (cases_eq i p)
    where
      gains : (o : Option Need) → hold_of reaches seats s p ≡ o → has_device (part_after q s (by o).act) d ≡ true → (has_device q d ≡ true)
          ⊎ ((in_pool q d ≡ true) × (is_lent_by seats d ≡ false))
      gains (Some need) is has = inl has
      gains None is has = acts_gains q told s r own run.sound (part is_on) e lawful (free is) d has

  pub tried_keeps : live → (o : Option Need) → hold_of reaches seats s p ≡ o → (i d : ℕ) → i < length seats
      → is_some (spot_at (shared o).spots d).flight ≡ true → has_device (part_at reaches seats i) d ≡ true → has_device (part_at reaches (later o) i) d ≡ true
  tried_keeps is_on o is i d lt' flies has =
      ⊎_elim
      (λ (same : i ≡ p).
      ap (λ k. has_device (part_at reaches (later o) k) d) same ∙ its_devices o d
      ∙ keeps o is flies (ap (λ k. has_device (part_at reaches seats k) d) (sym same) ∙ has))
      (λ (ne : i ≢ p). other_devices o i d ne ∙ has)
      (cases_eq i p)
    where
      keeps : (o : Option Need) → hold_of reaches seats s p ≡ o → is_some (spot_at (shared o).spots d).flight ≡ true → has_device q d ≡ true
          → has_device (part_after q s (by o).act) d ≡ true
      keeps (Some need) is flies has = has
      keeps None is flies has = acts_keeps q told s r own run.sound (part is_on) e lawful (free is) d flies has

  pub tried_fresh : live → (o : Option Need) → hold_of reaches seats s p ≡ o → (i d : ℕ) → i < length seats → in_pool (part_at reaches seats i) d ≡ true
      → IsUnlent (later o) d → (spot_at (shared o).spots d).progress ≡ new_progress
  tried_fresh is_on o is i d lt' pooled unlent =
      ⊎_elim
      (λ (was : (lends q.stints d ≡ false) × ((spot_at (shared o).spots d).progress ≡ (spot_at s.spots d).progress)).
      was.1 ∙ run.fresh i d lt' pooled
      (λ j within. ⊎_elim
      (λ (same : j ≡ p). ap (λ k. lends (seat_at seats k).stints d) same ∙ was.0)
      (λ (ne : j ≢ p). sym (other_stints o j d ne) ∙ unlent j (omega (arith, length-set seats p (new o))))
      (cases_eq j p)))
      (λ (blank : (spot_at (shared o).spots d).progress ≡ new_progress). blank)
      (settles o is (sym (its_stints o d) ∙ unlent p (omega (arith, length-set seats p (new o)))))
    where
      settles : (o : Option Need) → hold_of reaches seats s p ≡ o → lends (part_after q s (by o).act).stints d ≡ false
          → ((lends q.stints d ≡ false) × ((spot_at (shared o).spots d).progress ≡ (spot_at s.spots d).progress))
          ⊎ ((spot_at (shared o).spots d).progress ≡ new_progress)
      settles (Some need) is none = inl (none, refl)
      settles None is none = acts_settles q told s r own run.sound (part is_on) e lawful (free is) d none
