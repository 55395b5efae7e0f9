-- Who has the devices of the pool after an order.
use Rattle.std.proofs.Common.{◌≡◌, ◌≢◌, ℕ, ◌<◌, true, false, List, length, map, set, Option, Some, None, cond, refl, sym, ap, ◌∙◌, ⊎_elim, arith}
use Rattle.std.proofs.lemmas.Bool.{cases_eq, eq-eqb, ne_eqb}
use Rattle.std.proofs.lemmas.List.{get_or-set_other, get_or-set_same, length-set}
use Rattle.kdf_processor.specs.declared.registers.Registers.{Registers}
use Rattle.kdf_journal.specs.declared.need.Need.TheVariants.{Device}
use Rattle.kdf_processor.specs.Effect.{Effect, Failing, Ending, Changing, Fetching, Keeping, Testing, Starting, Asking, IsBusy, IsOut, Time, FreeOf, OfService}
use Rattle.kdf_processor.specs.Effect.{Claiming, Returning, Spooling}
use Rattle.kdf_processor.specs.Lone.{is_live}
use Rattle.kdf_processor.specs.Needs.{effect_needs}
use Rattle.kdf_processor.specs.Outcome.{Outcome, done}
use Rattle.kdf_processor.specs.View.{first_pending}
use Rattle.kdf_yard.specs.declared.moment.Moment.{Moment}
use Rattle.kdf_yard.specs.Fields.Remarks.{note_of}
use Rattle.kdf_yard.specs.Fields.Parts.{Part, Reach, Seat, back_from, borrower, lent_to, own_claims, part_after}
use Rattle.kdf_places.specs.Shared.{Shared}
use Rattle.kdf_places.specs.Spots.{spot_at}
use Rattle.kdf_yard.specs.Fields.Running.{no_seat, part_at, seat_at, IsRunning}
use Rattle.kdf_yard.specs.Fields.Settled.{holder_left, holder_over}
use Rattle.kdf_yard.specs.Fields.Shared.{Setting, after_act, view}
use Rattle.kdf_yard.specs.Fields.Stints.{lends}
use Rattle.kdf_yard.specs.Fields.Turned.{seat_after}
use Rattle.kdf_theory.proofs.Seen.EffectsChecked.{IsLawful}
use Rattle.kdf_yard.proofs.Physical.PoolDevices.{taken_elsewhere, taken_there}
use Rattle.kdf_yard.proofs.Physical.StintsChange.{lends_here, lends_there}
use Rattle.kdf_yard.proofs.Turns.Borrowers.{borrower_at, borrower_none, borrower_same, others_none}
use Rattle.kdf_yard.proofs.Turns.OneOrder.{is_part, told_by, unlent_by}
use Rattle.kdf_yard.proofs.Turns.OrdersTried.{IsPart, give_its, take_free, take_is, take_nobodys}

module _ (reaches : List Reach) (seats : List Seat) (t : Moment) (s : Shared) (p : ℕ) (run : IsRunning reaches seats s) (lt : p < length seats)
    (live : is_live (seat_at seats p).registers.state ≡ true) (own : List ℕ) where
  abbrev q : Part
  q = part_at reaches seats p

  abbrev r : Registers
  r = (seat_at seats p).registers

  abbrev u : Setting
  u = told_by seats t

  part : IsPart q u s
  part = is_part reaches seats t s p run lt live

  -- the programs after an outcome
  abbrev after : Outcome → List Seat
  after o = set seats p (seat_after q s o)

  at : (o : Outcome) → seat_at (after o) p ≡ seat_after q s o
  at o = get_or-set_same seats p (seat_after q s o) no_seat lt

  elsewhere : (o : Outcome) (j : ℕ) → j ≢ p → seat_at (after o) j ≡ seat_at seats j
  elsewhere o j ne = get_or-set_other seats p j (seat_after q s o) no_seat ne

  stints_at : (o : Outcome) (j d : ℕ) → j ≡ p → lends (seat_at (after o) j).stints d ≡ lends (part_after q s o.act).stints d
  stints_at o j d same = ap (λ k. lends (seat_at (after o) k).stints d) same ∙ ap (λ (y : Seat). lends y.stints d) (at o)

  -- who has a device that the program has then just as before
  pub same_holder : (o : Outcome) (d : ℕ) → lends (part_after q s o.act).stints d ≡ lends q.stints d → borrower (after o) d ≡ borrower seats d
  same_holder o d is =
      borrower_same seats (after o) d (length-set seats p (seat_after q s o))
      (λ j within. ⊎_elim
      (λ (same : j ≡ p). stints_at o j d same ∙ is ∙ sym (ap (λ k. lends (seat_at seats k).stints d) same))
      (λ (ne : j ≢ p). ap (λ (y : Seat). lends y.stints d) (elsewhere o j ne))
      (cases_eq j p))
      (λ j. ⊎_elim
      (λ (same : j ≡ p). ap (λ k. (seat_at (after o) k).p) same ∙ ap (λ (y : Seat). y.p) (at o) ∙ sym (ap (λ k. (seat_at seats k).p) same))
      (λ (ne : j ≢ p). ap (λ (y : Seat). y.p) (elsewhere o j ne))
      (cases_eq j p))

  -- no other program has the device
  abbrev Others : ℕ → Type 0
  Others d = (j : ℕ) → j < length seats → j ≢ p → lends (seat_at seats j).stints d ≡ false

  its_then : (o : Outcome) (d : ℕ) → lends (part_after q s o.act).stints d ≡ true → Others d → borrower (after o) d ≡ Some q.p
  its_then o d has others =
      borrower_at (after o) d p (omega (arith, length-set seats p (seat_after q s o))) (stints_at o p d refl ∙ has)
      (λ j within ne. ap (λ (y : Seat). lends y.stints d) (elsewhere o j ne) ∙ others j (omega (arith, length-set seats p (seat_after q s o))) ne)
      ∙ ap (λ (y : Seat). Some y.p) (at o)

  nobodys_then : (o : Outcome) (d : ℕ) → lends (part_after q s o.act).stints d ≡ false → Others d → borrower (after o) d ≡ None
  nobodys_then o d none others =
      borrower_none (after o) d
      (λ j within. ⊎_elim
      (λ (same : j ≡ p). stints_at o j d same ∙ none)
      (λ (ne : j ≢ p). ap (λ (y : Seat). lends y.stints d) (elsewhere o j ne) ∙ others j (omega (arith, length-set seats p (seat_after q s o))) ne)
      (cases_eq j p))

  -- after one that goes on
  pub live_by : (e : Effect) → IsLawful (own_claims q s) e → first_pending (view q u s) (effect_needs own e) ≡ None
      → is_live (done (view q u s) r e).registers.state ≡ true → (d : ℕ)
      → borrower (after (done (view q u s) r e)) d ≡ holder_left q.p (done (view q u s) r e).step (note_of (done (view q u s) r e).act) d (borrower seats d)
  live_by (Failing kind) lawful free on d = cc
  live_by (Ending end) lawful free on d = cc
  live_by (Changing then) lawful free on d = same_holder (done (view q u s) r (Changing then)) d refl
  live_by (Fetching a then) lawful free on d = same_holder (done (view q u s) r (Fetching a then)) d refl
  live_by (Keeping a w then) lawful free on d = same_holder (done (view q u s) r (Keeping a w then)) d refl
  live_by (Testing x what then) lawful free on d = same_holder (done (view q u s) r (Testing x what then)) d refl
  live_by (Starting x o first last then) lawful free on d = same_holder (done (view q u s) r (Starting x o first last then)) d refl
  live_by (Asking (FreeOf kind) then) lawful free on d =
      let a = (view q u s).answer (FreeOf kind) in
      let x = lent_to q s kind a in
      let is : x ≡ a = take_is q u s kind part free in
      let o = done (view q u s) r (Asking (FreeOf kind) then) in
      ⊎_elim
      (λ (same : d ≡ x).
      its_then o d (ap (lends (part_after q s o.act).stints) same ∙ taken_there q s x part.kept (take_free q u s kind part free))
      (λ j within ne. ap (lends (seat_at seats j).stints) same ∙ unlent_by seats x (take_nobodys q u s kind part free).1 j within)
      ∙ sym (ap (λ b. cond b (Some q.p) (borrower seats d)) (eq-eqb a d (sym is ∙ sym same))))
      (λ (ne : d ≢ x).
      same_holder o d (taken_elsewhere q s x part.kept (take_free q u s kind part free) d ne)
      ∙ sym (ap (λ b. cond b (Some q.p) (borrower seats d)) (ne_eqb a d (λ same. ne (sym same ∙ sym is)))))
      (cases_eq d x)
  live_by (Asking (IsBusy x) then) lawful free on d = same_holder (done (view q u s) r (Asking (IsBusy x) then)) d refl
  live_by (Asking (IsOut first last) then) lawful free on d = same_holder (done (view q u s) r (Asking (IsOut first last) then)) d refl
  live_by (Asking Time then) lawful free on d = same_holder (done (view q u s) r (Asking Time then)) d refl
  live_by (Asking (OfService word) then) lawful free on d = same_holder (done (view q u s) r (Asking (OfService word) then)) d refl
  live_by (Claiming x then) lawful free on d = same_holder (done (view q u s) r (Claiming x then)) d refl
  live_by (Returning true x then) lawful free on d =
      let its = give_its q u s x then part lawful free in
      let loan = back_from (spot_at s.spots x) in
      let o = done (view q u s) r (Returning true x then) in
      ⊎_elim
      (λ (same : d ≡ x).
      nobodys_then o d (ap (lends (part_after q s o.act).stints) same ∙ lends_here q.stints x loan refl)
      (λ j within ne. ap (lends (seat_at seats j).stints) same ∙ others_none reaches seats s run p lt x its.lent j within ne)
      ∙ sym (ap (λ b. cond b None (borrower seats d)) (eq-eqb x d (sym same))))
      (λ (ne : d ≢ x).
      same_holder o d (lends_there q.stints x d loan ne)
      ∙ sym (ap (λ b. cond b None (borrower seats d)) (ne_eqb x d (λ same. ne (sym same)))))
      (cases_eq d x)
  live_by (Returning false x then) lawful free on d = same_holder (done (view q u s) r (Returning false x then)) d refl
  live_by (Spooling stream first last then) lawful free on d = same_holder (done (view q u s) r (Spooling stream first last then)) d refl

  -- one that ends or fails does nothing else, waits for all transfers, and takes what the program has
  pub over_by : (e : Effect) → first_pending (view q u s) (effect_needs own e) ≡ None → is_live (done (view q u s) r e).registers.state ≡ false
      → (after_act q s (done (view q u s) r e).act ≡ s) × (first_pending (view q u s) (map Device own) ≡ None)
      × ((d : ℕ) (o : Option ℕ) → holder_left q.p (done (view q u s) r e).step (note_of (done (view q u s) r e).act) d o ≡ holder_over q.p o)
      × (part_after q s (done (view q u s) r e).act ≡ q)
  over_by (Failing kind) free dead = (refl, free, (λ d o. refl), refl)
  over_by (Ending end) free dead = (refl, free, (λ d o. refl), refl)
  over_by (Changing then) free dead = cc (sym dead ∙ live)
  over_by (Fetching a then) free dead = cc (sym dead ∙ live)
  over_by (Keeping a w then) free dead = cc (sym dead ∙ live)
  over_by (Testing x what then) free dead = cc (sym dead ∙ live)
  over_by (Starting x o first last then) free dead = cc (sym dead ∙ live)
  over_by (Asking question then) free dead = cc (sym dead ∙ live)
  over_by (Claiming x then) free dead = cc (sym dead ∙ live)
  over_by (Returning pooled x then) free dead = cc (sym dead ∙ live)
  over_by (Spooling stream first last then) free dead = cc (sym dead ∙ live)
