-- A yard and its journal after calls that are made at once.
use Rattle.std.specs.Prelude.{Result, Ok, Err, OnErr, IfOk}
use Rattle.std.proofs.Common.{◌≡◌, ℕ, zero, suc, ◌+◌, ◌<◌, ◌≤◌, Bool, true, false, List, get_or, set, Option, Some, None, cond, refl, sym}
use Rattle.std.proofs.Common.{ap, ap₂, ◌∙◌, subst, arith}
use Rattle.std.proofs.lemmas.Bool.{false≢true}
use Rattle.std.proofs.lemmas.List.{set-get_or}
use Rattle.kdf_journal.specs.Counts.{calls, clock, moves, priorities}
use Rattle.kdf_journal.specs.declared.entry.Entry.{Entry}
use Rattle.kdf_journal.specs.declared.entry.Entry.TheVariants.{Idle}
use Rattle.kdf_journal.specs.declared.journal.TheConstants.{CALL_LIMIT}
use Rattle.kdf_journal.specs.Joined.{pushed}
use Rattle.kdf_journal.specs.Recorded.{Recorded}
use Rattle.kdf_journal.specs.Steps.{added}
use Rattle.kdf_processor.specs.declared.registers.Life.{Life}
use Rattle.kdf_processor.specs.declared.registers.Life.TheVariants as life
use Rattle.kdf_journal.specs.declared.need.Need.{Need}
use Rattle.kdf_processor.specs.declared.step.Step.{Step}
use Rattle.kdf_processor.specs.declared.step.Step.TheVariants as step
use Rattle.kdf_processor.specs.Lone.{is_live}
use Rattle.kdf_director.specs.declared.machine.Progress.{Progress}
use Rattle.kdf_director.specs.declared.machine.Progress.TheVariants as progress
use Rattle.kdf_yard.specs.declared.remark.Remark.{Remark}
use Rattle.kdf_yard.specs.declared.remark.Remark.TheVariants as note
use Rattle.kdf_director.specs.Fields.Agrees.{Agrees, IsReady}
use Rattle.kdf_yard.specs.Fields.Running.{AreLent}
use Rattle.kdf_director.specs.declared.halt.Halt.{Halt}
use Rattle.kdf_director.specs.declared.halt.Halt.TheVariants.{Each}
use Rattle.kdf_yard.specs.Fields.Batches.{is_at, of_seats, AreQuiet, HasBatch, HasTriedOn, Passes}
use Rattle.kdf_director.specs.Halts.{place_for, ArePassed, HasMadeSomePast, HasPassedButFewer}
use Rattle.kdf_yard.specs.Fields.Parts.{Seat}
use Rattle.kdf_yard.specs.Fields.Standing.{Standing, IsSameYard}
use Rattle.kdf_director.specs.Fields.Viewed.{shown_of}
use Rattle.kdf_theory.specs.World.{hold_left}
use Rattle.kdf_director.specs.Fields.TurnTaken.{step_told}
use Rattle.kdf_yard.specs.Fields.Yards.{any_in, first_in, hold_in, number_in, registers_in, AreLentIn, AreNear, AreOfFour, HasTriedIn, HasTriedQuietly}
use Rattle.kdf_theory.specs.Next.{any_live}
use Rattle.kdf_director.specs.Runs.{HasEntered, HasMadeOn, IsEntered, held_after}
use Rattle.kdf_theory.specs.InARow.{ran_on, waited_on}
use Rattle.kdf_theory.specs.MachineView.{MachineView, state_at}
use Rattle.kdf_places.specs.Shared.{Shared}
use Rattle.kdf_director.proofs.Calls.CallsAfterCalls.{made_none}
use Rattle.kdf_director.proofs.Calls.GoingFurther.{going_further}
use Rattle.kdf_director.proofs.Calls.Halting.{passed_none}
use Rattle.kdf_director.proofs.Calls.OrdersPassed.{passing_further, passing_one}
use Rattle.kdf_yard.proofs.Turns.Batching.{quiet_map}
use Rattle.kdf_director.proofs.Calls.NoneGoesOn.{waiting, waiting_some}
use Rattle.kdf_director.proofs.Calls.OneCall.{moves-took}
use Rattle.kdf_theory.proofs.Course.OrdersInARow.{calls-ran_on, holder-ran_on, moves-ran_on, moves-waited_on, some-waited_on}
use Rattle.kdf_director.proofs.Calls.ProgramGoesOn.{IsGoingOn, advanced_on, few_on, going_on, held_on, live_on, made_some}
use Rattle.kdf_director.proofs.Linking.NextPrograms.{any_same, is_next, near_holds, of_four}
use Rattle.kdf_director.proofs.Linking.TurnTaken.{all_ended, holds_in, shown}

-- a life that is live
live_is : (x : Life) → is_live x ≡ true → x ≡ life.Live
live_is life.Live is = refl
live_is life.Ended is = cc
live_is (life.Failed kind) is = cc

-- what holds at all events
pub all_err : {A E : Type 0} (r : Result A E) (P : Type 0) → P → OnErr r P
all_err (Ok a) P p = tt
all_err (Err e) P p = p

-- what holds of four values holds of those that are the same
pub at_four : {A B C D : Type 0} (P : A → B → C → D → Type 0) {a k : A} {b l : B} {c m : C} {d n : D} → a ≡ k → b ≡ l → c ≡ m → d ≡ n → P a b c d → P k l m n
at_four P {a} {k} {b} {l} {c} {m} {d} {n} one two three four p =
    subst (λ w. P w l m n) one (subst (λ x. P a x m n) two (subst (λ y. P a b y n) three (subst (λ z. P a b c z) four p)))

-- no more calls are answered than are left: those that were entered, and those that wait
pub entered_within : {E F : Type 0} (J K : List Entry) (p quiet ran most : ℕ) (hold held : Option Need) (tried : Result (Step × Remark) E)
    (answer : Result (ℕ × Progress) F) → HasEntered J p quiet ran hold tried K held answer → quiet < most → IfOk answer (λ x. x.0 ≤ most)
entered_within J K p quiet ran most hold held (Ok t) (Ok x) has left = let count = has.count in omega (arith, left)
entered_within J K p quiet ran most hold held (Ok t) (Err e) has left = tt
entered_within J K p quiet ran most hold held (Err t) (Ok x) has left = absurd has
entered_within J K p quiet ran most hold held (Err t) (Err e) has left = tt

pub waits_within : (b : Bool) (most : ℕ) → 0 < most → (cond {A = ℕ × Progress} b (most, progress.Idle) (1, progress.AllEnded)).0 ≤ most
waits_within true most some = omega arith
waits_within false most some = some

-- program i of the yard has obeyed n orders of which nothing is noted and after which calls don't stop, and so the yard
-- stands then
pub record IsOn (answers : ℕ → ℕ → Type 0) (halt : Halt) (y : Standing) (J : Recorded) (room i n : ℕ) (z : Standing) : Type 0 where
  pub course : IsGoingOn answers y J.entries room i n z.seats z.shared
  pub same : IsSameYard y z
  pub passed : ArePassed answers halt n (shown_of y J room) (shown y.slots y.reaches z.seats z.shared (ran_on J.entries (number_in y i) n) room)

module _ (answers : ℕ → ℕ → Type 0) (y : Standing) (J : Recorded) (room : ℕ) (ready : IsReady y J room) where
  abbrev old : MachineView
  old = shown_of y J room

  pub near : AreNear y
  near = near_holds y.slots y.reaches y.seats y.shared J.entries ready.agrees y.holds ready.holds

  -- their slots are of the four
  pub fours : AreOfFour y
  fours = of_four y.slots y.reaches y.seats y.shared J.entries ready.agrees

  -- a yard that calls leave
  ready_then : (z : Standing) (K : Recorded) → room ≤ K.spare → Agrees z.slots z.reaches z.seats z.shared K.entries → z.holds ≡ holds_in z.seats K.entries
      → moves K.entries ≡ moves J.entries → IsReady z K room
  ready_then z K fits agrees holds same =
      record {
        agrees = agrees;
        holds = holds;
        fits = fits;
        few_events = ready.few_events;
        few_words = omega (arith, ready.few_words, same);
      }

  -- memory was taken, and there was none
  pub kept : (K : Recorded) → K.entries ≡ J.entries → J.spare ≤ K.spare → IsReady y K room
  kept K same more =
      subst (λ (E : List Entry). IsReady y (record { entries = E; spare = K.spare }) room) (sym same)
      (record {
        agrees = ready.agrees;
        holds = ready.holds;
        fits = let fits = ready.fits in omega (arith, more);
        few_events = ready.few_events;
        few_words = ready.few_words;
      })

  pub fewer : (halt : Halt) (K : Recorded) → K.entries ≡ J.entries → (most : ℕ) → 0 < most → HasPassedButFewer answers halt most old (shown_of y K room)
  fewer halt K same most some =
      subst (λ (E : List Entry). HasPassedButFewer answers halt most old (shown_of y (record { entries = E; spare = K.spare }) room)) (sym same)
      (record {
        made = 0;
        on = made_none answers old ready.agrees.legal;
        fewer = some;
        count = omega arith;
        passed = passed_none answers halt old;
      })

  -- no program goes on
  module _ (halt : Halt) (most : ℕ) (some : 0 < most) (few : calls J.entries + most ≤ CALL_LIMIT) (none : first_in y (priorities J.entries) ≡ None) (spare : ℕ)
      (fits : room ≤ spare) where
    -- and this is what so many calls come to
    abbrev Waits : List Entry → ℕ × Progress → Type 0
    Waits K x =
        IsReady y (record { entries = K; spare = spare }) room
        × HasMadeSomePast answers halt x.0 old (shown_of y (record { entries = K; spare = spare }) room) x.1
        × (x.0 ≤ most)

    all_idle : any_live y.slots J.entries ≡ true → Waits (waited_on J.entries most) (most, progress.Idle)
    all_idle live = by_most most few refl
      where
        by_most : (n : ℕ) → calls J.entries + n ≤ CALL_LIMIT → n ≡ most → Waits (waited_on J.entries n) (n, progress.Idle)
        by_most zero little is = absurd (omega (arith, some, is))
        by_most (suc n) little is =
            let w = waiting answers y J.entries room ready.agrees ready.holds live none (suc n) little in (
              ready_then y (record { entries = waited_on J.entries (suc n); spare = spare }) fits w.agrees w.holds_are (moves-waited_on J.entries (suc n)),
              waiting_some answers y J.entries room ready.agrees ready.holds live none halt n little,
              omega (arith, is),
            )

    none_live : any_live y.slots J.entries ≡ false → Waits J.entries (1, progress.AllEnded)
    none_live dead =
        let d = all_ended answers y.slots y.reaches y.seats y.shared J.entries room ready.agrees y.holds ready.holds (omega arith) dead in (
          ready_then y (record { entries = J.entries; spare = spare }) fits ready.agrees ready.holds refl,
          record {
            some = record {
              before = 0;
              between = old;
              earlier = made_none answers old ready.agrees.legal;
              last = d.advance;
              answered = d.answered;
              count = refl;
              all_on = λ found. absurd (false≢true found);
            };
            passed = passed_none answers halt old;
          },
          omega arith,
        )

    pub waits : (K : List Entry) (x : ℕ × Progress) → K ≡ cond (any_in y) (pushed J.entries (Idle most)) J.entries
        → x ≡ cond (any_in y) (most, progress.Idle) (1, progress.AllEnded) → Waits K x
    waits K x entered told =
        subst (λ L. Waits L x) (sym entered)
        (subst (Waits (cond (any_in y) (pushed J.entries (Idle most)) J.entries)) (sym told)
        (by_any (any_in y) (any_same y.slots y.reaches y.seats y.shared J.entries ready.agrees)))
      where
        by_any : (b : Bool) → b ≡ any_live y.slots J.entries
            → Waits (cond b (pushed J.entries (Idle most)) J.entries) (cond b (most, progress.Idle) (1, progress.AllEnded))
        by_any true live = subst (λ L. Waits L (most, progress.Idle)) (sym (some-waited_on J.entries most some)) (all_idle (sym live))
        by_any false dead = none_live (sym dead)

  -- a program goes on
  module _ (halt : Halt) (i : ℕ) (going : first_in y (priorities J.entries) ≡ Some i) where
    abbrev p : ℕ
    p = number_in y i

    abbrev place : Option ℕ
    place = place_for halt p

    pub begun : IsOn answers halt y J room i 0 y
    begun =
        let is = is_next y.slots y.reaches y.seats y.shared J.entries ready.agrees y.holds ready.holds (state_at old) i going in
        record {
          course = record {
            agrees = ready.agrees;
            holds_are = ready.holds;
            turn = is.2;
            number = refl;
            there = is.0;
            made = made_none answers old ready.agrees.legal;
          };
          same = record { slots = refl; reaches = refl; holds = refl; many = refl };
          passed = passed_none answers halt old;
        }

    abbrev Going : ℕ → List Seat → Shared → Type 0
    Going = IsGoingOn answers y J.entries room i

    abbrev Tries : List Seat → Shared → List Seat → Shared → Step → Remark → Type 0
    Tries = HasTriedOn answers y.reaches (clock J.entries) i

    abbrev Past : List Seat → Shared → List Seat → Shared → Step → Remark → Type 0
    Past = Passes (of_seats i) place Tries

    further : (n : ℕ) (mid : List Seat) (between : Shared) → Going n mid between → (k : ℕ) (after : List Seat) (left : Shared)
        → calls J.entries + (n + k) ≤ CALL_LIMIT → AreQuiet Past k mid between after left → Going (n + k) after left
    further n mid between g k after left few quiet =
        going_further answers y J.entries room i n k mid between after left g few (quiet_map Past Tries (λ b x a l h. h.0) k mid between after left quiet)

    -- and so it is seen after n orders, all of which were passed
    abbrev after_all : ℕ → List Seat → Shared → MachineView
    after_all n seats s = shown y.slots y.reaches seats s (ran_on J.entries p n) room

    abbrev Passed : ℕ → List Seat → Shared → Type 0
    Passed n seats s = ArePassed answers halt n old (after_all n seats s)

    -- it has obeyed n, and tries k more at this time, and one more
    module _ (n : ℕ) (z : Standing) (on : IsOn answers halt y J room i n z) where
      pub live : (registers_in z i).state ≡ life.Live
      live = live_is (registers_in z i).state (live_on answers y J.entries room i n z.seats z.shared on.course)

      -- the pool lends as the journal told before them
      pub lent : AreLentIn z J.entries
      lent =
          subst (λ rs. AreLent J.entries rs z.seats) (sym on.same.reaches)
          (λ j d within pooled. on.course.agrees.lent j d within pooled ∙ holder-ran_on J.entries p n d)

      pub ran : (registers_in z i).ran ≤ CALL_LIMIT
      ran = few_on answers y J.entries room i n z.seats z.shared on.course

      module _ {E : Type 0} (k : ℕ) (few : calls J.entries + (n + k) < CALL_LIMIT) (w : Standing) (same : IsSameYard z w) (tried : Result (Step × Remark) E)
          (time : ℕ) (now : time ≡ clock J.entries) (inside : halt ≡ Each → ⊥) (did : IfOk tried (λ x. HasTriedIn answers time i k place z w x.0 x.1)) where
        same_yard : IsSameYard y w
        same_yard =
            record {
              slots = same.slots ∙ on.same.slots;
              reaches = same.reaches ∙ on.same.reaches;
              holds = same.holds ∙ on.same.holds;
              many = same.many ∙ on.same.many;
            }

        did_then : IfOk tried (λ x. HasBatch (of_seats i) place Tries k z.seats z.shared w.seats w.shared x.0 x.1)
        did_then =
            subst (λ t. IfOk tried (λ x. HasBatch (of_seats i) place (HasTriedOn answers y.reaches t i) k z.seats z.shared w.seats w.shared x.0 x.1)) now
            (subst (λ rs. IfOk tried (λ x. HasBatch (of_seats i) place (HasTriedOn answers rs time i) k z.seats z.shared w.seats w.shared x.0 x.1))
            on.same.reaches did)

        -- nothing is noted of that either
        pub going_more : tried ≡ Ok (step.Done, note.Quiet) → is_at place (registers_in w i) ≡ false → IsOn answers halt y J room i (n + k + 1) w
        going_more is past =
            let batch = subst (λ (t : Result (Step × Remark) E). IfOk t (λ x. HasBatch (of_seats i) place Tries k z.seats z.shared w.seats w.shared x.0 x.1)) is
            did_then in
            let one : suc (n + k) ≡ n + k + 1 = omega arith in
            let until = further n z.seats z.shared on.course k batch.mid batch.between (omega (arith, few)) batch.earlier in
            let room_left : calls (ran_on J.entries p (n + k)) < CALL_LIMIT = omega (arith, few, calls-ran_on J.entries p (n + k)) in
            record {
              course =
                  subst (λ m. Going m w.seats w.shared) one
                  (going_on answers y J.entries room i (n + k) batch.mid batch.between until w.seats w.shared batch.last.0 batch.last.1 room_left);
              same = same_yard;
              passed =
                  subst (λ m. Passed m w.seats w.shared) one
                  (passing_one answers y J.entries room i halt inside (n + k) batch.mid batch.between until w.seats w.shared batch.last.0 batch.last.1
                  room_left past old
                  (passing_further answers y J.entries room i halt inside n k z.seats z.shared batch.mid batch.between old on.course
                  (omega (arith, few)) batch.earlier on.passed));
            }

        -- it is entered: only what holds the program changes
        module _ (err : OnErr tried (HasTriedQuietly answers time i k place z w)) (u : Standing) (rest : u ≡ record w { holds = set w.holds i (hold_in u i) })
            (K : Recorded) (fits : room ≤ K.spare) where
          abbrev h : Option Need
          h = hold_in u i

          abbrev v : Standing
          v = record y { seats = w.seats; holds = set y.holds i h; shared = w.shared }

          left : u ≡ v
          left =
              rest
              ∙ ap₂ (λ a b. record { slots = a; reaches = b; seats = w.seats; holds = set w.holds i h; shared = w.shared }) same_yard.slots same_yard.reaches
              ∙ ap (λ hs. record { slots = y.slots; reaches = y.reaches; seats = w.seats; holds = set hs i h; shared = w.shared }) same_yard.holds

          turned : (m : ℕ) (mid : List Seat) (between : Shared) → Going m mid between → Passed m mid between → calls J.entries + m < CALL_LIMIT
              → (ended : Step) (noted : Remark) (made : ℕ) (answer : Progress) → Tries mid between w.seats w.shared ended noted
              → IsEntered J.entries (number_in w i) m (registers_in w i).ran ended noted K.entries h made answer
              → IsReady v K room × HasMadeSomePast answers halt made old (shown_of v K room) answer
          turned m mid between g passed few ended noted made answer tried e =
              let few_then : calls (ran_on J.entries p m) < CALL_LIMIT = omega (arith, few, calls-ran_on J.entries p m) in
              let number : number_in w i ≡ p = tried.0.turned.numbers i ∙ g.number in
              let entered : K.entries ≡ added (ran_on J.entries p m) (step_told (number_in w i) (registers_in w i).ran ended noted) =
              e.entries ∙ ap (λ q. added (ran_on J.entries q m) (step_told (number_in w i) (registers_in w i).ran ended noted)) number in
              let held : set y.holds i h ≡ set y.holds i (hold_left ended) = ap (set y.holds i) e.hold in
              let d = advanced_on answers y J.entries room i m mid between g w.seats w.shared ended noted tried.0 tried.1 few_then (set y.holds i h) K.entries
              answer held entered e.answer in (
                ready_then v K fits d.agrees d.holds_are (moves-took d.advance.heard _ _ answer d.advance.advance ∙ moves-ran_on J.entries p m),
                made_some answers y J.entries room i m mid between g w.seats w.shared ended noted tried.0 tried.1 few_then (set y.holds i h) K.entries answer
                    held entered e.answer halt passed made e.count,
              )

          held_still : (hold : Option Need) → hold ≡ hold_in y i → (m : ℕ) → set y.holds i (held_after m hold) ≡ held_on y.holds i m
          held_still hold is zero = ap (set y.holds i) is ∙ set-get_or y.holds i None
          held_still hold is (suc m) = refl

          stopped : (m : ℕ) → Going m w.seats w.shared → Passed m w.seats w.shared → K.entries ≡ ran_on J.entries (number_in w i) m
              → h ≡ held_after m (hold_in w i) → IsReady v K room × HasMadeOn answers m old (shown_of v K room) × (calls K.entries ≡ calls J.entries + m)
              × ArePassed answers halt m old (shown_of v K room)
          stopped m g passed entries hold =
              let journal : K.entries ≡ ran_on J.entries p m = entries ∙ ap (λ q. ran_on J.entries q m) g.number in
              let was : hold_in w i ≡ hold_in y i = ap (λ hs. get_or hs i None) same_yard.holds in
              let held : set y.holds i h ≡ held_on y.holds i m = ap (set y.holds i) hold ∙ held_still (hold_in w i) was m in (
                ready_then v K fits
                    (subst (λ L. Agrees y.slots y.reaches w.seats w.shared L) (sym journal) g.agrees)
                    (held ∙ g.holds_are ∙ ap (holds_in w.seats) (sym journal))
                    (ap moves journal ∙ moves-ran_on J.entries p m),
                subst (λ L. HasMadeOn answers m old (shown_of v (record { entries = L; spare = K.spare }) room)) (sym journal) g.made,
                ap calls journal ∙ calls-ran_on J.entries p m,
                subst (λ L. ArePassed answers halt m old (shown_of v (record { entries = L; spare = K.spare }) room)) (sym journal) passed,
              )

          little : calls J.entries + (n + k) ≤ CALL_LIMIT
          little = omega (arith, few)

          -- so it ends
          abbrev Ends : {F : Type 0} → Result (ℕ × Progress) F → Standing → Type 0
          Ends r x =
              IsReady x K room
              × IfOk r (λ a. HasMadeSomePast answers halt a.0 old (shown_of x K room) a.1)
              × OnErr r (HasPassedButFewer answers halt (suc (n + k)) old (shown_of x K room))

          err_then : OnErr tried (AreQuiet Past k z.seats z.shared w.seats w.shared)
          err_then =
              subst (λ t. OnErr tried (AreQuiet (Passes (of_seats i) place (HasTriedOn answers y.reaches t i)) k z.seats z.shared w.seats w.shared)) now
              (subst (λ rs. OnErr tried (AreQuiet (Passes (of_seats i) place (HasTriedOn answers rs time i)) k z.seats z.shared w.seats w.shared))
              on.same.reaches err)

          pub ends : {F : Type 0} (L : List Entry) → L ≡ J.entries → (r : Result (ℕ × Progress) F)
              → HasEntered L (number_in w i) (n + k) (registers_in w i).ran (hold_in w i) tried K.entries h r → Ends r u
          ends {F} L still r entered =
              subst (Ends r) (sym left)
              (by tried r did_then err_then
              (subst (λ (E : List Entry). HasEntered E (number_in w i) (n + k) (registers_in w i).ran (hold_in w i) tried K.entries h r) still entered))
            where
              by : (t : Result (Step × Remark) E) (r : Result (ℕ × Progress) F)
                  → IfOk t (λ x. HasBatch (of_seats i) place Tries k z.seats z.shared w.seats w.shared x.0 x.1)
                  → OnErr t (AreQuiet Past k z.seats z.shared w.seats w.shared)
                  → HasEntered J.entries (number_in w i) (n + k) (registers_in w i).ran (hold_in w i) t K.entries h r → Ends r v
              by (Ok t) (Ok x) did err e =
                  let all = turned (n + k) did.mid did.between (further n z.seats z.shared on.course k did.mid did.between little did.earlier)
                  (passing_further answers y J.entries room i halt inside n k z.seats z.shared did.mid did.between old on.course little did.earlier on.passed)
                  few t.0 t.1 x.0 x.1 did.last e in
                  (all.0, all.1, tt)
              by (Err _) (Err _) did err e =
                  let all = stopped (n + k) (further n z.seats z.shared on.course k w.seats w.shared little err)
                  (passing_further answers y J.entries room i halt inside n k z.seats z.shared w.seats w.shared old on.course little err on.passed) e.0 e.1 in
                  (all.0, tt, record { made = n + k; on = all.1; fewer = omega arith; count = all.2; passed = all.3 })
              by (Ok t) (Err _) did err e = absurd e
              by (Err _) (Ok x) did err e = absurd e
