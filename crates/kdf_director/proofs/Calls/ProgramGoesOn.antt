-- The program that is next obeys orders of which nothing is noted, one after the other, and tries one more.
use Rattle.std.specs.Prelude.{unwrap_or}
use Rattle.std.proofs.Common.{◌≡◌, ℕ, zero, suc, ◌+◌, ◌<◌, ◌≤◌, Bool, true, ◌&&◌, List, length, set, Option, Some, None, refl, sym, ap, ap₂, ◌∙◌, subst, arith}
use Rattle.std.proofs.lemmas.List.{set-set}
use Rattle.kdf_journal.specs.declared.entry.Entry.{Entry}
use Rattle.kdf_journal.specs.declared.journal.TheConstants.{CALL_LIMIT}
use Rattle.kdf_journal.specs.Counts.{calls, clock}
use Rattle.kdf_journal.specs.Steps.{Quiet, Obeys, added}
use Rattle.kdf_journal.specs.declared.need.Need.{Need}
use Rattle.kdf_processor.specs.declared.step.Step.{Step}
use Rattle.kdf_processor.specs.declared.step.Step.TheVariants as ending
use Rattle.kdf_processor.specs.Lone.{is_live}
use Rattle.kdf_transfer.specs.Slots.{Slot}
use Rattle.kdf_course.specs.World as course
use Rattle.kdf_director.specs.declared.machine.Progress.{Progress}
use Rattle.kdf_director.specs.declared.machine.Progress.TheVariants as progress
use Rattle.kdf_yard.specs.declared.remark.Remark.{Remark}
use Rattle.kdf_yard.specs.declared.remark.Remark.TheVariants as noted
use Rattle.kdf_director.specs.Fields.Agrees.{Agrees}
use Rattle.kdf_yard.specs.Fields.Yards.{number_in}
use Rattle.kdf_theory.specs.Next.{lives, next}
use Rattle.kdf_yard.specs.Fields.Parts.{Reach, Seat}
use Rattle.kdf_places.specs.Shared.{Shared}
use Rattle.kdf_director.specs.Progressed.{found_live}
use Rattle.kdf_yard.specs.Fields.Running.{seat_at, IsRunning}
use Rattle.kdf_director.specs.declared.halt.Halt.{Halt}
use Rattle.kdf_director.specs.Halts.{ArePassed, HasMadeSomePast}
use Rattle.kdf_director.specs.Runs.{HasMadeOn}
use Rattle.kdf_yard.specs.Fields.Turned.{HasTriedAt, HasTurned}
use Rattle.kdf_theory.specs.InARow.{ran_on}
use Rattle.kdf_yard.specs.Fields.Shared.{moment}
use Rattle.kdf_theory.specs.MachineView.{MachineView, state_at, world_of}
use Rattle.kdf_yard.specs.Fields.Standing.{Standing}
use Rattle.kdf_director.specs.Fields.TurnTaken.{HasTaken, progress_of, step_told}
use Rattle.kdf_theory.specs.World.{hold_left}
use Rattle.kdf_director.proofs.Calls.CallsAfterCalls.{made_more}
use Rattle.kdf_director.proofs.Linking.NextPrograms.{few_ran, live_same}
use Rattle.kdf_theory.proofs.Course.OrdersInARow.{clock-ran_on}
use Rattle.kdf_theory.proofs.Course.StillNext.{still_next}
use Rattle.kdf_director.proofs.Linking.TurnTaken.{HasAdvanced, holds_in, shown, taken}
use Rattle.kdf_theory.proofs.Course.Worlds.{next_on, next_slot}

-- what holds the programs after so many orders of program i of which nothing is noted
abbrev pub held_on : List (Option Need) → (i : ℕ) → ℕ → List (Option Need)
held_on holds i zero = holds
held_on holds i (suc n) = set holds i None

set_on : (holds : List (Option Need)) (i n : ℕ) (hold : Option Need) → set (held_on holds i n) i hold ≡ set holds i hold
set_on holds i zero hold = refl
set_on holds i (suc n) hold = set-set holds i None hold

-- the turn of a program is found of a live one
turn_live : (p : ℕ) (ended : Step) → found_live (progress_of p ended) ≡ true
turn_live p (ending.Held need) = refl
turn_live p ended = refl

-- after n orders of program i, of which nothing is noted, it is next still
pub record IsGoingOn (service : ℕ → ℕ → Type 0) (y : Standing) (J : List Entry) (room i n : ℕ) (seats : List Seat) (s : Shared) : Type 0 where
  pub agrees : Agrees y.slots y.reaches seats s (ran_on J (number_in y i) n)
  pub holds_are : held_on y.holds i n ≡ holds_in seats (ran_on J (number_in y i) n)
  pub turn : next (world_of (shown y.slots y.reaches seats s (ran_on J (number_in y i) n) room)) y.slots (ran_on J (number_in y i) n) ≡ Some (number_in y i)
  pub number : (seat_at seats i).p ≡ number_in y i
  pub there : i < length seats
  pub made : HasMadeOn service n (shown y.slots y.reaches y.seats y.shared J room) (shown y.slots y.reaches seats s (ran_on J (number_in y i) n) room)

module _ (service : ℕ → ℕ → Type 0) (y : Standing) (J : List Entry) (room i n : ℕ) (seats : List Seat) (s : Shared)
    (g : IsGoingOn service y J room i n seats s) where
  abbrev slots : List Slot
  slots = y.slots

  abbrev reaches : List Reach
  reaches = y.reaches

  abbrev holds : List (Option Need)
  holds = y.holds

  abbrev p : ℕ
  p = number_in y i

  abbrev old : MachineView
  old = shown slots reaches y.seats y.shared J room

  abbrev K : List Entry
  K = ran_on J p n

  abbrev m : MachineView
  m = shown slots reaches seats s K room

  is_alive : lives slots K p ≡ true
  unfolding course.lives
  is_alive = ap₂ (λ (b c : Bool). b && c) (next_slot (world_of m) slots K p g.turn) (next_on (world_of m) slots K p g.turn)

  -- it is live
  pub live_on : is_live (seat_at seats i).registers.state ≡ true
  live_on = live_same slots reaches seats s K g.agrees i g.there ∙ ap (lives slots K) g.number ∙ is_alive

  pub few_on : (seat_at seats i).registers.ran ≤ CALL_LIMIT
  few_on = few_ran slots reaches seats s K g.agrees i g.there live_on

  -- it tries its next order
  module _ (seats' : List Seat) (s' : Shared) (ended : Step) (beside : Remark) (tried : HasTriedAt service reaches (clock J) i seats s seats' s' ended beside)
      (run : IsRunning reaches seats' s') (few : calls K < CALL_LIMIT) where
    turned : HasTurned reaches (moment (clock K) (unwrap_or tried.heard 0)) i seats s seats' s' ended beside
    turned = subst (λ t. HasTurned reaches (moment t (unwrap_or tried.heard 0)) i seats s seats' s' ended beside) (sym (clock-ran_on J p n)) tried.turned

    module _ (held : List (Option Need)) (L : List Entry) (answer : Progress) (left : held ≡ set holds i (hold_left ended))
        (entered : L ≡ added K (step_told (seat_at seats' i).p (seat_at seats' i).registers.ran ended beside))
        (answered : answer ≡ progress_of (seat_at seats' i).p ended) where
      did : HasTaken service reaches i seats s (held_on holds i n) K seats' s' held L answer
      did =
          record {
            heard = tried.heard;
            asked = tried.asked;
            ended = ended;
            noted = beside;
            turned = turned;
            left_held = left ∙ sym (set_on holds i n (hold_left ended));
            entered = entered;
            answered = answered;
          }

      pub advanced_on : HasAdvanced service m (record y { seats = seats'; holds = held; shared = s' }) L room answer
      advanced_on =
          taken service slots reaches seats s K room g.agrees (held_on holds i n) g.holds_are few i g.there (g.turn ∙ ap Some (sym g.number)) seats' s' held L
          answer did run

      all_made : found_live answer ≡ true → HasMadeOn service (suc n) old (shown slots reaches seats' s' L room)
      all_made found =
          made_more service n old m (shown slots reaches seats' s' L room) answer g.made advanced_on.advance found advanced_on.answered
          advanced_on.agrees.legal refl refl

      pub made_some : (halt : Halt) → ArePassed service halt n old m → (k : ℕ) → k ≡ n + 1
          → HasMadeSomePast service halt k old (shown slots reaches seats' s' L room) answer
      made_some halt passed k is =
          let more : suc n ≡ k = omega (arith, is) in
          record {
            some = record {
              before = n;
              between = m;
              earlier = g.made;
              last = advanced_on.advance;
              answered = advanced_on.answered;
              count = sym is;
              all_on = λ found. subst (λ x. HasMadeOn service x old (shown slots reaches seats' s' L room)) more (all_made found);
            };
            passed = passed;
          }

  -- and nothing is noted of it
  module _ (seats' : List Seat) (s' : Shared) (tried : HasTriedAt service reaches (clock J) i seats s seats' s' ending.Done noted.Quiet)
      (run : IsRunning reaches seats' s') (few : calls K < CALL_LIMIT) where
    pub number_on : (seat_at seats' i).p ≡ p
    number_on = tried.turned.numbers i ∙ g.number

    same : ran_on J p (suc n) ≡ added K (Obeys (seat_at seats' i).p Quiet)
    same = ap (λ q. added K (Obeys q Quiet)) (sym number_on)

    pub next_advanced : HasAdvanced service m (record y { seats = seats'; holds = (set holds i None); shared = s' }) (ran_on J p (suc n)) room
        (progress.Ran (seat_at seats' i).p)
    next_advanced = advanced_on seats' s' ending.Done noted.Quiet tried run few (set holds i None) (ran_on J p (suc n)) (progress.Ran (seat_at seats' i).p)
        refl same refl

    pub going_on : IsGoingOn service y J room i (suc n) seats' s'
    going_on =
        record {
          agrees = next_advanced.agrees;
          holds_are = next_advanced.holds_are;
          turn = still_next slots K p g.agrees.are g.agrees.legal (state_at m) (state_at (shown slots reaches seats' s' (ran_on J p (suc n)) room)) g.turn;
          number = number_on;
          there = (let there = g.there in let count = tried.turned.count in omega arith);
          made = all_made seats' s' ending.Done noted.Quiet tried run few (set holds i None) (ran_on J p (suc n)) (progress.Ran (seat_at seats' i).p) refl same
              refl refl;
        }
