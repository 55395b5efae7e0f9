-- Orders of one program that are tried one after the other, of which nothing is noted.
use Rattle.std.specs.Prelude.{unwrap_or}
use Rattle.std.proofs.Common.{◌≡◌, ℕ, zero, suc, ◌<◌, Bool, true, false, List, length, set, Option, Some, None, refl, sym, ap, ◌∙◌, subst, arith}
use Rattle.std.proofs.lemmas.List.{get_or-set_same, length-set, set-get_or, set-set}
use Rattle.kdf_processor.specs.declared.step.Step.{Step}
use Rattle.kdf_processor.specs.declared.step.Step.TheVariants as step
use Rattle.kdf_processor.specs.Lone.{is_live}
use Rattle.kdf_processor.specs.Outcome.{Outcome}
use Rattle.kdf_yard.specs.declared.moment.Moment.{Moment}
use Rattle.kdf_yard.specs.declared.remark.Remark.{Remark}
use Rattle.kdf_yard.specs.declared.remark.Remark.TheVariants as note
use Rattle.kdf_yard.specs.Fields.Batches.{of_seat, of_seats, AreQuiet, HasBatch, HasTriedOn, HasTurnedOn, Passes, is_at}
use Rattle.kdf_theory.specs.Holders.{held_by}
use Rattle.kdf_theory.proofs.GoingOn.{GoesOn, goes_on}
use Rattle.kdf_yard.specs.Fields.Running.{AreHeld, no_seat, reach_at, seat_at, IsRunning}
use Rattle.kdf_yard.specs.Fields.Parts.{Part, Reach, Seat, part_in}
use Rattle.kdf_places.specs.Shared.{Shared}
use Rattle.kdf_yard.specs.Fields.Settled.{Both, both_of, settled}
use Rattle.kdf_yard.specs.Fields.Shared.{moment, view}
use Rattle.kdf_theory.specs.Asked.{HasAsked}
use Rattle.kdf_yard.specs.declared.machine_port.MachinePort.{MachinePort}
use Rattle.kdf_yard.specs.Fields.MachinePort.{held_in, reach_in, SameProgram}
use Rattle.kdf_yard.specs.Fields.Turned.{both_after, outcome_over, told, word_over, HasRun, HasTried, HasTurned}
use Rattle.kdf_theory.proofs.Course.HeardWords.{has_none}
use Rattle.kdf_yard.proofs.Turns.HeardWords.{none_served}
use Rattle.kdf_yard.proofs.Turns.DevicesLeave.{run_by, settled_on}
use Rattle.kdf_yard.proofs.Turns.AfterTheTry.{turned, turned_running}

module _ (reach : Reach) (held : ℕ → Option ℕ) (m : Moment) where
  abbrev Tries : Seat → Shared → Seat → Shared → Step → Remark → Type 0
  Tries = HasTried reach held m

  abbrev Runs : Seat → Shared → Seat → Shared → Step → Remark → Type 0
  Runs = HasRun reach held m

  -- a program that tried an order, which was obeyed
  pub went_on : (before : Seat) (s : Shared) (after : Seat) (left : Shared) (noted : Remark) → Tries before s after left step.Done noted
      → GoesOn before.registers after.registers
  went_on before s after left noted tried =
      let o : Outcome = outcome_over before reach (told before held m) s in
      subst (GoesOn before.registers) (sym (ap (λ (x : Seat). x.registers) tried.program))
      (goes_on (view (part_in before reach) (told before held m) s) before.registers (sym tried.step))

  -- after so many, it was the last of them
  pub last_by : (place : Option ℕ) (n k : ℕ) (before : Seat) (s : Shared) (mid : Seat) (between : Shared) (after : Seat) (left : Shared) (ended ended' : Step)
      (noted noted' : Remark) → AreQuiet (Passes of_seat place Tries) n before s mid between → n ≡ k → Tries mid between after left ended noted → ended ≡ ended'
      → noted' ≡ noted → HasBatch of_seat place Tries k before s after left ended' noted'
  last_by place n k before s mid between after left ended ended' noted noted' earlier many last is is' =
      record {
        mid = mid;
        between = between;
        earlier = subst (λ i. AreQuiet (Passes of_seat place Tries) i before s mid between) many earlier;
        last = subst (Tries mid between after left ended') (sym is') (subst (λ e. Tries mid between after left e noted) is last);
      }

  -- gives nothing up
  pub run_on : (before : Seat) (s : Shared) (after : Seat) (left : Shared) (noted : Remark) → is_live before.registers.state ≡ true
      → Tries before s after left step.Done noted → Runs before s after left step.Done noted × is_live after.registers.state ≡ true
  run_on before s after left noted live tried =
      let on : is_live after.registers.state ≡ true = ap is_live (went_on before s after left noted tried).state ∙ live in
      (run_by reach held m before s after left after left step.Done noted tried (settled_on (both_of after left) on), on)

  -- nor do so many
  pub runs_on : (place : Option ℕ) (n : ℕ) (before : Seat) (s : Shared) (after : Seat) (left : Shared) → is_live before.registers.state ≡ true
      → AreQuiet (Passes of_seat place Tries) n before s after left → AreQuiet (Passes of_seat place Runs) n before s after left
      × is_live after.registers.state ≡ true
  runs_on place zero before s after left live same = (same, ap (λ (x : Seat). is_live x.registers.state) same.0 ∙ live)
  runs_on place (suc n) before s after left live (mid, between, earlier, last) =
      let until = runs_on place n before s mid between live earlier in
      let then = run_on mid between after left note.Quiet until.1 last.0 in
      ((mid, between, until.0, (then.0, last.1)), then.1)

  -- after the last, a program that is over gave up what it had
  pub runs_by : (place : Option ℕ) (n : ℕ) (before : Seat) (s : Shared) (mid : Seat) (between : Shared) (after : Seat) (left : Shared) (ended : Step)
      (noted : Remark) → is_live before.registers.state ≡ true → HasBatch of_seat place Tries n before s mid between ended noted
      → both_of after left ≡ settled (both_of mid between) → HasBatch of_seat place Runs n before s after left ended noted
  runs_by place n before s mid between after left ended noted live batch is =
      record {
        mid = batch.mid;
        between = batch.between;
        earlier = (runs_on place n before s batch.mid batch.between live batch.earlier).0;
        last = run_by reach held m batch.mid batch.between mid between after left ended noted batch.last is;
      }

  -- and where there was no memory for it, the program goes on
  pub runs_still : (place : Option ℕ) (n : ℕ) (before : Seat) (s : Shared) (mid : Seat) (between : Shared) (after : Seat) (left : Shared)
      → is_live before.registers.state ≡ true → AreQuiet (Passes of_seat place Tries) n before s mid between
      → both_of after left ≡ settled (both_of mid between) → AreQuiet (Passes of_seat place Runs) n before s after left
  runs_still place n before s mid between after left live quiet is =
      let until = runs_on place n before s mid between live quiet in
      let same : both_of after left ≡ both_of mid between = is ∙ sym (settled_on (both_of mid between) until.1) in
      subst (λ (b : Both). AreQuiet (Passes of_seat place Runs) n before s b.seat b.shared) (sym same) until.0

  -- a program that was obeyed is live, if it was
  pub live_on : (before : Seat) (s : Shared) (after : Seat) (left : Shared) (noted : Remark) → is_live before.registers.state ≡ true
      → Runs before s after left step.Done noted → is_live after.registers.state ≡ true
  live_on before s after left noted live ran =
      let q : Part = part_in before reach in
      let o : Outcome = outcome_over before reach (told before held m) s in
      let on : is_live o.registers.state ≡ true = ap is_live (goes_on (view q (told before held m) s) before.registers (sym ran.step)).state ∙ live in
      ap (λ (b : Both). is_live b.seat.registers.state) (ran.both ∙ sym (settled_on (both_after q s o) on)) ∙ on

-- what is tried over a turn is tried over one of the same program
pub tried_over : (t u : MachinePort) → SameProgram t u → (before : Seat) (s : Shared) (after : Seat) (left : Shared) (ended : Step) (noted : Remark)
    → HasTried (reach_in u) (held_in u) u.moment before s after left ended noted → HasTried (reach_in t) (held_in t) t.moment before s after left ended noted
tried_over t u same before s after left ended noted tried =
    subst (λ J. HasTried (reach_in t) (held_by J) t.moment before s after left ended noted) same.same.journal
    (subst (λ m. HasTried (reach_in t) (held_in u) m before s after left ended noted) same.same.moment
    (subst (λ r. HasTried r (held_in u) u.moment before s after left ended noted) same.reach tried))

-- an order of which nothing is noted leaves who has the devices of the pool
pub still_held : (reaches : List Reach) (held : ℕ → Option ℕ) (m : Moment) (i : ℕ) (before : List Seat) (s : Shared) (after : List Seat) (left : Shared)
    → HasTurned reaches m i before s after left step.Done note.Quiet → AreHeld held reaches before → AreHeld held reaches after
still_held reaches held m i before s after left turn lent j d lt pooled =
    turn.holders d ∙ lent j d (let count = turn.count in omega arith) pooled

-- program i of all
module _ (reaches : List Reach) (held : ℕ → Option ℕ) (m : Moment) (i : ℕ) (place : Option ℕ) where
  abbrev Turns : List Seat → Shared → List Seat → Shared → Step → Remark → Type 0
  Turns = HasTurnedOn reaches m i

  abbrev Goes : Seat → Shared → Seat → Shared → Step → Remark → Type 0
  Goes = HasRun (reach_at reaches i) held m

  pub turn_on : (seats : List Seat) (s : Shared) (new : Seat) (left : Shared) (ended : Step) (noted : Remark) → IsRunning reaches seats s
      → AreHeld held reaches seats → i < length seats → is_live (seat_at seats i).registers.state ≡ true → Goes (seat_at seats i) s new left ended noted
      → Turns seats s (set seats i new) left ended noted
  turn_on seats s new left ended noted run lent lt live ran = (
    turned reaches seats m s i run lt live held lent new left ended noted ran,
    turned_running reaches seats m s i run lt live held lent new left ended noted
        ran,
  )

  -- after one that goes on, from where it is
  turn_then : (seats : List Seat) (s : Shared) (mid : Seat) (between : Shared) (new : Seat) (left : Shared) (ended : Step) (noted : Remark) → i < length seats
      → IsRunning reaches (set seats i mid) between → AreHeld held reaches (set seats i mid) → is_live mid.registers.state ≡ true
      → Goes mid between new left ended noted → Turns (set seats i mid) between (set seats i new) left ended noted
  turn_then seats s mid between new left ended noted lt run lent live ran =
      let at : seat_at (set seats i mid) i ≡ mid = get_or-set_same seats i mid no_seat lt in
      subst (λ xs. Turns (set seats i mid) between xs left ended noted) (set-set seats i mid new)
      (turn_on (set seats i mid) between new left ended noted run lent (omega (arith, length-set seats i mid))
      (ap (λ (x : Seat). is_live x.registers.state) at ∙ live)
      (subst (λ x. Goes x between new left ended noted) (sym at) ran))

  -- and it isn't at a place, if it wasn't by itself
  past_in : (seats : List Seat) (new : Seat) → i < length seats → is_at place new.registers ≡ false → is_at place (of_seats i (set seats i new)) ≡ false
  past_in seats new lt past = ap (λ (x : Seat). is_at place x.registers) (get_or-set_same seats i new no_seat lt) ∙ past

  pub turns_on : (n : ℕ) (seats : List Seat) (s : Shared) (new : Seat) (left : Shared) → IsRunning reaches seats s → AreHeld held reaches seats
      → i < length seats → is_live (seat_at seats i).registers.state ≡ true → AreQuiet (Passes of_seat place Goes) n (seat_at seats i) s new left
      → AreQuiet (Passes (of_seats i) place Turns) n seats s (set seats i new) left × IsRunning reaches (set seats i new) left
      × AreHeld held reaches (set seats i new) × (is_live new.registers.state ≡ true)
  turns_on zero seats s new left run lent lt live same =
      let still : set seats i new ≡ seats = ap (set seats i) same.0 ∙ set-get_or seats i no_seat in (
        (still, same.1),
        subst (IsRunning reaches (set seats i new)) (sym same.1) (subst (λ xs. IsRunning reaches xs s) (sym still) run),
        subst (AreHeld held reaches) (sym still) lent,
        ap (λ (x : Seat). is_live x.registers.state) same.0 ∙ live,
      )
  turns_on (suc n) seats s new left run lent lt live (mid, between, earlier, last) =
      let until = turns_on n seats s mid between run lent lt live earlier in
      let then = turn_then seats s mid between new left step.Done note.Quiet lt until.1 until.2 until.3 last.0 in (
        (set seats i mid, between, until.0, (then, past_in seats new lt last.1)),
        then.1,
        still_held reaches held m i (set seats i mid) between (set seats i new) left then.0 until.2,
        live_on (reach_at reaches i) held m mid between new left note.Quiet until.3 last.0,
      )

  pub turns_by : (n : ℕ) (seats : List Seat) (s : Shared) (new : Seat) (left : Shared) (ended : Step) (noted : Remark) → IsRunning reaches seats s
      → AreHeld held reaches seats → i < length seats → is_live (seat_at seats i).registers.state ≡ true
      → HasBatch of_seat place Goes n (seat_at seats i) s new left ended noted → HasBatch (of_seats i) place Turns n seats s (set seats i new) left ended noted
  turns_by n seats s new left ended noted run lent lt live batch =
      let until = turns_on n seats s batch.mid batch.between run lent lt live batch.earlier in
      record {
        mid = set seats i batch.mid;
        between = batch.between;
        earlier = until.0;
        last = turn_then seats s batch.mid batch.between new left ended noted lt until.1 until.2 until.3 batch.last;
      }

-- ---- what holds of each that is tried
module _ {X : Type 0} (P Q : X → Shared → X → Shared → Step → Remark → Type 0) where
  -- each of one kind is one of the other
  pub quiet_map : ((b : X) (s : Shared) (a : X) (l : Shared) → P b s a l step.Done note.Quiet → Q b s a l step.Done note.Quiet)
      → (n : ℕ) (before : X) (s : Shared) (after : X) (left : Shared) → AreQuiet P n before s after left → AreQuiet Q n before s after left
  quiet_map f zero before s after left same = same
  quiet_map f (suc n) before s after left (mid, between, earlier, last) =
      (mid, between, quiet_map f n before s mid between earlier, f mid between after left last)

-- the programs are over what they share as before
pub still_running : (reaches : List Reach) (m : Moment) (i : ℕ) (place : Option ℕ) (n : ℕ) (seats : List Seat) (s : Shared) (seats' : List Seat) (s' : Shared)
    → IsRunning reaches seats s → AreQuiet (Passes (of_seats i) place (HasTurnedOn reaches m i)) n seats s seats' s' → IsRunning reaches seats' s'
still_running reaches m i place zero seats s seats' s' run same =
    subst (IsRunning reaches seats') (sym same.1) (subst (λ xs. IsRunning reaches xs s) (sym same.0) run)
still_running reaches m i place (suc n) seats s seats' s' run (mid, between, earlier, last) = last.0.1

-- ---- what was heard of the service
module _ (answers : ℕ → ℕ → Type 0) (reaches : List Reach) (time i : ℕ) (place : Option ℕ) where
  abbrev Told : List Seat → Shared → List Seat → Shared → Step → Remark → Type 0
  Told = HasTriedOn answers reaches time i

  abbrev Turned : ℕ → List Seat → Shared → List Seat → Shared → Step → Remark → Type 0
  Turned h = HasTurnedOn reaches (moment time h) i

  -- a program that isn't served asks nothing
  unserved : (reach_at reaches i).served ≡ false → (h : ℕ) → h ≡ 0 → (b : List Seat) (s : Shared) (a : List Seat) (l : Shared) (ended : Step) (noted : Remark)
      → Turned h b s a l ended noted → Told b s a l ended noted
  unserved not_served h none b s a l ended noted turn = (
    record {
      heard = None;
      asked = has_none answers (word_over (seat_at b i) (reach_at reaches i) s) (none_served (seat_at b i) (reach_at reaches i) s not_served);
      turned = subst (λ k. HasTurned reaches (moment time k) i b s a l ended noted) none turn.0;
    },
    turn.1,
  )

  -- so nothing was heard for it
  none_then : (x : Seat) (s : Shared) (heard : Option ℕ) → (reach_at reaches i).served ≡ false → HasAsked answers (word_over x (reach_at reaches i) s) heard
      → unwrap_or heard 0 ≡ 0
  none_then x s None not_served asked = refl
  none_then x s (Some a) not_served asked =
      absurd (subst (λ o. HasAsked answers o (Some a)) (none_served x (reach_at reaches i) s not_served) asked)

  -- one that is served tried one order
  module _ (heard : Option ℕ) (h : ℕ) (is : h ≡ unwrap_or heard 0) (before : List Seat) (s : Shared)
      (asked : HasAsked answers (word_over (seat_at before i) (reach_at reaches i) s) heard) where
    one : (a : List Seat) (l : Shared) (ended : Step) (noted : Remark) (mid : List Seat) (between : Shared) → mid ≡ before → between ≡ s
        → Turned h mid between a l ended noted → HasBatch (of_seats i) place Told 0 before s a l ended noted
    one a l ended noted mid between same same' turn =
        let here : Turned h before s a l ended noted = subst (λ y. Turned h before y a l ended noted) same'
        (subst (λ x. Turned h x between a l ended noted) same turn) in
        record {
          mid = before;
          between = s;
          earlier = (refl, refl);
          last = (
            record { heard = heard; asked = asked; turned = subst (λ k. HasTurned reaches (moment time k) i before s a l ended noted) is here.0 },
            here.1,
          );
        }

    pub told_by : (served : Bool) → (reach_at reaches i).served ≡ served → (n : ℕ) → (served ≡ true → n ≡ 0)
        → (a : List Seat) (l : Shared) (ended : Step) (noted : Remark) → HasBatch (of_seats i) place (Turned h) n before s a l ended noted
        → HasBatch (of_seats i) place Told n before s a l ended noted
    told_by false not_served n few a l ended noted batch =
        let none : h ≡ 0 = is ∙ none_then (seat_at before i) s heard not_served asked in
        record {
          mid = batch.mid;
          between = batch.between;
          earlier =
              quiet_map (Passes (of_seats i) place (Turned h)) (Passes (of_seats i) place Told)
              (λ b x c y turn. (unserved not_served h none b x c y step.Done note.Quiet turn.0, turn.1)) n before s batch.mid batch.between batch.earlier;
          last = unserved not_served h none batch.mid batch.between a l ended noted batch.last;
        }
    told_by true is_served n few a l ended noted batch =
        let alone : HasBatch (of_seats i) place (Turned h) 0 before s a l ended noted =
        subst (λ k. HasBatch (of_seats i) place (Turned h) k before s a l ended noted) (few refl) batch in
        subst (λ k. HasBatch (of_seats i) place Told k before s a l ended noted) (sym (few refl))
        (one a l ended noted alone.mid alone.between alone.earlier.0 alone.earlier.1 alone.last)

    pub told_still : (served : Bool) → (reach_at reaches i).served ≡ served → (n : ℕ) → (served ≡ true → n ≡ 0) → (a : List Seat) (l : Shared)
        → AreQuiet (Passes (of_seats i) place (Turned h)) n before s a l → AreQuiet (Passes (of_seats i) place Told) n before s a l
    told_still false not_served n few a l quiet =
        let none : h ≡ 0 = is ∙ none_then (seat_at before i) s heard not_served asked in
        quiet_map (Passes (of_seats i) place (Turned h)) (Passes (of_seats i) place Told)
        (λ b x c y turn. (unserved not_served h none b x c y step.Done note.Quiet turn.0, turn.1)) n before s a l quiet
    told_still true is_served n few a l quiet =
        subst (λ k. AreQuiet (Passes (of_seats i) place Told) k before s a l) (sym (few refl))
        (let same : AreQuiet (Passes (of_seats i) place (Turned h)) 0 before s a l =
        subst (λ k. AreQuiet (Passes (of_seats i) place (Turned h)) k before s a l) (few refl) quiet in same)
