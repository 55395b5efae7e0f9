-- The program whose turn it is obeys orders, of each of which the journal tells that and no more, and tries one more.
use Rattle.std.proofs.Common.{◌≡◌, ◌≢◌, ◌+◌, ◌<◌, ℕ, zero, suc, Bool, true, false, not, List, get_or, Option, Some, None}
use Rattle.std.proofs.Common.{is_some, refl, sym, ap, ap₂, ◌∙◌, subst, arith}
use Rattle.std.proofs.lemmas.Bool.{and_from}
use Rattle.std.proofs.lemmas.List.Folds.{list_any_at}
use Rattle.kdf_journal.specs.declared.entry.Entry.{Entry}
use Rattle.kdf_journal.specs.Counts.{last_hold, over, ran, slot_numbers}
use Rattle.kdf_journal.specs.Counts as counts
use Rattle.kdf_transfer.specs.Slots.{Slot}
use Rattle.kdf_processor.specs.declared.registers.Registers.{Registers}
use Rattle.kdf_processor.specs.declared.step.Step.{Step}
use Rattle.kdf_processor.specs.declared.step.Step.TheVariants.{Done}
use Rattle.kdf_processor.proofs.RowFacts.{served_lone}
use Rattle.kdf_alone.specs.declared.lone_port.LonePort.{LonePort}
use Rattle.kdf_alone.specs.LonePort.{state_with}
use Rattle.kdf_theory.specs.Legal.{IsLegal, IsTrue}
use Rattle.kdf_course.specs.World as course
use Rattle.kdf_theory.specs.Next.{any_live, next, there_in}
use Rattle.kdf_theory.specs.World.{World, first_need, hold_left}
use Rattle.kdf_theory.specs.Slots.{slot_of, start}
use Rattle.kdf_theory.specs.ByJournal.{lone_world, own}
use Rattle.kdf_theory.proofs.Course.StillNext.{still_next}
use Rattle.kdf_theory.proofs.Course.Worlds.{next_on, next_slot}
use Rattle.kdf_theory.proofs.Course.WorldsJudged.{legal_added, true_added}
use Rattle.kdf_theory.specs.Asked.{IsHeard}
use Rattle.kdf_theory.specs.InARow.{ran_on}
use Rattle.kdf_theory.proofs.Course.NextLives.{next_four}
use Rattle.kdf_theory.proofs.Course.OrdersInARow.{clock-ran_on, holder-ran_on}
use Rattle.kdf_theory.proofs.Course.HeardWords.{none_heard}
use Rattle.kdf_check.specs.Around.{Around, around_by}
use Rattle.kdf_check.specs.Batches.{AreQuiet, HasBatch, HasTried}
use Rattle.kdf_check.specs.declared.table.Pending.{Pending}
use Rattle.kdf_check.specs.declared.program.Program.{Program}
use Rattle.kdf_check.specs.Entered.{entered}
use Rattle.kdf_check.specs.Keeps.{GoesOnFor}
use Rattle.kdf_check.specs.Tracks.{Tells}
use Rattle.kdf_check.specs.Tried.{IsPosed}
use Rattle.kdf_check.specs.Turned.{AreTurned}
use Rattle.kdf_check.proofs.Tries.{tried_so}
use Rattle.kdf_check.proofs.Turning.{IsTurned, turned}

slot_at : (p : ℕ) → p < 4 → get_or slot_numbers p 0 ≡ p
slot_at zero lt = refl
slot_at (suc zero) lt = refl
slot_at (suc (suc zero)) lt = refl
slot_at (suc (suc (suc zero))) lt = refl
slot_at (suc (suc (suc (suc p)))) lt = absurd (omega arith)

-- where a program is next, one is live
next_live : (w : World) (slots : List Slot) (J : List Entry) (p : ℕ) → next w slots J ≡ Some p → any_live slots J ≡ true
unfolding course.any_live course.lives
next_live w slots J p turn =
    let lt = next_four w slots J p turn in
    list_any_at (course.lives (there_in slots) J) slot_numbers p 0 lt
    (ap (course.lives (there_in slots) J) (slot_at p lt)
    ∙ and_from (is_some (slot_of slots p)) (not (over p J)) (next_slot w slots J p turn) (next_on w slots J p turn))

-- whether a program is served stays
served_on : (slots : List Slot) (J K : List Entry) (p : ℕ) → (own slots K p).stock.claims.served ≡ (own slots J p).stock.claims.served
unfolding own
served_on slots J K p = served_lone (start slots p) (counts.answers p K) (ran p K) ∙ sym (served_lone (start slots p) (counts.answers p J) (ran p J))

module _ (answers : ℕ → ℕ → Type 0) (slots : List Slot) (J : List Entry) (p : ℕ) (table : List (Option Pending)) (heard : ℕ) (first : Registers)
    (bench : LonePort)
    (posed : IsPosed slots J p (around_by table J heard) first bench) (turn : next (lone_world slots J) slots J ≡ Some p) where
  abbrev around : Around
  around = around_by table J heard

  abbrev K : ℕ → List Entry
  K n = ran_on J p n

  -- what was heard answers what the order after n such ones asks the service
  abbrev Hears : ℕ → Type 0
  Hears n = first_need (lone_world slots (K n)) p ≡ None → IsHeard answers (own slots (K n) p) heard

  -- after n such orders it is next still
  record IsOn (n : ℕ) (r : Registers) (b : LonePort) : Type 0 where
    legal : IsLegal slots (K n)
    truly : IsTrue slots (K n)
    tells : Tells slots (K n) table
    own_is : state_with r b ≡ own slots (K n) p
    next_is : next (lone_world slots (K n)) slots (K n) ≡ Some p
    others : (q : ℕ) → p ≢ q → own slots (K n) q ≡ own slots J q
    other_holds : (q : ℕ) → p ≢ q → last_hold q (K n) ≡ last_hold q J
    goes_on : GoesOnFor answers slots n J (K n)

  on_first : (r : Registers) (b : LonePort) → r ≡ first → b ≡ bench → IsOn 0 r b
  on_first r b is is' = record {
    legal = posed.legal;
    truly = posed.truly;
    tells = posed.around_is.tells;
    own_is = ap₂ state_with is is' ∙ posed.own_is;
    next_is = turn;
    others = λ q ne. refl;
    other_holds = λ q ne. refl;
    goes_on = refl;
  }

  module _ (n : ℕ) (r : Registers) (b : LonePort) (on : IsOn n r b) where
    posed_on : IsPosed slots (K n) p around r b
    posed_on = record {
      are = posed.are;
      legal = on.legal;
      truly = on.truly;
      around_is = record { tells = on.tells; held = λ d lt. sym (holder-ran_on J p n d); time = sym (clock-ran_on J p n) };
      live = next_on (lone_world slots (K n)) slots (K n) p on.next_is;
      own_is = on.own_is;
    }

    -- one more is its turn
    turn_on : (x : Program) (left : List (Option Pending)) (ended : Step) (told : Option Entry) (L : List Entry) → Hears n
        → HasTried p around r b x.registers x.bench left ended told → x.p ≡ p → x.hold ≡ hold_left ended → L ≡ entered (K n) p ended told
        → IsTurned answers slots (K n) p x left L
    turn_on x left ended told L is_heard tried p_is hold_is entries =
        turned slots (K n) p around ended posed.are on.legal on.next_is on.tells answers is_heard x left told L
        (tried_so slots (K n) p around r x.registers b x.bench left ended told posed_on tried) p_is hold_is entries

    live_on : any_live slots (K n) ≡ true
    live_on = next_live (lone_world slots (K n)) slots (K n) p on.next_is

    -- and where it is quiet, it is next still
    more : (left : Registers) (k : LonePort) → Hears n → HasTried p around r b left k table Done None → IsOn (suc n) left k
    more left k is_heard tried =
        let x : Program = record { p = p; registers = left; bench = k; hold = None } in
        let t = turn_on x table Done None (K (suc n)) is_heard tried refl refl refl in
        let a = t.goes_on in
        record {
          legal = subst (IsLegal slots) (sym a.entered) (legal_added slots (K n) a.heard a.step on.legal a.meets);
          truly = subst (IsTrue slots) (sym a.entered) (true_added slots (K n) a.heard a.step on.legal on.truly a.meets);
          tells = t.tells;
          own_is = t.own_is;
          next_is = still_next slots (K n) p posed.are on.legal (own slots (K n)) (own slots (K (suc n))) on.next_is;
          others = λ q ne. t.others q ne ∙ on.others q ne;
          other_holds = λ q ne. t.other_holds q ne ∙ on.other_holds q ne;
          goes_on = (K n, on.goes_on, live_on, a);
        }

    -- the turn after them as a whole
    all_turned : (x : Program) (left : List (Option Pending)) (ended : Step) (told : Option Entry) (L : List Entry) → Hears n
        → HasTried p around r b x.registers x.bench left ended told → x.p ≡ p → x.hold ≡ hold_left ended → L ≡ entered (K n) p ended told
        → AreTurned answers slots (suc n) J p x left L
    all_turned x left ended told L is_heard tried p_is hold_is entries =
        let t = turn_on x left ended told L is_heard tried p_is hold_is entries in
        record {
          goes_on = (K n, on.goes_on, live_on, t.goes_on);
          number = t.number;
          own_is = t.own_is;
          hold_is = t.hold_is;
          others = λ q ne. t.others q ne ∙ on.others q ne;
          other_holds = λ q ne. t.other_holds q ne ∙ on.other_holds q ne;
          tells = t.tells;
        }

  -- a program that isn't served hears nothing, and asks nothing
  module _ (unserved : (own slots J p).stock.claims.served ≡ false) where
    heard_none : (n : ℕ) → Hears n
    heard_none n free = none_heard answers heard (own slots (K n) p) (served_on slots J (K n) p ∙ unserved)

    on_for : (n : ℕ) (r : Registers) (b : LonePort) → AreQuiet p around n first bench r b → IsOn n r b
    on_for zero r b same = on_first r b same.0 same.1
    on_for (suc n) r b quiet = more n quiet.0 quiet.1 (on_for n quiet.0 quiet.1 quiet.2) r b (heard_none n) quiet.3

  -- one that is served hears the service before each order
  pub batch_turned : (n : ℕ) (x : Program) (left : List (Option Pending)) (ended : Step) (told : Option Entry) (L : List Entry) → Hears 0 → (served : Bool)
      → (own slots J p).stock.claims.served ≡ served → (served ≡ true → n ≡ 0)
      → HasBatch p around n first bench x.registers x.bench left ended told → x.p ≡ p → x.hold ≡ hold_left ended → L ≡ entered (K n) p ended told
      → AreTurned answers slots (n + 1) J p x left L
  batch_turned n x left ended told L is_heard false is few batch p_is hold_is entries =
      let one : suc n ≡ n + 1 = omega arith in
      subst (λ (k : ℕ). AreTurned answers slots k J p x left L) one
      (all_turned n batch.mid batch.between (on_for is n batch.mid batch.between batch.earlier) x left ended told L (heard_none is n)
      batch.last p_is hold_is entries)
  batch_turned n x left ended told L is_heard true is few batch p_is hold_is entries =
      let none : n ≡ 0 = few refl in
      let alone : HasBatch p around 0 first bench x.registers x.bench left ended told =
      subst (λ (k : ℕ). HasBatch p around k first bench x.registers x.bench left ended told) none batch in
      let made : 1 ≡ n + 1 = omega arith in
      subst (λ (k : ℕ). AreTurned answers slots k J p x left L) made
      (all_turned 0 alone.mid alone.between (on_first alone.mid alone.between alone.earlier.0 alone.earlier.1) x left ended told L is_heard
      alone.last p_is hold_is
      (entries ∙ ap (λ (k : ℕ). entered (K k) p ended told) none))
