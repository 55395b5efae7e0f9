-- A program that was loaded from a slot is one of that slot.
use Rattle.std.proofs.Common.{◌≡◌, ℕ, zero, suc, ◌+◌, ◌<◌, ◌==◌, ◌||◌, Bool, true, false, cond, List, [], ◌∷◌, Option, Some, None, is_some, ⊎_elim, refl, sym}
use Rattle.std.proofs.Common.{subst, ◌∙◌, ap, arith}
use Rattle.std.specs.List.{filter, list_any, range_with_len}
use Rattle.std.specs.Prelude.{slice_index_or}
use Rattle.std.proofs.lemmas.Bool.{cases_Bool}
use Rattle.kdf_transfer.specs.Devices.{Fixture}
use Rattle.kdf_transfer.proofs.Numbers.{limit_is, number_at}
use Rattle.kdf_transfer.specs.declared.order.TransferOrder.{TransferOrder}
use Rattle.kdf_processor.specs.Effect.{Question, FreeOf, Effect, Starting, Asking, Returning}
use Rattle.kdf_processor.specs.Lone.{is_live, lone_step, lone}
use Rattle.kdf_processor.specs.Needs.{next_effect}
use Rattle.kdf_processor.specs.Row.{transferred, perform}
use Rattle.kdf_processor.specs.State.{Claims, State, Stock, begin, device_limit, fixture_at, own_fixture_at}
use Rattle.kdf_processor.proofs.RowFacts.{next_answer}
use Rattle.kdf_job.specs.Job.{JobDevice, ShownSlot}
use Rattle.kdf_job.specs.Slots.{fixture_on, numbered, slot_of}
use Rattle.kdf_job.specs.WellFormed.{IsSlot}
use Rattle.kdf_report.specs.Devices.{device_numbers, has_device}
use Rattle.kdf_report.specs.MadeFrom.{IsProgramOf, own_numbers}

-- ---- no order changes the size or which devices there are

pub record Same (s t : State) : Type 0 where
  pub size : s.stock.claims.size ≡ t.stock.claims.size
  pub fixtures : s.stock.claims.fixtures ≡ t.stock.claims.fixtures

same_moved : (d : ℕ) (o : TransferOrder) (first last : ℕ) (f : Option Fixture) (k : Stock) → (transferred d o first last f k).claims ≡ k.claims
same_moved d o first last None k = refl
same_moved d o first last (Some f) k = refl

same_perform : (answer : Question → ℕ) (e : Effect) (s : State) → Same (perform answer e s) s
same_perform answer (Starting d o first last after) s =
    let same = same_moved d o first last (fixture_at s.stock.claims d) s.stock in
    record { size = ap (λ (c : Claims). c.size) same; fixtures = ap (λ (c : Claims). c.fixtures) same }
same_perform answer (Asking (FreeOf kind) after) s = record { size = refl; fixtures = refl }
same_perform answer (Returning true d after) s = record { size = refl; fixtures = refl }
same_perform answer (Returning false d after) s = record { size = refl; fixtures = refl }
same_perform answer e s = record { size = refl; fixtures = refl }

same_step : (answers : List ℕ) (s : State) → Same (lone_step answers s) s
same_step answers s =
    ⊎_elim
    (λ (live : is_live s.registers.state ≡ true). rw live (same_perform (next_answer answers s) (next_effect s) s))
    (λ (over : is_live s.registers.state ≡ false). rw over (let same : Same s s = record { size = refl; fixtures = refl } in same))
    (cases_Bool (is_live s.registers.state))

pub same_lone : (start : State) (answers : List ℕ) (n : ℕ) → Same (lone start answers n) start
same_lone start answers zero = record { size = refl; fixtures = refl }
same_lone start answers (suc n) =
    let step = same_step answers (lone start answers n) in
    let before = same_lone start answers n in
    record { size = step.size ∙ before.size; fixtures = step.fixtures ∙ before.fixtures }

-- ---- the devices at the start are those of the slot

pub filter_same : (p q : ℕ → Bool) (a n : ℕ) → ((k : ℕ) → k < a + n → p k ≡ q k) → filter p (range_with_len a n) ≡ filter q (range_with_len a n)
filter_same p q a zero same = refl
filter_same p q a (suc n) same =
    let first : p a ≡ q a = same a (omega arith) in
    let others = filter_same p q (a + 1) n (λ k h. same k (omega arith)) in
    cc

some_found : (b : Bool) (x : JobDevice) (o : Option JobDevice) → is_some (fixture_on (cond b (Some x) o)) ≡ (b || is_some (fixture_on o))
some_found true x o = refl
some_found false x o = refl

found_there : (devices : List JobDevice) (d : ℕ) → is_some (fixture_on (numbered devices d)) ≡ list_any (λ (x : JobDevice). x.d == d) devices
found_there [] d = refl
found_there (x ∷ devices) d = some_found (x.d == d) x (numbered devices d) ∙ ap (λ b. x.d == d || b) (found_there devices d)

own_at_start : (slot : ShownSlot) (words : List ℕ) → own_numbers (begin (slot_of slot words)) ≡ device_numbers slot
unfolding own_numbers device_numbers
own_at_start slot words =
    filter_same (λ d. is_some (own_fixture_at (begin (slot_of slot words)).stock.claims d)) (has_device slot) 0 device_limit
    (λ k h. ap is_some (number_at (λ d. fixture_on (numbered slot.devices d)) k None (let e = limit_is in omega arith)) ∙ found_there slot.devices k)

pub own_same : (s t : State) → s.stock.claims.fixtures ≡ t.stock.claims.fixtures → own_numbers s ≡ own_numbers t
unfolding own_numbers
own_same s t fixtures =
    ap (λ (fs : List (Option Fixture)). filter (λ d. is_some (slice_index_or fs d None)) (range_with_len 0 device_limit)) fixtures

pub program_of : (slot : ShownSlot) (words answers : List ℕ) (n : ℕ) → IsSlot slot → IsProgramOf slot (lone (begin (slot_of slot words)) answers n)
program_of slot words answers n is =
    let same = same_lone (begin (slot_of slot words)) answers n in
    record {
      size = same.size;
      shows = λ k d h. (is.shows k d h).1;
      devices = own_same (lone (begin (slot_of slot words)) answers n) (begin (slot_of slot words)) same.fixtures ∙ own_at_start slot words;
    }

-- and so is what it comes to, step by step
pub ran_from : (slot : ShownSlot) (words answers : List ℕ) (n : ℕ) (t s : State) → IsSlot slot → t ≡ begin (slot_of slot words) → s ≡ lone t answers n
    → IsProgramOf slot s
ran_from slot words answers n t s is at_start after =
    subst (IsProgramOf slot) (sym (after ∙ ap (λ (x : State). lone x answers n) at_start)) (program_of slot words answers n is)
