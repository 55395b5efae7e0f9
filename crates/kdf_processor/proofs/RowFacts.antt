-- What is known of a row without looking at the table.
use Rattle.std.proofs.Common.{◌≡◌, ℕ, zero, suc, ◌+◌, ◌≤◌, List, length, get_or, Option, Some, None, Bool, true, false, refl, sym, ap, ◌∙◌, ⊎_elim, cond, arith}
use Rattle.std.proofs.lemmas.Bool.{cases_Bool, false≢true}
use Rattle.std.proofs.lemmas.List.{length-set}
use Rattle.kdf_transfer.specs.Devices.{Fixture, new_progress}
use Rattle.kdf_transfer.specs.declared.order.TransferOrder.{TransferOrder}
use Rattle.kdf_processor.specs.declared.registers.Life.{Life}
use Rattle.kdf_processor.specs.declared.registers.Life.TheVariants.{Ended, Failed}
use Rattle.kdf_processor.specs.declared.step.Step.{Step}
use Rattle.kdf_processor.specs.declared.step.Step.TheVariants.{Done, Held, Fails, Ends}
use Rattle.kdf_processor.specs.State.{State, Claims, Stock, device_in, fixture_at}
use Rattle.kdf_processor.specs.Effect.{Act, Asks, Question, FreeOf, Effect, Failing, Ending, Keeping, Starting, Asking, Returning}
use Rattle.kdf_processor.specs.Needs.{next_effect}
use Rattle.kdf_processor.specs.Row.{answered, released, transferred, perform, done_by, next_of, row}
use Rattle.kdf_processor.specs.Lone.{is_live, lone_step, lone}
use Rattle.kdf_processor.proofs.AreaLemmas.{length-stored}

ran_perform : (answer : Question → ℕ) (e : Effect) (s : State) → (perform answer e s).registers.ran ≡ s.registers.ran + 1
ran_perform answer (Failing kind) s = refl
ran_perform answer e s = refl

-- a row is one order more
pub ran_row : (answer : Question → ℕ) (s : State) → (row s answer).registers.ran ≡ s.registers.ran + 1
ran_row answer s = ran_perform answer (next_effect s) s

-- a transfer leaves the claims, the answers that were taken, and how many words and devices there are
pub transferred_asked : (d : ℕ) (o : TransferOrder) (first last : ℕ) (f : Option Fixture) (k : Stock) → (transferred d o first last f k).asked ≡ k.asked
transferred_asked d o first last None k = refl
transferred_asked d o first last (Some f) k = refl

transferred_claims : (d : ℕ) (o : TransferOrder) (first last : ℕ) (f : Option Fixture) (k : Stock) → (transferred d o first last f k).claims ≡ k.claims
transferred_claims d o first last None k = refl
transferred_claims d o first last (Some f) k = refl

transferred_store : (d : ℕ) (o : TransferOrder) (first last : ℕ) (f : Option Fixture) (k : Stock)
    → length (transferred d o first last f k).store ≡ length k.store
transferred_store d o first last None k = refl
transferred_store d o first last (Some f) k = length-stored o first last f (device_in k d) k.store

transferred_devices : (d : ℕ) (o : TransferOrder) (first last : ℕ) (f : Option Fixture) (k : Stock)
    → length (transferred d o first last f k).devices ≡ length k.devices
transferred_devices d o first last None k = refl
transferred_devices d o first last (Some f) k = length-set k.devices d _

-- so does an answer, but that it was taken, and a device that is given back
pub answered_asked : (question : Question) (a : ℕ) (k : Stock) → (answered question a k).asked ≡ k.asked + 1
answered_asked (FreeOf kind) a k = refl
answered_asked question a k = refl

answered_size : (question : Question) (a : ℕ) (k : Stock) → (answered question a k).claims.size ≡ k.claims.size
answered_size (FreeOf kind) a k = refl
answered_size question a k = refl

answered_store : (question : Question) (a : ℕ) (k : Stock) → length (answered question a k).store ≡ length k.store
answered_store (FreeOf kind) a k = refl
answered_store question a k = refl

answered_devices : (question : Question) (a : ℕ) (k : Stock) → length (answered question a k).devices ≡ length k.devices
answered_devices (FreeOf kind) a k = refl
answered_devices question a k = refl

pub released_asked : (pooled : Bool) (d : ℕ) (k : Stock) → (released pooled d k).asked ≡ k.asked
released_asked true d k = refl
released_asked false d k = refl

released_size : (pooled : Bool) (d : ℕ) (k : Stock) → (released pooled d k).claims.size ≡ k.claims.size
released_size true d k = refl
released_size false d k = refl

released_store : (pooled : Bool) (d : ℕ) (k : Stock) → length (released pooled d k).store ≡ length k.store
released_store true d k = refl
released_store false d k = refl

released_devices : (pooled : Bool) (d : ℕ) (k : Stock) → length (released pooled d k).devices ≡ length k.devices
released_devices true d k = length-set k.devices d new_progress
released_devices false d k = refl

-- how many answers an act takes
abbrev pub asks : Act → ℕ
asks (Asks question answer) = 1
asks act = 0

asked_perform : (answer : Question → ℕ) (e : Effect) (s : State) → (perform answer e s).stock.asked ≡ s.stock.asked + asks (done_by answer e s).act
asked_perform answer (Asking question after) s = answered_asked question (answer question) s.stock
asked_perform answer (Returning pooled d after) s = released_asked pooled d s.stock ∙ omega arith
asked_perform answer (Starting d o first last after) s = transferred_asked d o first last (fixture_at s.stock.claims d) s.stock ∙ omega arith
asked_perform answer e s = omega arith

-- a row takes one answer where its act is an ask, and else none
pub asked_row : (answer : Question → ℕ) (s : State) → (row s answer).stock.asked ≡ s.stock.asked + asks (next_of s answer).act
asked_row answer s = asked_perform answer (next_effect s) s

asks_few : (act : Act) → asks act ≤ 1
asks_few (Asks question answer) = omega arith
asks_few act = omega arith

-- and so one at most
pub asked_most : (answer : Question → ℕ) (s : State) → (row s answer).stock.asked ≤ s.stock.asked + 1
asked_most answer s = omega (arith, asked_row answer s, asks_few (next_of s answer).act)

size_perform : (answer : Question → ℕ) (e : Effect) (s : State) → (perform answer e s).stock.claims.size ≡ s.stock.claims.size
size_perform answer (Failing kind) s = refl
size_perform answer (Starting d o first last after) s = ap (λ (c : Claims). c.size) (transferred_claims d o first last (fixture_at s.stock.claims d) s.stock)
size_perform answer (Asking question after) s = answered_size question (answer question) s.stock
size_perform answer (Returning pooled d after) s = released_size pooled d s.stock
size_perform answer e s = refl

-- the size of the store is what it was
pub size_row : (answer : Question → ℕ) (s : State) → (row s answer).stock.claims.size ≡ s.stock.claims.size
size_row answer s = size_perform answer (next_effect s) s

store_perform : (answer : Question → ℕ) (e : Effect) (s : State) → length (perform answer e s).stock.store ≡ length s.stock.store
store_perform answer (Keeping address w after) s = length-set s.stock.store address _
store_perform answer (Starting d o first last after) s = transferred_store d o first last (fixture_at s.stock.claims d) s.stock
store_perform answer (Asking question after) s = answered_store question (answer question) s.stock
store_perform answer (Returning pooled d after) s = released_store pooled d s.stock
store_perform answer e s = refl

-- and so is the number of its words
pub store_row : (answer : Question → ℕ) (s : State) → length (row s answer).stock.store ≡ length s.stock.store
store_row answer s = store_perform answer (next_effect s) s

devices_perform : (answer : Question → ℕ) (e : Effect) (s : State) → length (perform answer e s).stock.devices ≡ length s.stock.devices
devices_perform answer (Starting d o first last after) s = transferred_devices d o first last (fixture_at s.stock.claims d) s.stock
devices_perform answer (Asking question after) s = answered_devices question (answer question) s.stock
devices_perform answer (Returning pooled d after) s = released_devices pooled d s.stock
devices_perform answer e s = refl

-- the life after an order that went so
abbrev pub life_after : Step → Life → Life
life_after Done before = before
life_after (Held need) before = before
life_after (Fails kind) before = Failed kind
life_after Ends before = Ended

life_perform : (answer : Question → ℕ) (e : Effect) (s : State) → (perform answer e s).registers.state ≡ life_after (done_by answer e s).step s.registers.state
life_perform answer (Failing kind) s = refl
life_perform answer (Ending after) s = refl
life_perform answer e s = refl

-- how an order ends tells the life after it
pub life_row : (answer : Question → ℕ) (s : State) → (row s answer).registers.state ≡ life_after (next_of s answer).step s.registers.state
life_row answer s = life_perform answer (next_effect s) s

-- the answer that a lone run gives next
abbrev pub next_answer : List ℕ → State → Question → ℕ
next_answer answers s question = get_or answers s.stock.asked 0

-- a step of a lone run
step_stores : (answers : List ℕ) (s : State) → length (lone_step answers s).stock.store ≡ length s.stock.store
step_stores answers s =
    ⊎_elim
    (λ (live : is_live s.registers.state ≡ true). rw live (store_row (next_answer answers s) s))
    (λ (over : is_live s.registers.state ≡ false). rw over refl)
    (cases_Bool (is_live s.registers.state))

-- a lone run keeps the number of words
pub store_lone : (start : State) (answers : List ℕ) (n : ℕ) → length (lone start answers n).stock.store ≡ length start.stock.store
store_lone start answers zero = refl
store_lone start answers (suc n) = step_stores answers (lone start answers n) ∙ store_lone start answers n

step_sizes : (answers : List ℕ) (s : State) → (lone_step answers s).stock.claims.size ≡ s.stock.claims.size
step_sizes answers s =
    ⊎_elim
    (λ (live : is_live s.registers.state ≡ true). rw live (size_row (next_answer answers s) s))
    (λ (over : is_live s.registers.state ≡ false). rw over refl)
    (cases_Bool (is_live s.registers.state))

-- and the size
pub size_lone : (start : State) (answers : List ℕ) (n : ℕ) → (lone start answers n).stock.claims.size ≡ start.stock.claims.size
size_lone start answers zero = refl
size_lone start answers (suc n) = step_sizes answers (lone start answers n) ∙ size_lone start answers n

answered_pool : (question : Question) (a : ℕ) (k : Stock) → (answered question a k).claims.pool ≡ k.claims.pool
answered_pool (FreeOf kind) a k = refl
answered_pool question a k = refl

released_pool : (pooled : Bool) (d : ℕ) (k : Stock) → (released pooled d k).claims.pool ≡ k.claims.pool
released_pool true d k = refl
released_pool false d k = refl

pool_perform : (answer : Question → ℕ) (e : Effect) (s : State) → (perform answer e s).stock.claims.pool ≡ s.stock.claims.pool
pool_perform answer (Starting d o first last after) s = ap (λ (c : Claims). c.pool) (transferred_claims d o first last (fixture_at s.stock.claims d) s.stock)
pool_perform answer (Asking question after) s = answered_pool question (answer question) s.stock
pool_perform answer (Returning pooled d after) s = released_pool pooled d s.stock
pool_perform answer e s = refl

step_pools : (answers : List ℕ) (s : State) → (lone_step answers s).stock.claims.pool ≡ s.stock.claims.pool
step_pools answers s =
    ⊎_elim
    (λ (live : is_live s.registers.state ≡ true). rw live (pool_perform (next_answer answers s) (next_effect s) s))
    (λ (over : is_live s.registers.state ≡ false). rw over refl)
    (cases_Bool (is_live s.registers.state))

-- and the pool
pub pool_lone : (start : State) (answers : List ℕ) (n : ℕ) → (lone start answers n).stock.claims.pool ≡ start.stock.claims.pool
pool_lone start answers zero = refl
pool_lone start answers (suc n) = step_pools answers (lone start answers n) ∙ pool_lone start answers n

step_counts : (answers : List ℕ) (s : State) → (s.registers.ran ≤ (lone_step answers s).registers.ran)
    × ((lone_step answers s).registers.ran ≤ s.registers.ran + 1) × ((lone_step answers s).stock.asked ≤ s.stock.asked + 1)
step_counts answers s =
    ⊎_elim
    (λ (live : is_live s.registers.state ≡ true).
    rw live (omega (arith, ran_row (next_answer answers s) s), omega (arith, ran_row (next_answer answers s) s), asked_most (next_answer answers s) s))
    (λ (over : is_live s.registers.state ≡ false). rw over (omega arith, omega arith, omega arith))
    (cases_Bool (is_live s.registers.state))

-- a lone run of n orders counts n at most, and takes n answers at most
pub counts_lone : (start : State) (answers : List ℕ) (n : ℕ) → ((lone start answers n).registers.ran ≤ start.registers.ran + n)
    × ((lone start answers n).stock.asked ≤ start.stock.asked + n)
counts_lone start answers zero = (omega arith, omega arith)
counts_lone start answers (suc n) =
    let before = counts_lone start answers n in
    let step = step_counts answers (lone start answers n) in
    (omega (arith, before.0, step.1), omega (arith, before.1, step.2))

-- a program that isn't live stays as it is
pub over_step : (answers : List ℕ) (s : State) → is_live s.registers.state ≡ false → lone_step answers s ≡ s
over_step answers s over = ap (λ b. cond b (row s (next_answer answers s)) s) over

-- one that is live does its next row
pub live_step : (answers : List ℕ) (s : State) → is_live s.registers.state ≡ true → lone_step answers s ≡ row s (next_answer answers s)
live_step answers s live = ap (λ b. cond b (row s (next_answer answers s)) s) live

-- a program that is live after n orders was live before each, and has counted n
pub ran_live : (start : State) (answers : List ℕ) (n : ℕ) → is_live (lone start answers n).registers.state ≡ true
    → (lone start answers n).registers.ran ≡ start.registers.ran + n
ran_live start answers zero live = omega arith
ran_live start answers (suc n) live =
    let s = lone start answers n in
    ⊎_elim
    (λ (before : is_live s.registers.state ≡ true).
    let step = live_step answers s before in
    let counted = ap (λ (t : State). t.registers.ran) step ∙ ran_row (next_answer answers s) s in
    omega (arith, counted, ran_live start answers n before))
    (λ (over : is_live s.registers.state ≡ false).
    absurd (false≢true (sym over ∙ ap (λ (t : State). is_live t.registers.state) (sym (over_step answers s over)) ∙ live)))
    (cases_Bool (is_live s.registers.state))

answered_served : (question : Question) (a : ℕ) (k : Stock) → (answered question a k).claims.served ≡ k.claims.served
answered_served (FreeOf kind) a k = refl
answered_served question a k = refl

released_served : (pooled : Bool) (d : ℕ) (k : Stock) → (released pooled d k).claims.served ≡ k.claims.served
released_served true d k = refl
released_served false d k = refl

served_perform : (answer : Question → ℕ) (e : Effect) (s : State) → (perform answer e s).stock.claims.served ≡ s.stock.claims.served
served_perform answer (Starting d o first last after) s =
    ap (λ (c : Claims). c.served) (transferred_claims d o first last (fixture_at s.stock.claims d) s.stock)
served_perform answer (Asking question after) s = answered_served question (answer question) s.stock
served_perform answer (Returning pooled d after) s = released_served pooled d s.stock
served_perform answer e s = refl

step_served : (answers : List ℕ) (s : State) → (lone_step answers s).stock.claims.served ≡ s.stock.claims.served
step_served answers s =
    ⊎_elim
    (λ (live : is_live s.registers.state ≡ true). rw live (served_perform (next_answer answers s) (next_effect s) s))
    (λ (over : is_live s.registers.state ≡ false). rw over refl)
    (cases_Bool (is_live s.registers.state))

-- and whether it is served
pub served_lone : (start : State) (answers : List ℕ) (n : ℕ) → (lone start answers n).stock.claims.served ≡ start.stock.claims.served
served_lone start answers zero = refl
served_lone start answers (suc n) = step_served answers (lone start answers n) ∙ served_lone start answers n
