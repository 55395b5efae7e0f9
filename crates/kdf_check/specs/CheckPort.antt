-- What a check port shows, and what an acting call does to it. A check port is a program's lone port, and what stands around the program,
-- for one order.
use Rattle.std.specs.Prelude.{◌≡◌, ℕ, ◌/◌, ◌<◌, not, true, List, Option, Some, None, is_some, slice_set, if◌then◌else◌}
use Rattle.std.specs.List.{list_any}
use Rattle.kdf_journal.specs.declared.entry.Entry.{Entry}
use Rattle.kdf_journal.specs.declared.entry.Entry.TheVariants.{Start, Answer, Take, Give}
use Rattle.kdf_journal.specs.declared.kind.Kind.{Kind}
use Rattle.kdf_transfer.specs.AtOnce.{has_area}
use Rattle.kdf_transfer.specs.Devices.{test_of}
use Rattle.kdf_transfer.specs.declared.order.TransferOrder.{TransferOrder}
use Rattle.kdf_processor.specs.Claims.{taken_device}
use Rattle.kdf_processor.specs.Effect.{Act, Starts, Asks, Releases, Question, IsBusy, IsOut, Time, FreeOf, OfService}
use Rattle.kdf_processor.specs.Row.{at_once}
use Rattle.kdf_processor.specs.State.{Claims, Stock, device_in, device_limit, word_in}
use Rattle.kdf_processor.specs.View.{View, groups_of}
use Rattle.kdf_alone.specs.LonePort.{stock_of, HasLoneRoom}
use Rattle.kdf_theory.specs.True.{one_if}
use Rattle.kdf_check.specs.Around.{Around, around_by, free_in, is_busy_in, is_out_in, mine_in}
use Rattle.kdf_check.specs.declared.table.Pending.{Pending}
use Rattle.kdf_check.specs.declared.check_port.CheckPort.{CheckPort}

-- ---- what is shown

-- the device that is taken where this one is free
abbrev pub taken_in : Claims → Kind → Option ℕ → ℕ
taken_in c kind None = 0
taken_in c kind (Some d) = taken_device c kind d

-- what an order that asks is answered
abbrev pub answer_in : ℕ → Around → Claims → Question → ℕ
answer_in p around c (IsBusy d) = one_if (is_busy_in around.table d)
answer_in p around c (IsOut first last) = one_if (list_any (is_out_in p around.table) (groups_of first last))
answer_in p around c Time = around.time
answer_in p around c (FreeOf kind) = taken_in c kind (free_in around.holders c kind)
answer_in p around c (OfService word) = around.heard

-- what is shown of program p that has this: it, and what of it is pending
abbrev pub shown_by : ℕ → Around → Stock → View
shown_by p around k =
    record {
      claims = k.claims;
      word = word_in k;
      test = λ d what. test_of what (device_in k d);
      answer = answer_in p around k.claims;
      is_out = is_out_in p around.table;
      is_busy = is_busy_in around.table;
      is_taken = λ kind. not (is_some (free_in around.holders k.claims kind));
      mine = mine_in p around.table;
    }

abbrev pub around_of : CheckPort → Around
around_of d = around_by d.table.now.places d.journal.now.entries d.heard

abbrev pub shown : CheckPort → View
shown d = shown_by d.p (around_of d) (stock_of d.bench.now)

-- ---- what an act does

-- the groups of a transfer that begins, and what stands at its device's place then
abbrev pub groups_in : TransferOrder → (first last : ℕ) → Option (ℕ × ℕ)
groups_in o first last = if has_area o then Some (first / 32, last / 32) else None

abbrev pub table_after : ℕ → Act → List (Option Pending) → List (Option Pending)
table_after p (Starts d o first last) table =
    slice_set table d (Some (record { p = p; groups = groups_in o first last }))
table_after p act table = table

-- the device on which it begins a transfer has a place
abbrev pub IsInTable : Act → Type 0
IsInTable (Starts d o first last) = d < device_limit
IsInTable act = Unit {0}

-- the entry that tells of it, in program p's own order k
abbrev pub entry_after : (p k : ℕ) → Act → Option Entry → Option Entry
entry_after p k (Starts d o first last) entry = Some (Start p d k)
entry_after p k (Asks (FreeOf kind) answer) entry = Some (Take p answer)
entry_after p k (Asks question answer) entry = Some (Answer p answer)
entry_after p k (Releases true d) entry = Some (Give p d)
entry_after p k act entry = entry

-- it is a check port over the same lone port and the same table
pub record SameDesk (old new : CheckPort) : Type 0 where
  pub bench : new.bench.ghost_name ≡ old.bench.ghost_name
  pub table : new.table.ghost_name ≡ old.table.ghost_name

-- an acting call does at once what it does, and is told
pub record Acts (old : CheckPort) (act : Act) (new : CheckPort) : Type 0 where
  pub same : SameDesk old new
  pub stock : stock_of new.bench.now ≡ at_once act (stock_of old.bench.now)
  pub around : around_of new ≡ record (around_of old) { table = table_after old.p act old.table.now.places }
  pub inside : IsInTable act
  pub entry : new.entry ≡ entry_after old.p old.order act old.entry
  pub p : new.p ≡ old.p
  pub order : new.order ≡ old.order

-- there is room for what it keeps
abbrev pub HasRoom : CheckPort → Act → Type 0
HasRoom d act = HasLoneRoom d.bench.now act

-- nothing but its spare memory changes
pub record Stays (old new : CheckPort) : Type 0 where
  pub same : SameDesk old new
  pub stock : stock_of new.bench.now ≡ stock_of old.bench.now
  pub around : around_of new ≡ around_of old
  pub entry : new.entry ≡ old.entry
  pub p : new.p ≡ old.p
  pub order : new.order ≡ old.order

-- it is the same program's check port over the same lone port and the same table, for the same order, and nothing else was heard
pub record SameOrder (old new : CheckPort) : Type 0 where
  pub same : SameDesk old new
  pub p : new.p ≡ old.p
  pub order : new.order ≡ old.order
  pub around : around_of new ≡ record (around_of old) { table = new.table.now.places }
