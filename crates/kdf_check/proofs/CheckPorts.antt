-- Desks: what is done at them one after another, what is out, and what is first.
use Rattle.std.proofs.Common.{◌≡◌, ◌+◌, ℕ, Bool, true, false, cond, ◌||◌, List, [], ◌∷◌, Option, Some, None, find, is_some, refl, sym, ap, ap₂, ◌∙◌, ⊎_elim}
use Rattle.std.proofs.lemmas.Bool.{cases_Bool, true≢false}
use Rattle.std.specs.List.{list_any}
use Rattle.kdf_journal.specs.declared.entry.Entry.{Entry}
use Rattle.kdf_processor.specs.Effect.{Act}
use Rattle.kdf_processor.specs.Row.{at_once}
use Rattle.kdf_processor.specs.declared.registers.Registers.{Registers}
use Rattle.kdf_processor.specs.declared.step.Step.{Step}
use Rattle.kdf_processor.specs.Outcome.{outcome}
use Rattle.kdf_check.specs.declared.table.Pending.{Pending}
use Rattle.kdf_check.specs.Around.{Around, covers}
use Rattle.kdf_check.specs.declared.check_port.CheckPort.{CheckPort}
use Rattle.kdf_check.specs.Batches.{HasTried}
use Rattle.kdf_check.specs.CheckPort.{Acts, SameDesk, SameOrder, Stays, around_of, entry_after, shown, table_after}

-- a check port over what another is over, and so on
pub same_same : (t u w : CheckPort) → SameDesk t u → SameDesk u w → SameDesk t w
same_same t u w first second = record { bench = second.bench ∙ first.bench; table = second.table ∙ first.table }

-- an act after what changes nothing
pub acts_behind : (old mid new : CheckPort) (act : Act) → Stays old mid → Acts mid act new → Acts old act new
acts_behind old mid new act s a = record {
  same = same_same old mid new s.same a.same;
  stock = a.stock ∙ ap (at_once act) s.stock;
  around = a.around ∙ ap₂ (λ (q : ℕ) (x : Around). record x { table = table_after q act x.table }) s.p s.around;
  inside = a.inside;
  entry =
      a.entry
      ∙ ap₂ (λ (q : ℕ) (k : ℕ). entry_after q k act mid.entry) s.p s.order
      ∙ ap (λ (e : Option Entry). entry_after old.p old.order act e) s.entry;
  p = a.p ∙ s.p;
  order = a.order ∙ s.order;
}

-- a check port stays that of its order
pub order_itself : (d : CheckPort) → SameOrder d d
order_itself d = record { same = record { bench = refl; table = refl }; p = refl; order = refl; around = refl }

pub order_then : (old mid new : CheckPort) (act : Act) → Stays old mid → Acts mid act new → SameOrder old new
order_then old mid new act s a =
    let all = acts_behind old mid new act s a in
    record {
      same = all.same;
      p = all.p;
      order = all.order;
      around = all.around ∙ ap (λ (x : Around). record (around_of old) { table = x.table }) (sym all.around);
    }

-- an order was tried once memory was taken
pub tried_by : (old mid new : CheckPort) (r left : Registers) (ended : Step) → old.order ≡ r.ran + 1 → old.entry ≡ None → Stays old mid
    → ended ≡ (outcome (shown old) r).step → left ≡ (outcome (shown old) r).registers → Acts mid (outcome (shown old) r).act new
    → HasTried old.p (around_of old) r old.bench.now left new.bench.now new.table.now.places ended new.entry
tried_by old mid new r left ended order quiet stays step registers acted =
    let act = (outcome (shown old) r).act in
    let all : Acts old act new = acts_behind old mid new act stays acted in
    record {
      ending_is = step;
      registers_are = registers;
      stock_is = all.stock;
      table_is = ap (λ (x : Around). x.table) all.around;
      inside = all.inside;
      told_is = all.entry ∙ ap₂ (λ (k : ℕ) (e : Option Entry). entry_after old.p k act e) order quiet;
    }

-- where no transfer is pending, no group is out
none_covered : (p g : ℕ) (table : List (Option Pending)) → list_any is_some table ≡ false → list_any (covers p g) table ≡ false
none_covered p g [] none = refl
none_covered p g (None ∷ table) none = none_covered p g table none
none_covered p g (Some t ∷ table) none = absurd (true≢false none)

pub none_out : (p g : ℕ) (table : List (Option Pending)) (busy : Bool) → (list_any is_some table ≡ true → busy ≡ true) → busy ≡ false
    → list_any (covers p g) table ≡ false
none_out p g table busy all none =
    ⊎_elim
    (λ (some : list_any is_some table ≡ true). absurd (true≢false (sym (all some) ∙ none)))
    (λ (isnt : list_any is_some table ≡ false). none_covered p g table isnt)
    (cases_Bool (list_any is_some table))

-- one is found exactly where one passes
pub some-find : (f : ℕ → Bool) (xs : List ℕ) → is_some (find f xs) ≡ list_any f xs
some-find f [] = refl
some-find f (x ∷ xs) = go (f x) (some-find f xs)
  where
    go : (b : Bool) → is_some (find f xs) ≡ list_any f xs → is_some (cond b (Some x) (find f xs)) ≡ (b || list_any f xs)
    go true rest = refl
    go false rest = rest
