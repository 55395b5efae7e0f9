-- Orders that are tried at a check port one after another, of which the journal tells no more than that they were obeyed.
use Rattle.std.proofs.Common.{◌≡◌, ◌+◌, ℕ, suc, List, Option, None, refl, sym, ap, ◌∙◌, subst, arith, true, false}
use Rattle.kdf_journal.specs.declared.entry.Entry.{Entry}
use Rattle.kdf_processor.specs.declared.registers.Registers.{Registers}
use Rattle.kdf_processor.specs.declared.registers.Life.TheVariants as life
use Rattle.kdf_processor.specs.declared.step.Step.{Step}
use Rattle.kdf_processor.specs.declared.step.Step.TheVariants.{Done}
use Rattle.kdf_processor.specs.Effect.{Act, Nothing, Writes, Starts, Asks, Acquires, Releases, Spools}
use Rattle.kdf_processor.specs.Effect.{IsBusy, IsOut, Time, FreeOf, OfService}
use Rattle.kdf_processor.specs.Row.{at_once}
use Rattle.kdf_processor.specs.State.{Stock}
use Rattle.kdf_alone.specs.LonePort.{stock_of, CanAsk}
use Rattle.kdf_theory.proofs.GoingOn.{GoesOn, goes_on}
use Rattle.kdf_check.specs.Around.{Around}
use Rattle.kdf_check.specs.Batches.{AreQuiet, HasBatch, HasStopped, HasTried, outcome_at}
use Rattle.kdf_check.specs.declared.check_port.CheckPort.{CheckPort}
use Rattle.kdf_check.specs.declared.table.Pending.{Pending}
use Rattle.kdf_check.specs.CheckPort.{SameDesk, SameOrder, around_of, entry_after, shown_by, table_after}

-- an act of which no entry tells begins no transfer, and takes no answer
untold_table : (p k : ℕ) (act : Act) (table : List (Option Pending)) → entry_after p k act None ≡ None → table_after p act table ≡ table
untold_table p k Nothing table none = refl
untold_table p k (Writes a w) table none = refl
untold_table p k (Starts d o first last) table none = cc
untold_table p k (Asks question answer) table none = refl
untold_table p k (Acquires d) table none = refl
untold_table p k (Releases pooled d) table none = refl
untold_table p k (Spools stream first last) table none = refl

untold_asked : (p k : ℕ) (act : Act) (stock : Stock) → entry_after p k act None ≡ None → (at_once act stock).asked ≡ stock.asked
untold_asked p k Nothing stock none = refl
untold_asked p k (Writes a w) stock none = refl
untold_asked p k (Starts d o first last) stock none = cc
untold_asked p k (Asks (IsBusy d) answer) stock none = cc
untold_asked p k (Asks (IsOut first last) answer) stock none = cc
untold_asked p k (Asks Time answer) stock none = cc
untold_asked p k (Asks (FreeOf kind) answer) stock none = cc
untold_asked p k (Asks (OfService word) answer) stock none = cc
untold_asked p k (Acquires d) stock none = refl
untold_asked p k (Releases true d) stock none = cc
untold_asked p k (Releases false d) stock none = refl
untold_asked p k (Spools stream first last) stock none = refl

-- an order was tried at check port u, and check port w was left
abbrev pub TriedAt : (u : CheckPort) → Registers → (w : CheckPort) → Registers → Step → Type 0
TriedAt u r w left ended = HasTried u.p (around_of u) r u.bench.now left w.bench.now w.table.now.places ended w.entry

-- so it was by what stood around a check port of the same program
over : (t u w : CheckPort) (r left : Registers) (ended : Step) → u.p ≡ t.p → around_of u ≡ around_of t → TriedAt u r w left ended
    → HasTried t.p (around_of t) r u.bench.now left w.bench.now w.table.now.places ended w.entry
over t u w r left ended p_is around_is tried =
    subst (λ (a : Around). HasTried t.p a r u.bench.now left w.bench.now w.table.now.places ended w.entry) around_is
    (subst (λ (q : ℕ). HasTried q (around_of u) r u.bench.now left w.bench.now w.table.now.places ended w.entry) p_is tried)

-- at check port u, which was check port t, the program has obeyed n orders
pub record IsAt (t u : CheckPort) (first r : Registers) (n : ℕ) : Type 0 where
  pub same : SameDesk t u
  pub p_is : u.p ≡ t.p
  pub around_is : around_of u ≡ around_of t
  pub live : r.state ≡ life.Live
  pub asked : CanAsk u.bench.now
  pub order : u.order ≡ r.ran + 1
  pub quiet : u.entry ≡ None
  pub earlier : AreQuiet t.p (around_of t) n first t.bench.now r u.bench.now

-- of a check port at which nothing was changed before
pub unchanged : (u u' w : CheckPort) (r r' left : Registers) (ended : Step) → r' ≡ r → u' ≡ u → SameOrder u' w → TriedAt u' r' w left ended
    → SameOrder u w × TriedAt u r w left ended
unchanged u u' w r r' left ended is is' same tried = rw (sym is, sym is') (same, tried)

module _ (t u w : CheckPort) (first r left : Registers) (n : ℕ) (at : IsAt t u first r n) (same : SameOrder u w) where
  -- one more was tried
  pub last_at : (ended : Step) (told : Option Entry) → told ≡ w.entry → TriedAt u r w left ended
      → HasBatch t.p (around_of t) n first t.bench.now left w.bench.now w.table.now.places ended told
  last_at ended told is tried =
      record {
        mid = r;
        between = u.bench.now;
        earlier = at.earlier;
        last =
            subst (λ (o : Option Entry). HasTried t.p (around_of t) r u.bench.now left w.bench.now w.table.now.places ended o) (sym is)
            (over t u w r left ended at.p_is at.around_is tried);
      }

  -- and it was quiet too
  module _ (tried : TriedAt u r w left Done) (none : w.entry ≡ None) where
    untold : entry_after u.p (r.ran + 1) (outcome_at u.p (around_of u) r u.bench.now).act None ≡ None
    untold = sym tried.told_is ∙ none

    table_is : w.table.now.places ≡ u.table.now.places
    table_is = tried.table_is ∙ untold_table u.p (r.ran + 1) (outcome_at u.p (around_of u) r u.bench.now).act u.table.now.places untold

    around_on : around_of w ≡ around_of t
    around_on = same.around ∙ ap (λ (x : List (Option Pending)). record (around_of u) { table = x }) table_is ∙ at.around_is

    asked_on : (stock_of w.bench.now).asked ≡ (stock_of u.bench.now).asked
    asked_on =
        ap (λ (k : Stock). k.asked) tried.stock_is
        ∙ untold_asked u.p (r.ran + 1) (outcome_at u.p (around_of u) r u.bench.now).act (stock_of u.bench.now) untold

    gone : GoesOn r left
    gone = subst (GoesOn r) (sym tried.registers_are) (goes_on (shown_by u.p (around_of u) (stock_of u.bench.now)) r (sym tried.ending_is))

    here : HasTried t.p (around_of t) r u.bench.now left w.bench.now (around_of t).table Done None
    here =
        subst (λ (x : List (Option Pending)). HasTried t.p (around_of t) r u.bench.now left w.bench.now x Done None) (ap (λ (a : Around). a.table) around_on)
        (subst (λ (o : Option Entry). HasTried t.p (around_of t) r u.bench.now left w.bench.now w.table.now.places Done o) none
        (over t u w r left Done at.p_is at.around_is tried))

    more : AreQuiet t.p (around_of t) (n + 1) first t.bench.now left w.bench.now
    more =
        let one : suc n ≡ n + 1 = omega arith in
        subst (λ (k : ℕ). AreQuiet t.p (around_of t) k first t.bench.now left w.bench.now) one (r, u.bench.now, at.earlier, here)

    pub next_ran : left.ran ≡ r.ran + 1
    next_ran = gone.ran

    -- so the check port goes on to the next
    pub next_at : (v : CheckPort) → v ≡ record w { order = w.order + 1 } → IsAt t v first left (n + 1)
    next_at v is = subst (λ (d : CheckPort). IsAt t d first left (n + 1)) (sym is) (record {
      same = record { bench = same.same.bench ∙ at.same.bench; table = same.same.table ∙ at.same.table };
      p_is = same.p ∙ at.p_is;
      around_is = around_on;
      live = gone.state ∙ at.live;
      asked = (let before = at.asked in omega (arith, asked_on));
      order = omega (arith, same.order, at.order, gone.ran);
      quiet = none;
      earlier = more;
    })

-- there was no memory for one more
pub stopped_at : (t u w : CheckPort) (first r left : Registers) (n : ℕ) → IsAt t u first r n → left ≡ r → stock_of w.bench.now ≡ stock_of u.bench.now
    → HasStopped t.p (around_of t) n first t.bench.now left w.bench.now
stopped_at t u w first r left n at is stock =
    let earlier = subst (λ (x : Registers). AreQuiet t.p (around_of t) n first t.bench.now x u.bench.now) (sym is) at.earlier in
    (u.bench.now, earlier, stock)
