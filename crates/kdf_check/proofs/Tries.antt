-- What a try comes to by the lone state.
use Rattle.std.specs.Prelude.{IfSome, unwrap_or}
use Rattle.std.proofs.Common.{◌≡◌, ◌+◌, ◌<◌, ◌^◌, ℕ, List, Option, None, sym, ap, ap₂, ◌∙◌, subst}
use Rattle.kdf_journal.specs.declared.entry.Entry.{Entry}
use Rattle.kdf_transfer.specs.Slots.{Slot}
use Rattle.kdf_processor.specs.declared.registers.Registers.{Registers}
use Rattle.kdf_processor.specs.declared.step.Step.{Step}
use Rattle.kdf_processor.specs.Ahead.{act_word, word_asked}
use Rattle.kdf_processor.specs.Effect.{Act}
use Rattle.kdf_processor.specs.Needs.{next_effect}
use Rattle.kdf_processor.specs.Outcome.{Outcome, outcome}
use Rattle.kdf_processor.specs.Row.{at_once}
use Rattle.kdf_processor.specs.State.{State, Stock}
use Rattle.kdf_processor.specs.View.{View, by_itself}
use Rattle.kdf_processor.proofs.Words.{done_word}
use Rattle.kdf_alone.specs.declared.lone_port.LonePort.{LonePort}
use Rattle.kdf_alone.specs.LonePort.{stock_of}
use Rattle.kdf_theory.specs.Asked.{HasAsked, IsHeard}
use Rattle.kdf_theory.specs.ByJournal.{lone_world, own}
use Rattle.kdf_theory.specs.World.{first_need}
use Rattle.kdf_theory.proofs.Course.HeardWords.{heard_so, heard_then}
use Rattle.kdf_check.specs.Around.{Around, around_by}
use Rattle.kdf_check.specs.declared.table.Pending.{Pending}
use Rattle.kdf_check.specs.Batches.{HasBatch, HasTried}
use Rattle.kdf_check.specs.CheckPort.{IsInTable, entry_after, shown_by, table_after}
use Rattle.kdf_check.specs.Tried.{IsPosed, IsTried, lone_truth, outcome_by, outcome_of}
use Rattle.kdf_check.proofs.Comes.{tried_lem}
use Rattle.kdf_check.proofs.Pendings.{shown-here}

-- a program stays posed, whatever is heard of the service
pub posed_with : (slots : List Slot) (J : List Entry) (p : ℕ) (table : List (Option Pending)) (r : Registers) (bench : LonePort)
    → IsPosed slots J p (around_by table J 0) r bench
    → (heard : ℕ) → IsPosed slots J p (around_by table J heard) r bench
posed_with slots J p table r bench posed heard =
    record {
      are = posed.are;
      legal = posed.legal;
      truly = posed.truly;
      around_is = record { tells = posed.around_is.tells; held = posed.around_is.held; time = posed.around_is.time };
      live = posed.live;
      own_is = posed.own_is;
    }

module _ (slots : List Slot) (J : List Entry) (p : ℕ) (around : Around) (r : Registers) (bench : LonePort) (posed : IsPosed slots J p around r bench) where
  -- what the order of a posed program comes to
  comes_so : outcome (shown_by p around (stock_of bench)) r ≡ outcome_of slots J around.heard p
  comes_so =
      ap₂ (λ (q : Registers) (k : Stock). outcome (shown_by p around k) q)
      (ap (λ (s : State). s.registers) posed.own_is) (ap (λ (s : State). s.stock) posed.own_is)
      ∙ ap (λ (v : View). outcome v (own slots J p).registers) (shown-here slots J p around posed.around_is posed.are posed.legal posed.truly posed.live)
      ∙ tried_lem (lone_world slots J) (lone_truth slots J around.heard p) p

  -- where nothing holds it up, it asks the service of the word of which its lone state asks it
  word_so : first_need (lone_world slots J) p ≡ None → act_word (outcome (shown_by p around (stock_of bench)) r).act ≡ word_asked (next_effect (own slots J p))
  word_so free =
      ap (λ (o : Outcome). act_word o.act) (comes_so ∙ ap (outcome_by slots J around.heard p) free)
      ∙ done_word (by_itself (lone_truth slots J around.heard p) (own slots J p).stock) (own slots J p).registers (next_effect (own slots J p))

  -- so what was heard answers that
  heard_at : (answers : ℕ → ℕ → Type 0) (heard : Option ℕ) → HasAsked answers (act_word (outcome (shown_by p around (stock_of bench)) r).act) heard
      → first_need (lone_world slots J) p ≡ None → IsHeard answers (own slots J p) (unwrap_or heard 0)
  heard_at answers heard has free =
      subst (λ o. IfSome o (λ word. (word < 2 ^ 48) × answers word (unwrap_or heard 0))) (word_so free)
      (heard_so answers (act_word (outcome (shown_by p around (stock_of bench)) r).act) heard has)

-- what was heard of the service where nothing else was heard yet
pub heard_with : (slots : List Slot) (J : List Entry) (p : ℕ) (table : List (Option Pending)) (r : Registers) (bench : LonePort)
    → IsPosed slots J p (around_by table J 0) r bench
    → (answers : ℕ → ℕ → Type 0) (heard : Option ℕ) (h d : ℕ) → h ≡ unwrap_or heard d → d ≡ 0
    → HasAsked answers (act_word (outcome (shown_by p (around_by table J 0) (stock_of bench)) r).act) heard
    → first_need (lone_world slots J) p ≡ None → IsHeard answers (own slots J p) h
heard_with slots J p table r bench posed answers heard h d is none has free =
    subst (IsHeard answers (own slots J p)) (sym (heard_then heard h d is none))
    (heard_at slots J p (around_by table J 0) r bench posed answers heard has free)

-- the next order of a posed program, as it was tried, came out by its lone state
pub tried_so : (slots : List Slot) (J : List Entry) (p : ℕ) (around : Around) (r left : Registers) (b bench : LonePort)
    (table : List (Option Pending)) (ended : Step) (told : Option Entry)
    → IsPosed slots J p around r b → HasTried p around r b left bench table ended told
    → IsTried slots J p around (outcome_of slots J around.heard p) ended left bench table told
tried_so slots J p around r left b bench table ended told posed tried =
    record {
      ending_is = tried.ending_is ∙ ap (λ (o : Outcome). o.step) here;
      state =
          ap₂ (λ (q : Registers) (k : Stock). state q k) (tried.registers_are ∙ ap (λ (o : Outcome). o.registers) here)
          (tried.stock_is ∙ ap₂ at_once act (ap (λ (s : State). s.stock) posed.own_is));
      table_is = tried.table_is ∙ ap (λ (a : Act). table_after p a around.table) act;
      inside = subst IsInTable act tried.inside;
      entry_is = tried.told_is ∙ ap₂ (λ (k : ℕ) (a : Act). entry_after p k a None) (ap (λ (s : State). s.registers.ran + 1) posed.own_is) act;
    }
  where
    state : Registers → Stock → State
    state q k = record { registers = q; stock = k }

    here : outcome (shown_by p around (stock_of b)) r ≡ outcome_of slots J around.heard p
    here = comes_so slots J p around r b posed

    act : (outcome (shown_by p around (stock_of b)) r).act ≡ (outcome_of slots J around.heard p).act
    act = ap (λ (o : Outcome). o.act) here

-- orders that were tried over a lone port and a table that were looked at
pub batch_over : (p : ℕ) (J : List Entry) (heard quiet : ℕ) (r left : Registers) (b mid bench : LonePort) (places between table : List (Option Pending))
    (ended : Step) (told : Option Entry) → mid ≡ b → between ≡ places
    → HasBatch p (around_by between J heard) quiet r mid left bench table ended told
    → HasBatch p (around_by places J heard) quiet r b left bench table ended told
batch_over p J heard quiet r left b mid bench places between table ended told bench_is table_is batch =
    subst (λ (k : LonePort). HasBatch p (around_by places J heard) quiet r k left bench table ended told) bench_is
    (subst (λ (t : List (Option Pending)). HasBatch p (around_by t J heard) quiet r mid left bench table ended told) table_is batch)
