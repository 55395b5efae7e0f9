-- The programs go on keeping to the journal, whatever step follows.
use Rattle.std.proofs.Common.{◌≡◌, ◌≢◌, ℕ, ◌<◌, ◌≤◌, true, not, List, [], length, get_or, set, Option, Some, None, is_some, refl, sym, ap, ◌∙◌, subst, ⊎_elim}
use Rattle.std.proofs.Common.{arith}
use Rattle.std.proofs.lemmas.Bool.{cases_eq, cases_lt, true≢false}
use Rattle.std.proofs.Math.ListN.{get_or-eq_default}
use Rattle.std.proofs.lemmas.List.{get_or_default, get_or-set_same, get_or-set_other, length-set}
use Rattle.kdf_journal.specs.declared.need.Need.{Need}
use Rattle.kdf_journal.specs.declared.entry.Entry.{Entry}
use Rattle.kdf_journal.specs.Counts.{answers, calls, last_hold, over, ran}
use Rattle.kdf_journal.specs.Steps.{JournalStep, added}
use Rattle.kdf_journal.proofs.Added.{answers_by, hold_by, last_hold-added, ran_by}
use Rattle.kdf_journal.proofs.Bounds.{ran-le-calls}
use Rattle.kdf_transfer.specs.Slots.{Slot}
use Rattle.kdf_course.specs.Legal.{Noted}
use Rattle.kdf_processor.specs.declared.registers.Life.{Life}
use Rattle.kdf_processor.specs.declared.registers.Life.TheVariants as life
use Rattle.kdf_processor.specs.Lone.{is_live}
use Rattle.kdf_processor.specs.State.{State}
use Rattle.kdf_processor.proofs.RowFacts.{counts_lone}
use Rattle.kdf_alone.specs.LonePort.{state_with}
use Rattle.kdf_theory.specs.Legal.{Meets}
use Rattle.kdf_theory.specs.Next.{next}
use Rattle.kdf_theory.specs.Served.{is_true_for}
use Rattle.kdf_theory.specs.Slots.{slot_of, start}
use Rattle.kdf_theory.specs.ByJournal.{lone_world, own}
use Rattle.kdf_theory.proofs.Course.OneJournal.{true_for_added, true_of_for}
use Rattle.kdf_theory.proofs.Course.WorldsJudged.{legal_added}
use Rattle.kdf_theory.proofs.Course.OwnSteps.{asked-start, own-ran, own-same}
use Rattle.kdf_theory.proofs.Course.Worlds.{next_on, next_slot}
use Rattle.kdf_check.specs.Around.{Around}
use Rattle.kdf_check.specs.declared.table.Pending.{Pending}
use Rattle.kdf_check.specs.declared.program.Program.{Program}
use Rattle.kdf_check.specs.Keeps.{place_at, IsFollowed, IsKeptAt, Keeps}
use Rattle.kdf_check.specs.Tracks.{IsAround, Tells}
use Rattle.kdf_check.specs.Tried.{IsPosed}
use Rattle.kdf_check.specs.Turned.{AreTurned}
use Rattle.kdf_check.proofs.Calls.{legal-on, truly-on}
use Rattle.kdf_check.proofs.Nexts.{alive}

live_is : (x : Life) → is_live x ≡ true → x ≡ life.Live
live_is life.Live is = refl
live_is life.Ended is = cc
live_is (life.Failed kind) is = cc

-- a program has taken no more answers than it has obeyed orders
own-asked : (slots : List Slot) (J : List Entry) (p : ℕ) → (own slots J p).stock.asked ≤ ran p J
unfolding own
own-asked slots J p = omega (arith, (counts_lone (start slots p) (answers p J) (ran p J)).1, asked-start slots p)

-- a place with a program is one of those that there are
pub placed-within : (programs : List (Option Program)) (p : ℕ) (x : Program) → place_at programs p ≡ Some x → p < length programs
placed-within programs p x is =
    ⊎_elim
    (λ (lt : p < length programs). lt)
    (λ (le : length programs ≤ p). absurd (none_some x (sym (get_or-eq_default programs None le) ∙ is)))
    (cases_lt p (length programs))
  where
    none_some : (x : Program) → None ≡ Some x → ⊥
    none_some x e = cc

-- a program without a slot isn't next
pub next_some : (slots : List Slot) (J : List Entry) (p : ℕ) (o : Option Program) → IsKeptAt slots J p o → next (lone_world slots J) slots J ≡ Some p
    → (x : Program) × (o ≡ Some x) × IsFollowed slots J p x
next_some slots J p None none is = absurd (true≢false (sym (next_slot (lone_world slots J) slots J p is) ∙ none))
next_some slots J p (Some x) f is = (x, refl, f)

module _ (answers : ℕ → ℕ → Type 0) (slots : List Slot) (J : List Entry) (table : List (Option Pending)) (programs : List (Option Program))
    (k : Keeps answers slots J table programs) where
  -- ---- the program that is next
  module _ (p : ℕ) (x : Program) (f : IsFollowed slots J p x) (next_is : next (lone_world slots J) slots J ≡ Some p) where
    on : not (over p J) ≡ true
    on = next_on (lone_world slots J) slots J p next_is

    on_live : is_live x.registers.state ≡ true
    on_live = alive answers slots J table programs k p x f ∙ on

    pub next-live : x.registers.state ≡ life.Live
    next-live = live_is x.registers.state on_live

    pub next-posed : (around : Around) → IsAround slots J around → IsPosed slots J x.p around x.registers x.bench
    next-posed around is = record {
      are = k.are;
      legal = k.legal;
      truly = true_of_for answers slots J k.truly;
      around_is = is;
      live = ap (λ (q : ℕ). not (over q J)) f.number ∙ on;
      own_is = f.own_is ∙ ap (own slots J) (sym f.number);
    }

    pub next-ran : calls J < 20000000 → x.registers.ran < 20000000
    next-ran few =
        let same : x.registers.ran ≡ ran p J = ap (λ (s : State). s.registers.ran) f.own_is
        ∙ own-ran slots J p (ap (λ (s : State). is_live s.registers.state) (sym f.own_is) ∙ on_live) in
        omega (arith, same, ran-le-calls p J, few)

    pub next-asked : calls J < 20000000 → (state_with x.registers x.bench).stock.asked < 20000000
    next-asked few = omega (arith, ap (λ (s : State). s.stock.asked) f.own_is, own-asked slots J p, ran-le-calls p J, few)

  -- ---- the place of the program that is next, found by its number
  module _ (p n : ℕ) (d : Option Program) (next_is : next (lone_world slots J) slots J ≡ Some p) (at : n ≡ p) where
    next-placed : (x : Program) × (place_at programs p ≡ Some x) × IsFollowed slots J p x
    next-placed = next_some slots J p (place_at programs p) (k.each p) next_is

    pub next-within : n < length programs
    next-within = subst (λ (i : ℕ). i < length programs) (sym at) (placed-within programs p next-placed.0 next-placed.1)

    next-there : d ≡ get_or programs n d → d ≡ place_at programs p
    next-there is = is ∙ get_or_default programs n d None next-within ∙ ap (place_at programs) at

    pub next-not-none : d ≡ get_or programs n d → d ≡ None → ⊥
    next-not-none is none = some_none next-placed.0 (sym next-placed.1 ∙ sym (next-there is) ∙ none)
      where
        some_none : (x : Program) → Some x ≡ None → ⊥
        some_none x e = cc

    pub next-followed : (x : Program) → d ≡ get_or programs n d → d ≡ Some x → IsFollowed slots J p x
    next-followed x is some =
        let same : next-placed.0 ≡ x = some_same next-placed.0 x (sym next-placed.1 ∙ sym (next-there is) ∙ some) in
        subst (IsFollowed slots J p) same next-placed.2
      where
        some_same : (x y : Program) → Some x ≡ Some y → x ≡ y
        some_same x y e = cc

  -- ---- after turns
  module _ (p made : ℕ) (x : Program) (table' : List (Option Pending)) (K : List Entry) (t : AreTurned answers slots made J p x table' K)
      (there : is_some (slot_of slots p) ≡ true) (lt : p < length programs) where
    kept-here : IsKeptAt slots K p (Some x)
    kept-here = record { there = there; number = t.number; own_is = t.own_is; hold_is = t.hold_is }

    kept-other : (q : ℕ) (o : Option Program) → p ≢ q → IsKeptAt slots J q o → IsKeptAt slots K q o
    kept-other q None ne none = none
    kept-other q (Some y) ne f = record {
      there = f.there;
      number = f.number;
      own_is = f.own_is ∙ sym (t.others q ne);
      hold_is = f.hold_is ∙ sym (t.other_holds q ne);
    }

    pub turned-keeps : Keeps answers slots K table' (set programs p (Some x))
    turned-keeps = record {
      are = k.are;
      legal = legal-on answers slots J made K k.legal t.goes_on;
      truly = truly-on answers slots J made K k.legal k.truly t.goes_on;
      tells = t.tells;
      four = length-set programs p (Some x) ∙ k.four;
      each = λ q. ⊎_elim
          (λ (is : q ≡ p). subst (λ (r : ℕ). IsKeptAt slots K r (place_at (set programs p (Some x)) r)) (sym is)
          (subst (IsKeptAt slots K p) (sym (get_or-set_same programs p (Some x) None lt)) kept-here))
          (λ (ne : q ≢ p). subst (IsKeptAt slots K q) (sym (get_or-set_other programs p q (Some x) None ne))
          (kept-other q (place_at programs q) (λ e. ne (sym e)) (k.each q)))
          (cases_eq q p);
    }

  -- ---- after a step that no program's order makes
  module _ (s : JournalStep) (table' : List (Option Pending)) (meets : Meets (lone_world slots J) slots J 0 s) (noted : Noted (is_true_for answers slots J) s)
      (tells : Tells slots (added J s) table')
      (none_ran : (q : ℕ) → ran_by q s ≡ 0) (none_told : (q : ℕ) → answers_by q s ≡ []) (holds : (q : ℕ) (o : Option Need) → hold_by q o s ≡ o) where
    still-at : (q : ℕ) (o : Option Program) → IsKeptAt slots J q o → IsKeptAt slots (added J s) q o
    still-at q None none = none
    still-at q (Some y) f = record {
      there = f.there;
      number = f.number;
      own_is = f.own_is ∙ sym (own-same slots J s q (none_ran q) (none_told q));
      hold_is = f.hold_is ∙ sym (last_hold-added q J s ∙ holds q (last_hold q J));
    }

    pub still-keeps : Keeps answers slots (added J s) table' programs
    still-keeps = record {
      are = k.are;
      legal = legal_added slots J 0 s k.legal meets;
      truly = true_for_added answers slots J s k.legal k.truly noted;
      tells = tells;
      four = k.four;
      each = λ q. still-at q (place_at programs q) (k.each q);
    }
