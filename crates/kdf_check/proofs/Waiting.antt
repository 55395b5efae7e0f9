-- Calls that find no program that can go on.
use Rattle.std.proofs.Common.{◌≡◌, ◌<◌, ℕ, zero, suc, Bool, true, false, cond, List, Option, None, find, refl, sym, ap, ◌∙◌, subst, arith}
use Rattle.kdf_journal.specs.declared.entry.Entry.{Entry}
use Rattle.kdf_journal.specs.Steps.{Waits}
use Rattle.kdf_journal.proofs.Added.{clock-added, holder-quiet}
use Rattle.kdf_transfer.specs.Slots.{Slot}
use Rattle.kdf_theory.specs.Next.{any_live, next}
use Rattle.kdf_theory.specs.ByJournal.{lone_world}
use Rattle.kdf_theory.specs.InARow.{waited_on}
use Rattle.kdf_theory.proofs.Course.OrdersInARow.{priorities-waited_on}
use Rattle.kdf_check.specs.Around.{around_by}
use Rattle.kdf_check.specs.declared.table.Pending.{Pending}
use Rattle.kdf_check.specs.declared.program.Program.{Program}
use Rattle.kdf_check.specs.Keeps.{goes, place_at, GoesOnFor, Keeps}
use Rattle.kdf_check.specs.Tracks.{IsAround}
use Rattle.kdf_check.proofs.Keeping.{still-keeps}
use Rattle.kdf_check.proofs.Kept.{still_keeps}
use Rattle.kdf_check.proofs.Nexts.{around_is, next-same, on-same}

module _ (answers : ℕ → ℕ → Type 0) (slots : List Slot) (J : List Entry) (table : List (Option Pending)) (programs : List (Option Program))
    (k : Keeps answers slots J table programs) (live : any_live slots J ≡ true) (none : next (lone_world slots J) slots J ≡ None) where
  abbrev K : ℕ → List Entry
  K n = waited_on J n

  -- so it is with any number of them
  pub record IsWaiting (n : ℕ) : Type 0 where
    pub keeps : Keeps answers slots (K n) table programs
    pub goes_on : GoesOnFor answers slots n J (K n)
    pub around : IsAround slots (K n) (around_by table J 0)

  module _ (n : ℕ) (w : IsWaiting n) where
    still_live : any_live slots (K n) ≡ true
    still_live = sym (on-same answers slots (K n) table programs w.keeps) ∙ on-same answers slots J table programs k ∙ live

    still_none : next (lone_world slots (K n)) slots (K n) ≡ None
    still_none =
        sym (next-same answers slots (K n) table programs w.keeps (around_by table J 0) w.around)
        ∙ ap (find (λ (p : ℕ). goes (around_by table J 0) (place_at programs p))) (priorities-waited_on J n)
        ∙ next-same answers slots J table programs k (around_by table J 0) (around_is slots J table k.tells)
        ∙ none

    more : IsWaiting (suc n)
    more =
        let keeps =
        still-keeps answers slots (K n) table programs w.keeps Waits table (still_live, still_none) tt
        (still_keeps slots (K n) Waits table k.are w.keeps.legal w.keeps.tells (λ x. refl) (λ x. refl)) (λ q. refl) (λ q. refl) (λ q o. refl) in
        record {
          keeps = keeps;
          goes_on = (K n, w.goes_on, still_live, record { step = Waits; call = refl; heard = 0; meets = (still_live, still_none); truly = tt; entered = refl });
          around =
              record {
                tells = keeps.tells;
                held = λ d lt. w.around.held d lt ∙ sym (holder-quiet d (K n) Waits refl (λ q. refl));
                time = w.around.time ∙ sym (clock-added (K n) Waits);
              };
        }

  pub waiting : (n : ℕ) → IsWaiting n
  waiting zero = record { keeps = k; goes_on = refl; around = around_is slots J table k.tells }
  waiting (suc n) = more n (waiting n)

-- the calls that are left, where one is live, or none
pub record HasWaited (answers : ℕ → ℕ → Type 0) (slots : List Slot) (J : List Entry) (table : List (Option Pending)) (programs : List (Option Program))
    (made : ℕ) (K : List Entry) : Type 0 where
  pub goes_on : GoesOnFor answers slots made J K
  pub keeps : Keeps answers slots K table programs
  pub none : made ≡ 0 → any_live slots J ≡ false

pub waited : (answers : ℕ → ℕ → Type 0) (slots : List Slot) (J : List Entry) (table : List (Option Pending)) (programs : List (Option Program))
    → Keeps answers slots J table programs → next (lone_world slots J) slots J ≡ None
    → (most made : ℕ) (K : List Entry) → 0 < most → (b : Bool) → any_live slots J ≡ b → made ≡ cond b most 0 → K ≡ waited_on J made
    → HasWaited answers slots J table programs made K
waited answers slots J table programs k none most made K some true live is entries =
    let w = waiting answers slots J table programs k live none made in
    subst (HasWaited answers slots J table programs made) (sym entries) (record { goes_on = w.goes_on; keeps = w.keeps; none = λ zero. absurd (omega arith) })
waited answers slots J table programs k none most made K some false live is entries =
    let same : K ≡ J = entries ∙ ap (waited_on J) is in
    subst (HasWaited answers slots J table programs made) (sym same)
    (subst (λ (n : ℕ). HasWaited answers slots J table programs n J) (sym is) (record { goes_on = refl; keeps = k; none = λ zero. live }))
