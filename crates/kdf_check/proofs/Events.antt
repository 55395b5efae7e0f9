-- Events that are entered.
use Rattle.std.proofs.Common.{◌≡◌, ℕ, ◌<◌, ◌≤◌, List, [], ◌∷◌, Option, None, true, refl, sym, subst, set}
use Rattle.kdf_journal.specs.declared.entry.Entry.{Entry}
use Rattle.kdf_journal.specs.Counts.{clock}
use Rattle.kdf_journal.specs.Steps.{JournalStep, Moves, Ends, Sets, Swaps, added, steps}
use Rattle.kdf_transfer.specs.Slots.{Slot}
use Rattle.kdf_schedule.specs.Calls.{Call}
use Rattle.kdf_course.specs.Follows.{call_of, Reaches}
use Rattle.kdf_course.proofs.Reaching.{reach-added, reach-nil}
use Rattle.kdf_theory.specs.Legal.{IsLegal}
use Rattle.kdf_theory.specs.Next.{any_live, lone_dispatched}
use Rattle.kdf_check.specs.declared.table.Pending.{Pending}
use Rattle.kdf_check.specs.declared.program.Program.{Program}
use Rattle.kdf_check.specs.Keeps.{Keeps}
use Rattle.kdf_check.proofs.Keeping.{still-keeps}
use Rattle.kdf_check.proofs.Kept.{ended_keeps, moved_keeps, still_keeps}

-- an event that is entered answers its call
pub event-on : (slots : List Slot) (J K : List Entry) (c : Call) (s : JournalStep) → IsLegal slots J → any_live slots J ≡ true → call_of s ≡ c → K ≡ added J s
    → Reaches (lone_dispatched slots) (steps J) (c ∷ []) (steps K)
event-on slots J K c s l live is k = reach-added (lone_dispatched slots) (steps J) J K [] c s l.in_form (reach-nil (lone_dispatched slots) (steps J)) live is k

module _ (answers : ℕ → ℕ → Type 0) (slots : List Slot) (J K : List Entry) (table : List (Option Pending)) (programs : List (Option Program))
    (k : Keeps answers slots J table programs) where
  pub move-keeps : (d n : ℕ) → K ≡ added J (Moves d n) → Keeps answers slots K table programs
  move-keeps d n is =
      subst (λ (L : List Entry). Keeps answers slots L table programs) (sym is)
      (still-keeps answers slots J table programs k (Moves d n) table tt tt (moved_keeps slots J d n table k.are k.legal k.tells) (λ q. refl) (λ q. refl)
      (λ q o. refl))

  pub end-keeps : (d : ℕ) → K ≡ added J (Ends d) → Keeps answers slots K (set table d None) programs
  end-keeps d is =
      subst (λ (L : List Entry). Keeps answers slots L (set table d None) programs) (sym is)
      (still-keeps answers slots J table programs k (Ends d) (set table d None) tt tt (ended_keeps slots J d table k.are k.legal k.tells) (λ q. refl)
      (λ q. refl) (λ q o. refl))

  pub clock-keeps : (t : ℕ) → clock J ≤ t → K ≡ added J (Sets t) → Keeps answers slots K table programs
  clock-keeps t rises is =
      subst (λ (L : List Entry). Keeps answers slots L table programs) (sym is)
      (still-keeps answers slots J table programs k (Sets t) table rises tt (still_keeps slots J (Sets t) table k.are k.legal k.tells (λ x. refl) (λ x. refl))
      (λ q. refl) (λ q. refl) (λ q o. refl))

  pub swap-keeps : (p q : ℕ) → p < 4 → q < 4 → K ≡ added J (Swaps p q) → Keeps answers slots K table programs
  swap-keeps p q a b is =
      subst (λ (L : List Entry). Keeps answers slots L table programs) (sym is)
      (still-keeps answers slots J table programs k (Swaps p q) table (a, b) tt
      (still_keeps slots J (Swaps p q) table k.are k.legal k.tells (λ x. refl) (λ x. refl)) (λ q. refl) (λ q. refl) (λ q o. refl))
