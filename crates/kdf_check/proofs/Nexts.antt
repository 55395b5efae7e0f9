-- Which program is next, by the programs that are followed.
use Rattle.std.proofs.Common.{◌≡◌, ℕ, ◌&&◌, Bool, not, List, [], ◌∷◌, length, find, Option, Some, None, refl, sym, ap, ap₂, ◌∙◌, arith}
use Rattle.std.specs.List.{list_any}
use Rattle.std.proofs.Math.Path.{fun_ext}
use Rattle.kdf_journal.specs.declared.need.Need.{Need}
use Rattle.kdf_journal.specs.declared.entry.Entry.{Entry}
use Rattle.kdf_journal.specs.Counts.{last_hold, over, priorities, slot_numbers}
use Rattle.kdf_transfer.specs.Slots.{Slot}
use Rattle.kdf_course.specs.World as course
use Rattle.kdf_course.specs.World.{can_go, lives, stands}
use Rattle.kdf_processor.specs.Lone.{is_live}
use Rattle.kdf_processor.specs.State.{State, Stock}
use Rattle.kdf_processor.specs.View.{is_pending}
use Rattle.kdf_theory.specs.Next.{any_live, lone_dispatched, next, there_in}
use Rattle.kdf_theory.specs.ByJournal.{lone_world}
use Rattle.kdf_theory.proofs.Course.LegalFacts.{legal_alive}
use Rattle.kdf_check.specs.Around.{Around, around_by}
use Rattle.kdf_check.specs.declared.table.Pending.{Pending}
use Rattle.kdf_check.specs.declared.program.Program.{Program}
use Rattle.kdf_check.specs.CheckPort.{shown_by}
use Rattle.kdf_check.specs.Keeps.{goes, is_on, is_stopped, place_at, IsFollowed, IsKeptAt, Keeps}
use Rattle.kdf_check.specs.Tracks.{IsAround, Tells}
use Rattle.kdf_check.proofs.Pendings.{pending-here}

-- what the journal tells around the programs
pub around_is : (slots : List Slot) (J : List Entry) (table : List (Option Pending)) → Tells slots J table → IsAround slots J (around_by table J 0)
around_is slots J table tells = record { tells = tells; held = λ d lt. refl; time = refl }

-- one of four places has a live program
four_places : (xs : List (Option Program)) → length xs ≡ 4 → list_any is_on xs ≡ list_any (λ (p : ℕ). is_on (place_at xs p)) slot_numbers
four_places [] e = absurd (omega (arith, e))
four_places (a ∷ []) e = absurd (omega (arith, e))
four_places (a ∷ b ∷ []) e = absurd (omega (arith, e))
four_places (a ∷ b ∷ c ∷ []) e = absurd (omega (arith, e))
four_places (a ∷ b ∷ c ∷ d ∷ []) e = refl
four_places (a ∷ b ∷ c ∷ d ∷ x ∷ xs) e = absurd (omega (arith, e))

module _ (answers : ℕ → ℕ → Type 0) (slots : List Slot) (J : List Entry) (table : List (Option Pending)) (programs : List (Option Program))
    (k : Keeps answers slots J table programs) where
  -- a program that is followed is live until it has ended or failed
  pub alive : (p : ℕ) (x : Program) → IsFollowed slots J p x → is_live x.registers.state ≡ not (over p J)
  alive p x f = ap (λ (s : State). is_live s.registers.state) f.own_is ∙ legal_alive slots J k.legal p

  on-at : (p : ℕ) (o : Option Program) → IsKeptAt slots J p o → is_on o ≡ lives (there_in slots) J p
  unfolding lives
  on-at p None none = sym (ap (λ b. b && not (over p J)) none)
  on-at p (Some x) f = alive p x f ∙ sym (ap (λ b. b && not (over p J)) f.there)

  pub on-same : list_any is_on programs ≡ any_live slots J
  unfolding course.any_live
  on-same = four_places programs k.four ∙ ap (λ (f : ℕ → Bool). list_any f slot_numbers) (fun_ext (λ p. on-at p (place_at programs p) (k.each p)))

  -- whether a program is live, as it is found
  pub live-so : (places : List (Option Program)) (r b : Bool) → places ≡ programs → r ≡ list_any is_on places → r ≡ b → any_live slots J ≡ b
  live-so places r b same found is = sym on-same ∙ ap (list_any is_on) (sym same) ∙ sym found ∙ is

  module _ (around : Around) (is : IsAround slots J around) where
    stopped-by : (p : ℕ) (x : Program) (h : Option Need) → x.p ≡ p → IsFollowed slots J p x
        → is_stopped around x h ≡ stands (lone_dispatched slots J) p h
    stopped-by p x None n f = refl
    stopped-by p x (Some by) n f =
        ap₂ (λ (q : ℕ) (s : Stock). is_pending (shown_by q around s) by) n (ap (λ (s : State). s.stock) f.own_is)
        ∙ pending-here slots J p around is by

    goes-at : (p : ℕ) (o : Option Program) → IsKeptAt slots J p o → goes around o ≡ can_go (lone_dispatched slots J) J p
    unfolding can_go lives
    goes-at p None none = sym (ap (λ b. (b && not (over p J)) && not (stands (lone_dispatched slots J) p (last_hold p J))) none)
    goes-at p (Some x) f =
        ap₂ (λ (a b : Bool). a && not b) (alive p x f) (ap (is_stopped around x) f.hold_is ∙ stopped-by p x (last_hold p J) f.number f)
        ∙ sym (ap (λ b. (b && not (over p J)) && not (stands (lone_dispatched slots J) p (last_hold p J))) f.there)

    pub next-same : find (λ (p : ℕ). goes around (place_at programs p)) (priorities J) ≡ next (lone_world slots J) slots J
    unfolding course.next
    next-same = ap (λ (f : ℕ → Bool). find f (priorities J)) (fun_ext (λ p. goes-at p (place_at programs p) (k.each p)))

    -- so it is found
    pub found-next : (places : List (Option Program)) (order : List ℕ) (r : Option ℕ) → places ≡ programs → order ≡ priorities J
        → r ≡ find (λ (p : ℕ). goes around (place_at places p)) order → next (lone_world slots J) slots J ≡ r
    found-next places order r same first found =
        sym next-same
        ∙ ap₂ (λ (xs : List (Option Program)) (ps : List ℕ). find (λ (p : ℕ). goes around (place_at xs p)) ps) (sym same) (sym first)
        ∙ sym found
