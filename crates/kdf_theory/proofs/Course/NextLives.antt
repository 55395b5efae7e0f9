-- The program that is next is one of four, and is live.
use Rattle.std.specs.Prelude.{find, is_some}
use Rattle.std.proofs.Common.{◌≡◌, ℕ, zero, suc, ◌<◌, Bool, true, false, ◌&&◌, not, eqb, ltb, List, [], ◌∷◌, get_or, map, fold, Some, cond, refl, ap, ◌∙◌}
use Rattle.std.proofs.Common.{subst, arith}
use Rattle.std.proofs.lemmas.Bool.{and_from, and_parts, ltb-true}
use Rattle.std.proofs.lemmas.List.Folds.{list_any_at}
use Rattle.kdf_journal.specs.declared.entry.Entry.{Entry}
use Rattle.kdf_journal.specs.declared.entry.Entry.TheVariants.{Ran, Start, Answer, Take, Give, Fail, Ended, Lov, Busy, Wait, Idle, Move, End, Clock, Swap}
use Rattle.kdf_journal.specs.Counts.{exchanged, over, priorities, priorities_after, slot_numbers}
use Rattle.kdf_course.specs.World as course
use Rattle.kdf_course.specs.World.{can_go, lives}
use Rattle.kdf_transfer.specs.Slots.{Slot}
use Rattle.kdf_theory.specs.Next.{any_live, dispatched, next, there_in}
use Rattle.kdf_theory.specs.Slots.{slot_of}
use Rattle.kdf_theory.specs.World.{World}
use Rattle.kdf_theory.proofs.Course.Worlds.{next_on, next_slot}

-- ---- the priorities are slots of the four

abbrev AreFour : List ℕ → Type 0
AreFour [] = Unit {0}
AreFour (p ∷ ps) = (p < 4) × AreFour ps

exchanged_four : (p q x : ℕ) → p < 4 → q < 4 → x < 4 → exchanged p q x < 4
exchanged_four p q x a b c = either (eqb x p) (eqb x q)
  where
    either : (s t : Bool) → cond s q (cond t p x) < 4
    either true t = b
    either false true = a
    either false false = c

each_exchanged : (p q : ℕ) → p < 4 → q < 4 → (ps : List ℕ) → AreFour ps → AreFour (map (exchanged p q) ps)
each_exchanged p q a b [] four = tt
each_exchanged p q a b (x ∷ ps) four = (exchanged_four p q x a b four.0, each_exchanged p q a b ps four.1)

if_exchanged : (p q : ℕ) (ps : List ℕ) (b : Bool) → (ltb p 4 && ltb q 4) ≡ b → AreFour ps → AreFour (cond b (map (exchanged p q) ps) ps)
if_exchanged p q ps true is four =
    let both = and_parts (ltb p 4) (ltb q 4) is in
    each_exchanged p q (ltb-true p 4 both.0) (ltb-true q 4 both.1) ps four
if_exchanged p q ps false is four = four

four_after : (ps : List ℕ) (e : Entry) → AreFour ps → AreFour (priorities_after ps e)
four_after ps (Swap p q) four = if_exchanged p q ps (ltb p 4 && ltb q 4) refl four
four_after ps (Ran p n) four = four
four_after ps (Start p d k) four = four
four_after ps (Answer p v) four = four
four_after ps (Take p d) four = four
four_after ps (Give p d) four = four
four_after ps (Fail p kind) four = four
four_after ps (Ended p) four = four
four_after ps (Lov p group) four = four
four_after ps (Busy p d) four = four
four_after ps (Wait p kind) four = four
four_after ps (Idle n) four = four
four_after ps (Move d n) four = four
four_after ps (End d) four = four
four_after ps (Clock t) four = four

four_all : (es : List Entry) (ps : List ℕ) → AreFour ps → AreFour (fold priorities_after ps es)
four_all [] ps four = four
four_all (e ∷ es) ps four = four_all es (priorities_after ps e) (four_after ps e four)

at_first : AreFour slot_numbers
at_first = (omega arith, (omega arith, (omega arith, (omega arith, tt))))

found_step : (f : ℕ → Bool) (ps : List ℕ) (p k : ℕ) (b : Bool) → p < 4 → (find f ps ≡ Some k → k < 4) → cond b (Some p) (find f ps) ≡ Some k → k < 4
found_step f ps p k true lt rest is = let same : p ≡ k = cc in subst (λ n. n < 4) same lt
found_step f ps p k false lt rest is = rest is

found_four : (f : ℕ → Bool) (ps : List ℕ) (k : ℕ) → AreFour ps → find f ps ≡ Some k → k < 4
found_four f [] k four is = cc
found_four f (p ∷ ps) k four is = found_step f ps p k (f p) four.0 (found_four f ps k four.1) is

-- ---- the program that is next is live

slot_at : (p : ℕ) → p < 4 → get_or slot_numbers p 0 ≡ p
slot_at zero lt = refl
slot_at (suc zero) lt = refl
slot_at (suc (suc zero)) lt = refl
slot_at (suc (suc (suc zero))) lt = refl
slot_at (suc (suc (suc (suc p)))) lt = absurd (omega arith)

pub next_four : (w : World) (slots : List Slot) (J : List Entry) (p : ℕ) → next w slots J ≡ Some p → p < 4
unfolding course.next
next_four w slots J p n = found_four (can_go (dispatched slots w) J) (priorities J) p (four_all J slot_numbers at_first) n

next_lives : (w : World) (slots : List Slot) (J : List Entry) (p : ℕ) → next w slots J ≡ Some p → lives (there_in slots) J p ≡ true
unfolding lives
next_lives w slots J p n = and_from (is_some (slot_of slots p)) (not (over p J)) (next_slot w slots J p n) (next_on w slots J p n)

pub next_found : (w : World) (slots : List Slot) (J : List Entry) (p : ℕ) → next w slots J ≡ Some p → any_live slots J ≡ true
unfolding course.any_live
next_found w slots J p n =
    let lt = next_four w slots J p n in
    list_any_at (lives (there_in slots) J) slot_numbers p 0 lt (ap (lives (there_in slots) J) (slot_at p lt) ∙ next_lives w slots J p n)
