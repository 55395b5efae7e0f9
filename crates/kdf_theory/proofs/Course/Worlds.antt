-- Which program is next, in the worlds that are built.
use Rattle.std.proofs.Common.{◌≡◌, ℕ, List, [], ◌∷◌, Some, Bool, true, false, cond, not, refl}
use Rattle.std.specs.Prelude.{find, is_some}
use Rattle.std.proofs.lemmas.Bool.{and_parts}
use Rattle.kdf_journal.specs.declared.entry.Entry.{Entry}
use Rattle.kdf_journal.specs.Counts.{last_hold, over, priorities}
use Rattle.kdf_transfer.specs.Slots.{Slot}
use Rattle.kdf_processor.specs.State.{State}
use Rattle.kdf_theory.specs.Slots.{slot_of}
use Rattle.kdf_theory.specs.ByJournal.{world_after}
use Rattle.kdf_theory.specs.World.{World}
use Rattle.kdf_course.specs.World as course
use Rattle.kdf_course.specs.World.{can_go, lives, stands}
use Rattle.kdf_theory.specs.Next.{dispatched, next, there_in}

-- which program is next doesn't hang on the states
pub next-world : (states others : ℕ → State) (slots : List Slot) (J : List Entry)
    → next (world_after slots J states) slots J ≡ next (world_after slots J others) slots J
unfolding course.next can_go
next-world states others slots J = refl

find_step : {X : Type 0} (f : X → Bool) (xs : List X) (x y : X) (b : Bool) → f y ≡ b → (find f xs ≡ Some x → f x ≡ true) → cond b (Some y) (find f xs) ≡ Some x
    → f x ≡ true
find_step f xs x y true t rest s = let same : y ≡ x = cc in rw (← same) t
find_step f xs x y false t rest s = rest s

pub find_true : {X : Type 0} (f : X → Bool) (xs : List X) (x : X) → find f xs ≡ Some x → f x ≡ true
find_true f [] x e = cc
find_true f (y ∷ xs) x e = find_step f xs x y (f y) refl (find_true f xs x) e

next_lives : (w : World) (slots : List Slot) (J : List Entry) (p : ℕ) → next w slots J ≡ Some p → lives (there_in slots) J p ≡ true
unfolding course.next can_go
next_lives w slots J p n = (and_parts (lives (there_in slots) J p) (not (stands (dispatched slots w) p (last_hold p J)))
    (find_true (can_go (dispatched slots w) J) (priorities J) p n)).0

-- the next program hasn't ended or failed
pub next_on : (w : World) (slots : List Slot) (J : List Entry) (p : ℕ) → next w slots J ≡ Some p → not (over p J) ≡ true
unfolding lives
next_on w slots J p n = (and_parts (is_some (slot_of slots p)) (not (over p J)) (next_lives w slots J p n)).1

-- and there is a slot of it
pub next_slot : (w : World) (slots : List Slot) (J : List Entry) (p : ℕ) → next w slots J ≡ Some p → is_some (slot_of slots p) ≡ true
unfolding lives
next_slot w slots J p n = (and_parts (is_some (slot_of slots p)) (not (over p J)) (next_lives w slots J p n)).0
