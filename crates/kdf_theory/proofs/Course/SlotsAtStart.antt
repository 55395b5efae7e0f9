-- What a slot that is loaded gives its program.
use Rattle.std.proofs.Common.{◌≡◌, ℕ, ◌-◌, ◌≤◌, List, [], ◌∷◌, length, Option, Some, None, Bool, true, false, cond, eqb, refl, arith}
use Rattle.std.specs.Prelude.{replicate, find}
use Rattle.std.specs.List.{All}
use Rattle.std.proofs.lemmas.List.Elements.{All-head, All-tail}
use Rattle.std.proofs.lemmas.List.{length-append, length-replicate}
use Rattle.kdf_transfer.specs.Slots.{Slot}
use Rattle.kdf_processor.specs.State.{filled}
use Rattle.kdf_theory.specs.Slots.{IsSlot, AreSlots, slot_of, start_of, start}

filled_size : (size : ℕ) (words : List ℕ) → length words ≤ size → length (filled size words) ≡ size
filled_size size words fits =
    omega (arith, length-append words (replicate (size - length words) 0), length-replicate {A = ℕ} (size - length words) 0)

-- what holds of each slot holds of the one that is found
abbrev pub IfSlot : Option Slot → Type 0
IfSlot None = Unit {0}
IfSlot (Some s) = IsSlot s

found_one : (b : Bool) (s : Slot) (rest : Option Slot) → IsSlot s → IfSlot rest → IfSlot (cond b (Some s) rest)
found_one true s rest this others = this
found_one false s rest this others = others

found : (slots : List Slot) (p : ℕ) → All IsSlot slots → IfSlot (find (λ (s : Slot). eqb s.p p) slots)
found [] p each = tt
found (s ∷ slots) p each = found_one (eqb s.p p) s (find (λ (t : Slot). eqb t.p p) slots) (All-head IsSlot s slots each)
    (found slots p (All-tail IsSlot s slots each))

sized_at : (o : Option Slot) → IfSlot o → length (start_of o).stock.store ≡ (start_of o).stock.claims.size
sized_at None is = refl
sized_at (Some s) is = filled_size s.size s.words is.fits

-- the store of each program has the words of its size
pub start-sized : (slots : List Slot) (p : ℕ) → AreSlots slots → length (start slots p).stock.store ≡ (start slots p).stock.claims.size
start-sized slots p are = sized_at (slot_of slots p) (found slots p are.each)

pub found_slot : (slots : List Slot) (p : ℕ) → All IsSlot slots → IfSlot (slot_of slots p)
found_slot slots p each = found slots p each
