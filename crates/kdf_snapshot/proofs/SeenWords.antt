-- The words of a machine are those that are seen of its programs.
use Rattle.std.proofs.Common.{◌≡◌, ℕ, suc, Bool, true, false, cond, eqb, List, [], ◌∷◌, All, Some, None, IsSomeAnd, is_some, refl, ap, ◌∙◌, arith}
use Rattle.std.specs.Prelude.{unwrap_or}
use Rattle.std.specs.List.{flat_map}
use Rattle.kdf_transfer.specs.Slots.{Slot}
use Rattle.kdf_processor.specs.State.{State}
use Rattle.kdf_job.specs.Job.{ShownSlot}
use Rattle.kdf_theory.specs.MachineView.{MachineView, ShowsSeen, state_at, state_in, state_of}
use Rattle.kdf_theory.specs.Slots.{slot_of, start_of}
use Rattle.kdf_theory.specs.ByJournal.{seen_of}
use Rattle.kdf_director.proofs.Linking.OrdersEntered.{state_there}
use Rattle.kdf_snapshot.specs.Stores.{HasStore, slot_lines}

-- a program is one of a slot
its_slot : (slots : List Slot) (states : List State) (p : ℕ) (P : State → Type 0) → IsSomeAnd (state_in slots states p) P → is_some (slot_of slots p) ≡ true
its_slot [] states p P there = absurd there
its_slot (slot ∷ slots) [] p P there = absurd there
its_slot (slot ∷ slots) (state ∷ states) p P there = go (eqb slot.p p) (its_slot slots states p P) there
  where
    go : (b : Bool) → (IsSomeAnd (state_in slots states p) P → is_some (slot_of slots p) ≡ true) → IsSomeAnd (cond b (Some state) (state_in slots states p)) P
        → is_some (cond b (Some slot) (slot_of slots p)) ≡ true
    go true later there = refl
    go false later there = later there

seen_at : (m : MachineView) (p : ℕ) (P : State → Type 0) → ShowsSeen m → IsSomeAnd (state_of m p) P → state_at m p ≡ seen_of m.slots m.journal p
seen_at m p P shows there =
    ap (λ o. unwrap_or o (start_of None))
    (ap (λ states. state_in m.slots states p) shows ∙ state_there (seen_of m.slots m.journal) p m.slots (its_slot m.slots m.states p P there))

pub words_seen : (m : MachineView) → ShowsSeen m → (slots : List ShownSlot) → All (HasStore m) slots
    → flat_map (λ (slot : ShownSlot). slot_lines slot (state_at m slot.p)) slots
    ≡ flat_map (λ (slot : ShownSlot). slot_lines slot (seen_of m.slots m.journal slot.p)) slots
words_seen m shows [] has = refl
words_seen m shows (slot ∷ slots) has =
    let first : slot_lines slot (state_at m slot.p) ≡ slot_lines slot (seen_of m.slots m.journal slot.p) =
    ap (slot_lines slot) (seen_at m slot.p _ shows (has 0 slot (omega arith))) in
    let others = words_seen m shows slots (λ k d lt. has (suc k) d (omega arith)) in
    rw (first, others) refl
