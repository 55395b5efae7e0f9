-- The decks of a job: those that can be read and placed, and the first that has a fault.
use Rattle.std.specs.Prelude.{◌≡◌, ℕ, ◌≤◌, List, [], ◌∷◌, length, Option, Some, None, Result, Ok, Err}
use Rattle.kdf_usercode.specs.Faults.{FoundFault, found}
use Rattle.kdf_place.specs.Placement.{Picture}
use Rattle.kdf_place.specs.Assembled.{assembled}
use Rattle.kdf_top.specs.declared.decks.DecksError.{DecksError}
use Rattle.kdf_top.specs.declared.decks.DecksError.TheVariants.{Fault, Memory}
use Rattle.kdf_job.specs.declared.job.TheConstants.{TEXT_LIMIT}
use Rattle.kdf_job.specs.declared.job.SlotJob.{SlotJob}
use Rattle.kdf_job.specs.Job.{ShownSlot}

-- the deck can be read, and placed in a store of the slot's size
abbrev pub IsDeck : SlotJob → Type 0
IsDeck s = (s.size ≤ 8192) × (length s.deck.items ≤ TEXT_LIMIT)

-- the fault of slot p, or the first of those after it
abbrev pub first_of : ℕ → Result Picture FoundFault → Option (ℕ × FoundFault) → Option (ℕ × FoundFault)
first_of p (Ok picture) later = later
first_of p (Err fault) later = Some (p, fault)

-- the first slot whose deck has a fault, and the fault
abbrev pub deck_fault : List ShownSlot → Option (ℕ × FoundFault)
deck_fault [] = None
deck_fault (slot ∷ slots) = first_of slot.p (assembled slot.size slot.deck) (deck_fault slots)

-- the error tells the fault; or there was no memory, which tells nothing
abbrev pub Tells : DecksError → Option (ℕ × FoundFault) → Type 0
Tells (Fault slot fault place) first = first ≡ Some (slot, found fault place)
Tells Memory first = Unit {0}
