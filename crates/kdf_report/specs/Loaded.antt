-- The slots of a job, as they are loaded.
use Rattle.std.specs.Prelude.{ℕ, ◌==◌, List, find, map, Option}
use Rattle.kdf_place.specs.Assembled.{image_words}
use Rattle.kdf_transfer.specs.Slots.{Slot}
use Rattle.kdf_job.specs.Job.{ShownJob, ShownSlot}
use Rattle.kdf_theory.specs.Loading as loading

-- the words of the images of these slots' decks
abbrev pub images_of : List ShownSlot → List (List ℕ)
images_of slots = map (λ (s : ShownSlot). image_words s.size s.deck) slots

-- each slot with the image of its deck
abbrev pub slots_of : ShownJob → List Slot
slots_of job = loading.slots_of job.slots (images_of job.slots)

-- the slot of this number
abbrev pub slot_numbered : List ShownSlot → ℕ → Option ShownSlot
slot_numbered slots p = find (λ (s : ShownSlot). s.p == p) slots
