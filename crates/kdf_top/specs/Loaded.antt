-- The slots of a job with the images of their decks, and how they are loaded.
use Rattle.std.specs.Prelude.{◌≡◌, ℕ, ◌≤◌, List, length, map, Some, None, Result, Ok}
use Rattle.kdf_usercode.specs.Faults.{FoundFault}
use Rattle.kdf_place.specs.Assembled.{assembled}
use Rattle.kdf_place.specs.Placement.{Picture, shown_image}
use Rattle.kdf_place.specs.declared.image.Image.{Image}
use Rattle.kdf_job.specs.declared.job.Job.{Job}
use Rattle.kdf_job.specs.declared.job.SlotJob.{SlotJob}
use Rattle.kdf_job.specs.Job.{ShownJob, ShownSlot}
use Rattle.kdf_job.specs.Shows.{shown_job, shown_slot}
use Rattle.kdf_job.specs.WellFormed.{IsJob, IsSlot}
use Rattle.kdf_alone.specs.Program.{IsApart}
use Rattle.kdf_theory.specs.Loading.{HaveImages}
use Rattle.kdf_top.specs.Deck.{deck_fault}
pub use Rattle.kdf_report.specs.Loaded.{images_of, slot_numbered, slots_of}

-- what the decks of these slots come to
abbrev pub pictures_of : List ShownSlot → List (Result Picture FoundFault)
pictures_of slots = map (λ (s : ShownSlot). assembled s.size s.deck) slots

-- these are the images of the slots' decks, each of which fits its store
pub record HasImages (slots : List ShownSlot) (images : List Image) : Type 0 where
  pub pictures : map (λ (x : Image). Ok (shown_image x)) images ≡ pictures_of slots
  pub fits : HaveImages slots (images_of slots)

-- the slot of number p, and the image of its deck
pub record IsFound (slots : List ShownSlot) (p : ℕ) (slot : SlotJob) (image : Image) : Type 0 where
  pub found : slot_numbered slots p ≡ Some (shown_slot slot)
  pub well_formed : IsSlot (shown_slot slot)
  pub apart : IsApart (shown_slot slot)
  pub picture : assembled slot.size slot.deck.items ≡ Ok (shown_image image)
  pub fits : length image.words.items ≤ slot.size

-- a job that was read, with the images of its decks
pub record IsLoaded (j : ShownJob) (read : Job) (made : List Image) : Type 0 where
  pub told : shown_job read ≡ j
  pub well_formed : IsJob (shown_job read)
  pub images : HasImages (shown_job read).slots made
  pub assembles : deck_fault j.slots ≡ None
