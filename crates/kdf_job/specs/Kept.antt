-- What is kept beside the lines of a job while it is read, and what holds of them.
use Rattle.std.specs.Prelude.{◌≡◌, ℕ, ◌≤◌, true, List, [], map, Option, Some, None, All, nat_eq, is_some}
use Rattle.std.specs.List.{IsDistinct}
use Rattle.kdf_journal.specs.declared.kind.Kind.{Kind}
use Rattle.kdf_job.specs.declared.line_place.LinePlace.{LinePlace}
use Rattle.kdf_job.specs.declared.line_place.LinePlace.TheVariants.{First, BehindHeader, BehindSlot, BehindPool, InSchedule, BehindEnd}
use Rattle.kdf_job.specs.Draft.{ShownSlotDraft, ShownDraft, numbers_of, numbers_told, slot_fault, slots_told, words_in}
use Rattle.kdf_job.specs.Job.{ShownSlot}
use Rattle.kdf_job.specs.WellFormed.{AreRising, IsLent, IsSchedule, IsSlot}
use Rattle.kdf_job.specs.Limits.{most_words_together}

-- the first slot is after no other
abbrev pub IsBegun : List ShownSlot → Option ShownSlotDraft → Type 0
IsBegun slots None = slots ≡ []
IsBegun slots (Some s) = Unit {0}

-- a number waits for its slot, or there is a slot
abbrev pub IsPlaced : LinePlace → Option ShownSlotDraft → Type 0
IsPlaced First slot = Unit {0}
IsPlaced BehindHeader slot = Unit {0}
IsPlaced (BehindSlot p) slot = (p ≤ 3) × (slot_fault p slot ≡ None)
IsPlaced _ slot = is_some slot ≡ true

-- the slots so far, none of which knows of a pool
pub record AreTold (slots : List ShownSlot) : Type 0 where
  pub each : All IsSlot slots
  pub rising : AreRising (map (λ (s : ShownSlot). s.p) slots)
  pub fits : words_in slots ≤ most_words_together
  pub apart : IsDistinct nat_eq (numbers_of slots)

-- no device is lent out before the pool begins
abbrev pub IsUntold : LinePlace → List (ℕ × Kind) → Type 0
IsUntold BehindPool pool = Unit {0}
IsUntold InSchedule pool = Unit {0}
IsUntold BehindEnd pool = Unit {0}
IsUntold _ pool = pool ≡ []

-- the sum of the sizes and the numbers of the devices are those of the slots and the pool, and all is well formed so
-- far
pub record IsKept (words : ℕ) (numbers : List ℕ) (d : ShownDraft) : Type 0 where
  pub sum : words ≡ words_in (slots_told d)
  pub all : numbers ≡ numbers_told d
  pub slots : AreTold (slots_told d)
  pub lent : All (λ (x : ℕ × Kind). IsLent x) d.pool
  pub owned : IsDistinct nat_eq (numbers_told d)
  pub schedule : IsSchedule d.events
  pub begun : IsBegun d.slots d.slot
  pub placed : IsPlaced d.place d.slot
  pub untold : IsUntold d.place d.pool
