-- What is loaded: the slots of a job with the words of their images, and what holds of those of a job that is well formed.
use Rattle.std.specs.Prelude.{ℕ, ◌≤◌, Bool, List, [], ◌∷◌, length, map, ◌==◌, ◌≡◌, true, false, sum_by, ◌%◌, ◌<◌, is_some}
use Rattle.std.specs.List.{All, AllPairs, list_any}
use Rattle.kdf_journal.specs.declared.kind.Kind.{Kind}
use Rattle.kdf_transfer.specs.Slots.{Slot}
use Rattle.kdf_job.specs.Job.{JobDevice, ShownSlot}
use Rattle.kdf_job.specs.Slots.{lent_kind, slot_with}
use Rattle.kdf_limits.specs.declared.store.TheConstants.{PROGRAMS_WORDS}

-- what is loaded as a slot: its number, the size of its store, the words of its image, its devices, and those of the
-- pool, in the order of the job; and whether it is served
pub record SlotLoad : Type 0 where
  pub p : ℕ
  pub size : ℕ
  pub words : List ℕ
  pub devices : List JobDevice
  pub pool : List (ℕ × Kind)
  pub served : Bool

-- the slot: the words at the front of its store, and its devices by number
abbrev pub loaded_slot : SlotLoad → Slot
loaded_slot l = slot_with l.p l.size l.words l.devices l.pool l.served

-- what is loaded of a job: each slot with the words of its image
abbrev pub load_of : ShownSlot → List ℕ → SlotLoad
load_of s words =
    record { p = s.p; size = s.size; words = words; devices = s.devices; pool = s.pool; served = s.served }

abbrev pub loads : List ShownSlot → List (List ℕ) → List SlotLoad
loads [] images = []
loads (s ∷ slots) [] = []
loads (s ∷ slots) (words ∷ images) = load_of s words ∷ loads slots images

-- the slots of a job with their images
abbrev pub slots_of : List ShownSlot → List (List ℕ) → List Slot
slots_of slots images = map loaded_slot (loads slots images)

-- each slot has an image, which fits its store
abbrev pub HaveImages : List ShownSlot → List (List ℕ) → Type 0
HaveImages [] [] = Unit {0}
HaveImages [] (words ∷ images) = ⊥
HaveImages (s ∷ slots) [] = ⊥
HaveImages (s ∷ slots) (words ∷ images) = (length words ≤ s.size) × HaveImages slots images

-- one of these devices has the number
abbrev pub owns : List ℕ → ℕ → Bool
owns devices d = list_any (λ n. n == d) devices

-- the numbers of a slot's devices, and whether one of them has this number
abbrev pub numbers_in : List JobDevice → List ℕ
numbers_in devices = map (λ (x : JobDevice). x.d) devices

abbrev pub has : SlotLoad → ℕ → Bool
has l d = owns (numbers_in l.devices) d

-- no device number is in both
abbrev pub AreApart : SlotLoad → SlotLoad → Type 0
AreApart a b = (d : ℕ) → has a d ≡ true → has b d ≡ false

-- each slot's number is below those of the later ones
abbrev pub IsBelow : SlotLoad → SlotLoad → Type 0
IsBelow a b = a.p < b.p

-- a device of the pool has this number
abbrev pub lends : SlotLoad → ℕ → Bool
lends l d = is_some (lent_kind l.pool d)

-- one of four slots: whole groups, which the words fit, and devices of sixteen, of which none is the pool's
pub record IsLoad (l : SlotLoad) : Type 0 where
  pub number : l.p < 4
  pub groups : l.size % 32 ≡ 0
  pub fits : length l.words ≤ l.size
  pub below : All (λ n. n < 16) (numbers_in l.devices)
  pub few : (d : ℕ) → lends l d ≡ true → d < 16
  pub owned : (d : ℕ) → has l d ≡ true → lends l d ≡ false

-- the numbers of the slots rise, their stores fit together, no device's number is of two slots, and the pool is common
pub record AreLoads (slots : List SlotLoad) : Type 0 where
  pub each : All IsLoad slots
  pub rising : AllPairs IsBelow slots
  pub total : sum_by (λ (l : SlotLoad). l.size) slots ≤ PROGRAMS_WORDS
  pub apart : AllPairs AreApart slots
  pub common : AllPairs (λ (a b : SlotLoad). a.pool ≡ b.pool) slots
