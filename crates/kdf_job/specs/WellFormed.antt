-- What holds of every job that is read.
use Rattle.std.specs.Prelude.{◌≡◌, ℕ, ◌%◌, ◌<◌, ◌≤◌, true, List, [], ◌∷◌, ◌++◌, length, map, All, AllPairs, nat_eq}
use Rattle.std.specs.List.{IsDistinct}
use Rattle.kdf_journal.specs.declared.kind.Kind.{Kind}
use Rattle.kdf_schedule.specs.declared.event.Event.{Event}
use Rattle.kdf_schedule.specs.declared.event.Event.TheVariants.{Clock}
use Rattle.kdf_schedule.specs.Calls.{order_count}
use Rattle.kdf_schedule.specs.Events.{IsInRange}
use Rattle.kdf_job.specs.declared.job.TheConstants.{TEXT_LIMIT}
use Rattle.kdf_job.specs.Draft.{is_writer, pool_numbers, numbers_of, words_in}
use Rattle.kdf_job.specs.Job.{JobDevice, ShownSlot, ShownJob}
use Rattle.kdf_job.specs.Limits.{group, most_words, most_words_together, device_limit, most_orders, most_events}

-- the addresses don't fall and are below the size
abbrev pub IsShow : ℕ → ℕ × ℕ → Type 0
IsShow size x = (x.0 ≤ x.1) × (x.1 < size)

-- a device that may be lent out
abbrev pub IsLent : ℕ × Kind → Type 0
IsLent x = (x.0 < device_limit) × (is_writer x.1 ≡ true)

pub record IsSlot (s : ShownSlot) : Type 0 where
  pub number : s.p < 4
  pub least : group ≤ s.size
  pub most : s.size ≤ most_words
  pub groups : s.size % group ≡ 0
  pub deck : length s.deck ≤ TEXT_LIMIT
  pub devices : All (λ n. n < device_limit) (map (λ (x : JobDevice). x.d) s.devices)
  pub shows : All (IsShow s.size) s.shows
  pub lent : All (λ (x : ℕ × Kind). IsLent x) s.pool

abbrev pub AreRising : List ℕ → Type 0
AreRising [] = Unit {0}
AreRising (p ∷ []) = Unit {0}
AreRising (p ∷ q ∷ ps) = (p < q) × AreRising (q ∷ ps)

-- where the time is t, no event sets it back
abbrev pub IsRising : ℕ → List Event → Type 0
IsRising t [] = Unit {0}
IsRising t (Clock u ∷ events) = (t ≤ u) × IsRising u events
IsRising t (event ∷ events) = IsRising t events

-- the numbers of the slots rise, their stores fit together, no device's number stands twice, and all slots have the
-- same pool, of whose numbers none stands twice or is that of a slot's device
pub record AreSlots (slots : List ShownSlot) : Type 0 where
  pub each : All IsSlot slots
  pub rising : AreRising (map (λ (s : ShownSlot). s.p) slots)
  pub fits : words_in slots ≤ most_words_together
  pub apart : IsDistinct nat_eq (numbers_of slots)
  pub common : AllPairs (λ (a b : ShownSlot). a.pool ≡ b.pool) slots
  pub owned : All (λ (s : ShownSlot). IsDistinct nat_eq (numbers_of slots ++ pool_numbers s.pool)) slots

pub record IsSchedule (events : List Event) : Type 0 where
  pub each : All IsInRange events
  pub few : length events ≤ most_events
  pub few_orders : order_count events ≤ most_orders
  pub rising : IsRising 0 events

-- what holds of every job that is read
pub record IsJob (j : ShownJob) : Type 0 where
  pub some : 1 ≤ length j.slots
  pub slots : AreSlots j.slots
  pub schedule : IsSchedule j.events
  pub pool : All (λ (s : ShownSlot). s.pool ≡ j.pool) j.slots
