-- The ranges of numbers, and the faults of those that are outside.
use Rattle.std.specs.Prelude.{ℕ, ◌&&◌, nat_le, List, [], ◌∷◌, ◌++◌, drop, slice_index, if◌then◌else◌}
use Rattle.kdf_usercode.specs.declared.fault.DeckFault.{DeckFault}
use Rattle.kdf_usercode.specs.declared.fault.DeckFault.TheVariants.{BadNumber, QRange}
use Rattle.kdf_usercode.specs.declared.range.Range.{Range}

-- ---- ranges

-- from the least to the greatest; any other number has this fault
abbrev pub between : ℕ → ℕ → DeckFault → Range
between low high fault = record { low = low; high = high; fault = fault }

-- the number of a Q-store
abbrev pub q_range : Range
q_range = between 0 15 QRange

-- a reference
abbrev pub reference_range : Range
reference_range = between 1 9999 BadNumber

-- a part that a target or a store names
abbrev pub part_range : Range
part_range = between 0 999 BadNumber

-- a part that is opened
abbrev pub opened_range : Range
opened_range = between 1 999 BadNumber

-- the number of a store
abbrev pub store_range : Range
store_range = between 0 32767 BadNumber

-- ---- numbers outside

-- the fault of a number
abbrev pub range_fault : Range → ℕ → List DeckFault
range_fault r n = if nat_le r.low n && nat_le n r.high then [] else r.fault ∷ []

-- the faults of some numbers, of which each has its range
abbrev pub range_faults : List Range → List ℕ → List DeckFault
range_faults [] ns = []
range_faults (r ∷ rs) ns = range_fault r (slice_index ns 0) ++ range_faults rs (drop 1 ns)
