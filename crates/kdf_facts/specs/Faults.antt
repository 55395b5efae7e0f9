-- What the facts of a fault begin with.
use Rattle.std.specs.Prelude.{ℕ, List, ◌++◌, codes}
use Rattle.kdf_account.specs.Json.{number}
use Rattle.kdf_job.specs.Faults as job
use Rattle.kdf_job.specs.declared.fault.JobFault.{JobFault}
use Rattle.kdf_job.specs.declared.fault.JobFault.TheVariants.{Header, BadLine, BadNumber, SlotOrder, SizeNotGroups, StoreFull, DeviceTwice, BadLabel}
use Rattle.kdf_job.specs.declared.fault.JobFault.TheVariants.{LabelTwice, BadMedium, ShowRange, ClockFalls, TooManyOrders, TooManyEvents, PoolKind}
use Rattle.kdf_usercode.specs.Faults as deck
use Rattle.kdf_usercode.specs.declared.fault.DeckFault.{DeckFault}

-- the faults of a job, in the order in which a line has them
abbrev pub number_of_job : JobFault → ℕ
number_of_job Header = 1
number_of_job BadLine = 2
number_of_job BadNumber = 3
number_of_job SlotOrder = 4
number_of_job SizeNotGroups = 5
number_of_job StoreFull = 6
number_of_job DeviceTwice = 7
number_of_job BadLabel = 8
number_of_job LabelTwice = 9
number_of_job BadMedium = 10
number_of_job ShowRange = 11
number_of_job ClockFalls = 12
number_of_job TooManyOrders = 13
number_of_job TooManyEvents = 14
number_of_job PoolKind = 15

-- what stands before the name of a fault
unfoldable pub job_opening : List ℕ
job_opening = codes "{\"format\":\"kdf9-facts 1\",\"kind\":\"fault\",\"of\":\"job\",\"name\":\""

unfoldable pub deck_opening : List ℕ
deck_opening = codes "{\"format\":\"kdf9-facts 1\",\"kind\":\"fault\",\"of\":\"deck\",\"name\":\""

-- the name of a fault of a job with its number, and its line
unfoldable pub job_named : List ℕ → ℕ → ℕ → List ℕ
job_named name n line = name ++ number (codes "\",\"number\":") n (number (codes ",\"line\":") line (codes ","))

-- the name of a fault of a deck with its number, its slot, and its place in the deck
unfoldable pub deck_named : List ℕ → ℕ → ℕ → ℕ → List ℕ
deck_named name n slot place =
    name ++ number (codes "\",\"number\":") n (number (codes ",\"slot\":") slot (number (codes ",\"offset\":") place (codes ",")))

-- a fault of a job, and its line
abbrev pub job_front : JobFault → ℕ → List ℕ
job_front fault line = job_opening ++ job_named (job.job_fault_name fault) (number_of_job fault) line

-- a fault of the deck of a slot, and its place in the deck
abbrev pub deck_front : ℕ → DeckFault → ℕ → List ℕ
deck_front slot fault place = deck_opening ++ deck_named (deck.deck_fault_name fault) (deck.number_of fault) slot place
