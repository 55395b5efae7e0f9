-- The names of the faults of a job.
use Rattle.std.specs.Prelude.{ℕ, List, codes}
use Rattle.kdf_job.specs.declared.fault.JobFault.{JobFault}
use Rattle.kdf_job.specs.declared.fault.JobFault.TheVariants.{Header, BadLine, BadNumber, SlotOrder, SizeNotGroups, StoreFull, DeviceTwice, BadLabel}
use Rattle.kdf_job.specs.declared.fault.JobFault.TheVariants.{LabelTwice, BadMedium, ShowRange, ClockFalls, TooManyOrders, TooManyEvents, PoolKind}

-- the name of each fault
abbrev pub job_fault_name : JobFault → List ℕ
job_fault_name Header = codes "Header"
job_fault_name BadLine = codes "BadLine"
job_fault_name BadNumber = codes "BadNumber"
job_fault_name SlotOrder = codes "SlotOrder"
job_fault_name SizeNotGroups = codes "SizeNotGroups"
job_fault_name StoreFull = codes "StoreFull"
job_fault_name DeviceTwice = codes "DeviceTwice"
job_fault_name BadLabel = codes "BadLabel"
job_fault_name LabelTwice = codes "LabelTwice"
job_fault_name BadMedium = codes "BadMedium"
job_fault_name ShowRange = codes "ShowRange"
job_fault_name ClockFalls = codes "ClockFalls"
job_fault_name TooManyOrders = codes "TooManyOrders"
job_fault_name TooManyEvents = codes "TooManyEvents"
job_fault_name PoolKind = codes "PoolKind"
