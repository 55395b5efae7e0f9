-- What is said of something that may be added to.
use Rattle.std.specs.Prelude.{◌≡◌, Bool, true, false, Option, Some, None, Result, Ok, Err}
use Rattle.kdf_job.specs.declared.fault.JobFault.{JobFault}
use Rattle.kdf_job.specs.declared.fault.JobFault.TheVariants.{BadMedium}
use Rattle.kdf_job.specs.declared.line_error.LineError.{LineError}
use Rattle.kdf_job.specs.declared.line_error.LineError.TheVariants.{Fault, Memory}
use Rattle.kdf_job.specs.Job.{JobDevice}

-- what was to come of it has come, and might; or it might not
abbrev pub IsAdded : {X : Type 0} → Bool → X → X → Result (Unit {0}) LineError → Type 0
IsAdded may due new (Ok x) = (may ≡ true) × (new ≡ due)
IsAdded may due new (Err (Fault fault)) = (may ≡ false) × (fault ≡ BadMedium)
IsAdded may due new (Err Memory) = Unit {0}

-- the device with a line more was to be found, or none
abbrev pub IsFound : Option JobDevice → JobDevice → Result (Unit {0}) LineError → Type 0
IsFound found new (Ok x) = found ≡ Some new
IsFound found new (Err (Fault fault)) = (found ≡ None) × (fault ≡ BadMedium)
IsFound found new (Err Memory) = Unit {0}

-- without the fault what was due has come
abbrev pub IsChecked : {X : Type 0} → Option JobFault → X → X → Result (Unit {0}) LineError → Type 0
IsChecked fault due new (Ok x) = (fault ≡ None) × (new ≡ due)
IsChecked fault due new (Err (Fault found)) = fault ≡ Some found
IsChecked fault due new (Err Memory) = Unit {0}
