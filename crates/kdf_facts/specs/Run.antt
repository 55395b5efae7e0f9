-- What is told of a run.
use Rattle.std.specs.Prelude.{◌≡◌, ℕ, List, ◌++◌, codes, map}
use Rattle.kdf_account.specs.Json.{calls_json, moments_json}
use Rattle.kdf_account.specs.Moments.{AreCounted, entries_of}
use Rattle.kdf_account.specs.declared.moment.Moment.{Moment}
use Rattle.kdf_account.specs.Pools.{free_of}
use Rattle.kdf_job.specs.Job.{ShownJob, ShownSlot}
use Rattle.kdf_journal.specs.declared.entry.Entry.{Entry}
use Rattle.kdf_theory.specs.Served.{IsJournalFor}
use Rattle.kdf_top.specs.Loaded.{slots_of}

-- what stands before the moments of a run, and between them and the calls
unfoldable pub opening : List ℕ
opening = codes "{\"format\":\"kdf9-facts 1\",\"kind\":\"run\",\"entries\":[\n"

unfoldable pub between : List ℕ
between = codes "],\n\"calls\":["

-- what the facts of a run begin with: its moments, and what became of the calls for the program of each slot
abbrev pub run_front : ShownJob → List Moment → List ℕ
run_front job ms = opening ++ moments_json ms ++ between ++ calls_json (free_of job.pool) ms (map (λ (s : ShownSlot). s.p) job.slots)

-- a text begins with this one
abbrev pub Begins : List ℕ → List ℕ → Type 0
Begins front text = (rest : List ℕ) × (text ≡ front ++ rest)

-- a text tells this journal: it has a moment for each of its entries, with the number of calls before it
abbrev pub TellsRun : ShownJob → List Entry → List ℕ → Type 0
TellsRun job J text = (ms : List Moment) × (entries_of ms ≡ J) × AreCounted ms × Begins (run_front job ms) text

-- a text tells the journal of a job: that of the machine that runs it
abbrev pub IsRunTold : (answers : ℕ → ℕ → Type 0) → ShownJob → List ℕ → Type 0
IsRunTold answers job text = (J : List Entry) × IsJournalFor answers (slots_of job) job.events J × TellsRun job J text
