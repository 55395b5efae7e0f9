-- What became of the calls of a run for one program.
use Rattle.std.specs.Prelude.{ℕ, ◌+◌}
use Rattle.kdf_account.specs.declared.tally.Class.{Class}
use Rattle.kdf_account.specs.declared.tally.Class.TheVariants.{Running, Ready, Group, Device, Pool, Over}
use Rattle.kdf_account.specs.declared.tally.Tally.{Tally}

-- all calls of a tally
abbrev pub total : Tally → ℕ
total t = t.running + t.ready + t.group + t.device + t.pool + t.over

-- a tally with so many calls more of a class
abbrev pub charged : Tally → Class → ℕ → Tally
charged t Running n = record t { running = t.running + n }
charged t Ready n = record t { ready = t.ready + n }
charged t Group n = record t { group = t.group + n }
charged t Device n = record t { device = t.device + n }
charged t Pool n = record t { pool = t.pool + n }
charged t Over n = record t { over = t.over + n }
