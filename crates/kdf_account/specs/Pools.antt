-- The devices of a pool.
use Rattle.std.specs.Prelude.{ℕ, ◌+◌, List, min, fold}
use Rattle.kdf_journal.specs.declared.kind.Kind.{Kind}
use Rattle.kdf_journal.specs.declared.kind.Kind.TheVariants.{Tp, Lp}
use Rattle.kdf_account.specs.declared.moment.Free.{Free}

-- with one device more of a kind; no pool has more than 255
abbrev pub with_one : Free → Kind → Free
with_one free Tp = record free { punches = min (free.punches + 1) 255 }
with_one free Lp = record free { printers = min (free.printers + 1) 255 }
with_one free kind = free

-- how many devices of a pool there are of each kind that it lends
abbrev pub free_of : List (ℕ × Kind) → Free
free_of pool = fold (λ free (device : ℕ × Kind). with_one free device.1) (record { punches = 0; printers = 0 }) pool
