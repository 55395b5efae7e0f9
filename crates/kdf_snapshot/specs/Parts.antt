-- What a snapshot that was split shows.
use Rattle.std.specs.Prelude.{◌≡◌, ℕ, ◌+◌, ◌≤◌, Result, Err, length}
use Rattle.kdf_snapshot.specs.declared.fault.SnapshotFault.{SnapshotFault}
use Rattle.kdf_snapshot.specs.declared.fault.SplitError.{SplitError}
use Rattle.kdf_snapshot.specs.declared.fault.SplitError.TheVariants.{Fault, Memory}
use Rattle.kdf_snapshot.specs.declared.parts.Parts.{Parts}
use Rattle.kdf_snapshot.specs.Snapshot.{ShownParts}

abbrev pub shown_parts : Parts → ShownParts
shown_parts p =
    record {
      entries = p.entries.items;
      seal_from = p.seal_from;
      seal_to = p.seal_to;
      more_from = p.more_from;
      more_line = p.more_line;
    }

-- the error tells the fault that is found; or there was no memory, which tells nothing
abbrev pub Says : {A : Type 0} → SplitError → Result A (SnapshotFault × ℕ) → Type 0
Says (Fault fault line) found = found ≡ Err (fault, line)
Says Memory found = Unit {0}

-- the offsets don't fall and are within so many bytes, and the parts have no more lines than bytes
pub record IsInside (first size : ℕ) (p : Parts) : Type 0 where
  pub seal : p.seal_from ≤ p.seal_to
  pub more : p.seal_to ≤ p.more_from
  pub end : p.more_from ≤ size
  pub entries : length p.entries.items ≤ p.seal_from
  pub line : p.more_line ≤ first + p.more_from
