-- Lines that are read one after the other.
use Rattle.std.specs.Prelude.{◌≡◌, ℕ, ◌+◌, ◌≤◌, Some, None, drop, length, take}
use Rattle.std.specs.List.{position_from}
use Rattle.kdf_text.specs.Ahead.{ahead}
use Rattle.kdf_text.specs.Lines.{is_text}
use Rattle.kdf_text.specs.Text.{text}
use Rattle.kdf_snapshot.specs.declared.cursor.Cursor.{Cursor}
use Rattle.kdf_snapshot.specs.Snapshot.{end_line}

-- so many lines were passed
pub record Passed (n : ℕ) (old new : Cursor) : Type 0 where
  pub rest : ahead new.lines ≡ drop n (ahead old.lines)
  pub number : new.lines.number ≡ old.lines.number + n
  pub offset : new.offset ≡ old.offset + length (text (take n (ahead old.lines)))
  pub within : n ≤ length (ahead old.lines)

-- lines were passed, and then ENDSNAPSHOT, the first of them, which begins at this offset
pub record PassedEnd (old new : Cursor) (begin : ℕ) : Type 0 where
  pub sealed : ℕ
  pub first : (k : ℕ) → position_from (is_text end_line) k (ahead old.lines) ≡ Some (k + sealed)
  pub passed : Passed (sealed + 1) old new
  pub begins : begin ≡ old.offset + length (text (take sealed (ahead old.lines)))

-- all lines were passed, of which none is ENDSNAPSHOT
pub record PassedAll (old new : Cursor) : Type 0 where
  pub none : (k : ℕ) → position_from (is_text end_line) k (ahead old.lines) ≡ None
  pub passed : Passed (length (ahead old.lines)) old new
