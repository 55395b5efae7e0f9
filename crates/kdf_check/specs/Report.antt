-- A printed report: its first line, and what its lines tell up to the first section.
use Rattle.std.specs.Prelude.{◌≡◌, ℕ, Bool, true, false, List, [], ◌∷◌, Option, Some, None, ◌+◌, if◌then◌else◌, codes, drop, nat_eq}
use Rattle.std.specs.List.{starts_with}
use Rattle.kdf_text.specs.Lines.{is_text, line, lines}
use Rattle.kdf_transfer.specs.Slots.{Slot}
use Rattle.kdf_journal.specs.declared.entry.Entry.{Entry}
use Rattle.kdf_journal.specs.Printed.{entry_in}
use Rattle.kdf_schedule.specs.declared.event.Event.{Event}
use Rattle.kdf_check.specs.declared.verdict.Verdict.{Verdict}
use Rattle.kdf_check.specs.declared.verdict.Verdict.TheVariants.{Yes, No}
use Rattle.kdf_check.specs.Verdict.{IsVerdict}

-- the first line of a report
abbrev pub head_line : List ℕ
head_line = codes "KDF9 REPORT 1"

-- a section begins with SLOT and a space
abbrev pub begins_section : List ℕ → Bool
begins_section l = starts_with nat_eq l (codes "SLOT ")

-- what the lines tell up to the first that begins a section, or to the end
abbrev pub told_from : List (List ℕ) → List (Option Entry)
told_from [] = []
told_from (l ∷ ls) = if begins_section l then [] else entry_in l ∷ told_from ls

-- what the lines of a report tell: those after the first
abbrev pub told_lines : List (List ℕ) → List (Option Entry)
told_lines ls = told_from (drop 1 ls)

-- the verdict on a text: where it is a report, that on what it tells
abbrev pub IsJudged : Bool → Type 0 → Verdict → Type 0
IsJudged true IsRight v = IsRight
IsJudged false IsRight v = v ≡ No 0

abbrev pub IsCheck : (answers : ℕ → ℕ → Type 0) → List Slot → List Event → List ℕ → Verdict → Type 0
IsCheck answers slots events bytes v =
    IsJudged (is_text head_line (line (lines bytes) 1))
    (IsVerdict answers slots events (told_lines (lines bytes)) v) v

-- the verdict on lines that differ from the journal at this place, or nowhere
abbrev pub verdict_at : Option ℕ → Verdict
verdict_at None = Yes
verdict_at (Some n) = No (n + 1)
