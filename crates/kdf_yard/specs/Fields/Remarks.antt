-- What is noted of an order beside how it ended.
use Rattle.std.specs.Prelude.{true, false}
use Rattle.kdf_processor.specs.Effect.{Question, FreeOf, Act, Nothing, Writes, Starts, Asks, Acquires, Releases, Spools}
use Rattle.kdf_yard.specs.declared.remark.Remark.{Remark}
use Rattle.kdf_yard.specs.declared.remark.Remark.TheVariants.{Quiet, Began, Told, Took, Gave}

-- the note after an act
abbrev pub note_after : Act → Remark → Remark
note_after Nothing note = note
note_after (Writes a w) note = note
note_after (Starts d o first last) note = Began d
note_after (Asks (FreeOf kind) answer) note = Took answer
note_after (Asks question answer) note = Told answer
note_after (Acquires d) note = note
note_after (Releases true d) note = Gave d
note_after (Releases false d) note = note
note_after (Spools stream first last) note = note

-- the note of an order whose act this is
abbrev pub note_of : Act → Remark
note_of act = note_after act Quiet

-- a question that takes nothing from the pool
abbrev pub IsPlain : Question → Type 0
IsPlain (FreeOf kind) = ⊥
IsPlain question = Unit {0}
