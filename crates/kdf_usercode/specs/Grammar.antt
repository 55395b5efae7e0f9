-- The faults of a deck, and what it says.
use Rattle.std.specs.Prelude.{ℕ, Bool, ◌+◌, ◌&&◌, ◌||◌, ◌==◌, nat_le, List, [], ◌∷◌, ◌++◌, length, if◌then◌else◌, Option, Some, None, Result, Ok, Err}
use Rattle.std.specs.List.{flat_map}
use Rattle.kdf_usercode.specs.declared.bytes.ByteAt.{ByteAt}
use Rattle.kdf_usercode.specs.declared.fault.DeckFault.{DeckFault}
use Rattle.kdf_usercode.specs.declared.fault.DeckFault.TheVariants as faults
use Rattle.kdf_usercode.specs.declared.forms.Form.{Form}
use Rattle.kdf_usercode.specs.declared.phase.Phase.{Phase}
use Rattle.kdf_usercode.specs.declared.statement.Statement.{Statement}
use Rattle.kdf_usercode.specs.Bytes.{line_end, opening}
use Rattle.kdf_usercode.specs.Comments.{kept}
use Rattle.kdf_usercode.specs.Faults.{FoundFault, least, found, founds}
use Rattle.kdf_usercode.specs.Forms.{ranges_of, text_faults, what_of}
use Rattle.kdf_usercode.specs.Orders.{formless}
use Rattle.kdf_usercode.specs.Parsed.{Parsed, parses}
use Rattle.kdf_usercode.specs.Phase.{is_ended, start, is_in_place, phase_with}
use Rattle.kdf_usercode.specs.Pieces.{cut}
use Rattle.kdf_usercode.specs.Range.{range_faults}

-- ---- bytes

-- A deck has the bytes 20 to 7E hexadecimal and the line end.
abbrev pub is_deck_byte : ℕ → Bool
is_deck_byte byte = byte == line_end || (nat_le 0x20 byte && nat_le byte 0x7e)

abbrev pub byte_faults : ℕ → ℕ → List FoundFault
byte_faults at byte = if is_deck_byte byte then [] else found faults.BadByte at ∷ []

-- the faults of all bytes, those in comments too
abbrev pub bytes_faults : ℕ → List ℕ → List FoundFault
bytes_faults at [] = []
bytes_faults at (byte ∷ rest) = byte_faults at byte ++ bytes_faults (at + 1) rest

-- A `(` that stays is one without a later `)`.
abbrev pub comment_faults : ByteAt → List FoundFault
comment_faults b = if b.byte == opening then found faults.CommentOpen b.at ∷ [] else []

-- ---- a statement, in its phase

-- the faults of a statement of this form
abbrev pub formed_faults : Phase → Form → List ℕ → List ℕ → List DeckFault
formed_faults phase form ns text =
    (range_faults (ranges_of form) ns ++ text_faults form text)
    ++ (if is_in_place phase form then [] else faults.BadHeading ∷ [])

abbrev pub form_faults : Phase → Parsed → Option Form → List DeckFault
form_faults phase s None = formless s.shape ∷ []
form_faults phase s (Some form) = formed_faults phase form s.numbers s.text

abbrev pub phase_with_form : Phase → Option Form → Phase
phase_with_form phase None = phase
phase_with_form phase (Some form) = phase_with phase form

-- what a statement of this form says
abbrev pub said : Phase → ℕ → Form → List ℕ → List ℕ → Statement
said phase place form ns text = record { place = place; what = what_of phase.stage form ns text }

abbrev pub with_form : Phase → Parsed → Option Form → List Statement
with_form phase s None = []
with_form phase s (Some form) = said phase s.place form s.numbers s.text ∷ []

-- After FINISH there is nothing to say but that something follows.
unfoldable pub statement_faults : Phase → Parsed → List FoundFault
statement_faults phase s =
    founds s.place (if is_ended phase then faults.AfterFinish ∷ [] else form_faults phase s s.form)

unfoldable pub phase_after : Phase → Parsed → Phase
phase_after phase s = if is_ended phase then phase else phase_with_form phase s.form

unfoldable pub statements_of : Phase → Parsed → List Statement
statements_of phase s = with_form phase s s.form

-- ---- the deck

-- a fault at the first of these bytes, where there are any
abbrev pub at_first : DeckFault → List ByteAt → List FoundFault
at_first fault [] = []
at_first fault (b ∷ bs) = found fault b.at ∷ []

-- the faults at the end of the deck: `tail` is what stands after the last `;`
abbrev pub end_faults : Phase → ℕ → List ByteAt → List FoundFault
end_faults phase len tail =
    if is_ended phase then at_first faults.AfterFinish tail
    else at_first faults.NoSemicolon tail ++ found faults.NoFinish len ∷ []

abbrev pub faults_from : Phase → ℕ → List Parsed → List ByteAt → List FoundFault
faults_from phase len [] tail = end_faults phase len tail
faults_from phase len (s ∷ ss) tail =
    statement_faults phase s ++ faults_from (phase_after phase s) len ss tail

abbrev pub statements_from : Phase → List Parsed → List Statement
statements_from phase [] = []
statements_from phase (s ∷ ss) = statements_of phase s ++ statements_from (phase_after phase s) ss

-- all faults of a deck
abbrev pub faults_of : List ℕ → List FoundFault
faults_of text =
    let c = cut (kept text) in
    (bytes_faults 0 text ++ flat_map comment_faults (kept text))
    ++ faults_from start (length text) (parses c) c.tail

-- the first of them
abbrev pub early : List ℕ → Option FoundFault
early text = least (faults_of text)

-- what a deck without such a fault says
abbrev pub statements : List ℕ → List Statement
statements text = statements_from start (parses (cut (kept text)))

abbrev pub verdict : Option FoundFault → List Statement → Result (List Statement) FoundFault
verdict None ss = Ok ss
verdict (Some f) ss = Err f

-- the statements of a deck, or its first fault
abbrev pub deck : List ℕ → Result (List Statement) FoundFault
deck text = verdict (early text) (statements text)
