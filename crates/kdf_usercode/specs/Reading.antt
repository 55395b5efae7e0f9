-- What a reader answers, and what comes of a deck that is partly read.
use Rattle.std.specs.Prelude.{◌≡◌, ℕ, List, [], ◌∷◌, ◌++◌, Option, None, Result, Ok, Err}
use Rattle.std.specs.List.{flat_map}
use Rattle.kdf_usercode.specs.declared.bytes.ByteAt.{ByteAt}
use Rattle.kdf_usercode.specs.declared.fault.DeckError.{DeckError}
use Rattle.kdf_usercode.specs.declared.fault.DeckError.TheVariants as errors
use Rattle.kdf_usercode.specs.declared.forms.Form.{Form}
use Rattle.kdf_usercode.specs.declared.phase.Phase.{Phase}
use Rattle.kdf_usercode.specs.declared.stars.Stars.{Stars}
use Rattle.kdf_usercode.specs.declared.statement.Deck.{Deck}
use Rattle.kdf_usercode.specs.declared.statement.Statement.{Statement}
use Rattle.kdf_usercode.specs.declared.reading.Reading.{Reading}
use Rattle.kdf_usercode.specs.Faults.{FoundFault, lesser, least, found, founds}
use Rattle.kdf_usercode.specs.Grammar.{comment_faults, formed_faults, said, statement_faults, phase_after, statements_of, faults_from, statements_from, verdict}
use Rattle.kdf_usercode.specs.Parsed.{Parsed, parses}
use Rattle.kdf_usercode.specs.Phase.{phase_with}
use Rattle.kdf_usercode.specs.Pieces.{in_front, cut}
use Rattle.kdf_usercode.specs.Thinned.{thinned, stars_behind}

-- What a function returned is this, unless memory ran out.
abbrev pub Gives : Result Deck DeckError → ℕ → Result (List Statement) FoundFault → Type 0
Gives (Ok d) len due = (due ≡ Ok d.statements.items) × (d.length ≡ len)
Gives (Err errors.Memory) len due = Unit {0}
Gives (Err (errors.Fault fault place)) len due = due ≡ Err (found fault place)

-- The phase, and these faults and statements more. The statements are only kept up while there is no
-- fault, and of those only what isn't left out.
pub record Gains (old new : Reading) (next : Phase) (fs : List FoundFault) (ss : List Statement)
    : Type 0 where
  pub phase : new.phase ≡ next
  pub best : new.best ≡ lesser old.best (least fs)
  pub statements : new.best ≡ None → new.statements.items ≡ old.statements.items ++ thinned old.stars ss
  pub stars : new.best ≡ None → new.stars ≡ stars_behind old.stars ss

-- a statement of this form more was read
abbrev pub ReadsForm : Reading → Reading → ℕ → Form → List ℕ → List ℕ → Type 0
ReadsForm old new place form ns text =
    Gains old new (phase_with old.phase form) (founds place (formed_faults old.phase form ns text))
    (said old.phase place form ns text ∷ [])

-- one statement more was read
abbrev pub Reads : Reading → Reading → Parsed → Type 0
Reads old new s =
    Gains old new (phase_after old.phase s) (statement_faults old.phase s) (statements_of old.phase s)

-- What comes of a deck that was read so far, with the first fault and the statements of that part.
-- `front` are faults of bytes still to come, `ahead` the statements still to come, and `tail` what
-- stands after the last `;`.
abbrev pub outcome : Phase → Option FoundFault → Stars → List Statement → ℕ
    → List FoundFault → List Parsed → List ByteAt → Result (List Statement) FoundFault
outcome phase best stars ss len front ahead tail =
    verdict (lesser best (least (front ++ faults_from phase len ahead tail)))
    (ss ++ thinned stars (statements_from phase ahead))

-- the same, of a reader
abbrev pub comes : Reading → ℕ → List FoundFault → List Parsed → List ByteAt
    → Result (List Statement) FoundFault
comes r len front ahead tail = outcome r.phase r.best r.stars r.statements.items len front ahead tail

-- these statements were read, whatever is still to come
abbrev pub ReadsAll : Reading → Reading → List Parsed → Type 0
ReadsAll old new ps = (len : ℕ) (front : List FoundFault) (ahead : List Parsed) (tail : List ByteAt) →
    comes new len front ahead tail ≡ comes old len front (ps ++ ahead) tail

-- What comes of it where `piece` is the begun statement, `bad` are the faults of all bytes still to
-- come, and `ahead` are those of them that stay.
abbrev pub with_ahead : Reading → List ByteAt → ℕ → List FoundFault → List ByteAt
    → Result (List Statement) FoundFault
with_ahead r piece len bad ahead =
    let c = in_front piece (cut ahead) in
    comes r len (bad ++ flat_map comment_faults ahead) (parses c) c.tail
