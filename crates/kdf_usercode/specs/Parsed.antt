-- The statements of a deck, parsed.
use Rattle.std.specs.Prelude.{ℕ, ◌==◌, List, [], ◌∷◌, Option, if◌then◌else◌}
use Rattle.std.specs.List.{flat_map}
use Rattle.kdf_usercode.specs.declared.bytes.ByteAt.{ByteAt}
use Rattle.kdf_usercode.specs.declared.forms.Form.{Form}
use Rattle.kdf_usercode.specs.Bytes.{star}
use Rattle.kdf_usercode.specs.Pieces.{Cut, codes_of}
use Rattle.kdf_usercode.specs.Shape.{shape, numbers}
use Rattle.kdf_usercode.specs.Forms.{form_in}

-- a statement: its place and its bytes, its shape and its numbers, and its form, where it has one
pub record Parsed : Type 0 where
  pub place : ℕ
  pub text : List ℕ
  pub shape : List ℕ
  pub numbers : List ℕ
  pub form : Option Form

-- the statement of these bytes
abbrev pub parsed : ℕ → List ℕ → Parsed
parsed place text =
    let s = shape text in
    record { place = place; text = text; shape = s; numbers = numbers text; form = form_in s text }

-- The statements of a piece: a `*` in front is one by itself. An empty piece has none.
abbrev pub statements_in : List ByteAt → List Parsed
statements_in [] = []
statements_in (b ∷ bs) =
    if b.byte == star then parsed b.at (star ∷ []) ∷ statements_in bs
    else parsed b.at (codes_of (b ∷ bs)) ∷ []

-- the statements of the pieces of a deck
abbrev pub parses : Cut → List Parsed
parses c = flat_map statements_in c.pieces
