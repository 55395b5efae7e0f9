-- What stays of a deck once comments, spaces and line ends are taken out.
use Rattle.std.specs.Prelude.{ℕ, ◌+◌, Bool, true, false, not, ◌&&◌, ◌==◌, List, [], ◌∷◌, ◌++◌, if◌then◌else◌}
use Rattle.std.specs.List.{list_any}
use Rattle.kdf_usercode.specs.declared.bytes.ByteAt.{ByteAt}
use Rattle.kdf_usercode.specs.Bytes.{line_end, space, opening, closing}

-- a `)` stands in these bytes
abbrev pub closes : List ℕ → Bool
closes bytes = list_any (λ b. b == closing) bytes

-- A comment begins at a `(` that a later `)` ends, and goes to the first such `)`.
abbrev pub inside_after : Bool → ℕ → List ℕ → Bool
inside_after true byte rest = not (byte == closing)
inside_after false byte rest = byte == opening && closes rest

-- A byte outside a comment stays, but for a space, a line end and the begin of a comment.
abbrev pub is_kept : Bool → ℕ → List ℕ → Bool
is_kept inside byte rest =
    not inside
    && (not (byte == opening && closes rest) && (not (byte == space) && not (byte == line_end)))

abbrev pub kept_from : Bool → ℕ → List ℕ → List ByteAt
kept_from inside at [] = []
kept_from inside at (byte ∷ rest) =
    (if is_kept inside byte rest then record { at = at; byte = byte } ∷ [] else [])
    ++ kept_from (inside_after inside byte rest) (at + 1) rest

-- the bytes of a deck that stay, each with its offset
abbrev pub kept : List ℕ → List ByteAt
kept text = kept_from false 0 text
