-- How a deck is cut into pieces, of which each becomes its statements.
use Rattle.std.specs.Prelude.{ℕ, ◌==◌, List, [], ◌∷◌, ◌++◌, map, if◌then◌else◌}
use Rattle.kdf_usercode.specs.declared.bytes.ByteAt.{ByteAt}
use Rattle.kdf_usercode.specs.Bytes.{semicolon}

-- A text cut at each `;`: the pieces that one ends, and what stands after the last.
pub record Cut : Type 0 where
  pub pieces : List (List ByteAt)
  pub tail : List ByteAt

-- a cut with more bytes in front
abbrev pub onto : List ByteAt → List (List ByteAt) → List ByteAt → Cut
onto front [] tail = record { pieces = []; tail = front ++ tail }
onto front (piece ∷ pieces) tail = record { pieces = (front ++ piece) ∷ pieces; tail = tail }

abbrev pub in_front : List ByteAt → Cut → Cut
in_front front c = onto front c.pieces c.tail

abbrev pub cut_before : ByteAt → Cut → Cut
cut_before b c =
    if b.byte == semicolon then record { pieces = [] ∷ c.pieces; tail = c.tail }
    else in_front (b ∷ []) c

abbrev pub cut : List ByteAt → Cut
cut [] = record { pieces = []; tail = [] }
cut (b ∷ bs) = cut_before b (cut bs)

abbrev pub codes_of : List ByteAt → List ℕ
codes_of bs = map (λ (b : ByteAt). b.byte) bs
