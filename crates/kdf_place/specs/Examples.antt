-- What the computed examples are computed on.
use Rattle.std.specs.Prelude.{ℕ, List, [], ◌∷◌, Option, Some, None}
use Rattle.kdf_syllable.specs.declared.order.Order.TheVariants as orders
use Rattle.kdf_usercode.specs.declared.statement.Statement.{Statement}
use Rattle.kdf_usercode.specs.declared.statement.What.{What}
use Rattle.kdf_usercode.specs.declared.statement.What.TheVariants.{Program, Part, Reference, Star, Plain, Go, Finish}
use Rattle.kdf_place.specs.declared.image.Label.{Label}
use Rattle.kdf_place.specs.Placement.{Picture}

abbrev at_place : ℕ → What → Statement
at_place place what = record { place = place; what = what }

abbrev goes : ℕ → Option ℕ → Option ℕ → What
goes c r p = Go c (record { r = r; p = p })

abbrev label : ℕ → ℕ → ℕ → Label
label part number at = record { part = part; number = number; at = at }

-- `PROGRAM; 1; *; 2; ZERO; J2P3; JSP3; J1; 3; *; P3V0; 1; JP0; DUP; 2; FINISH;`
abbrev pub two_parts : List Statement
two_parts =
    at_place 0 (Program None) ∷ at_place 9 (Reference 1) ∷ at_place 12 Star ∷ at_place 15 (Reference 2)
    ∷ at_place 18 (Plain (orders.Plain 0x09)) ∷ at_place 24 (goes 0x20 (Some 2) (Some 3))
    ∷ at_place 30 (goes 0x21 None (Some 3)) ∷ at_place 36 (goes 0x20 (Some 1) None)
    ∷ at_place 40 (Reference 3) ∷ at_place 43 Star ∷ at_place 46 (Part 3 (Some 0))
    ∷ at_place 52 (Reference 1) ∷ at_place 55 (goes 0x20 None (Some 0))
    ∷ at_place 60 (Plain (orders.Plain 0x03)) ∷ at_place 65 (Reference 2) ∷ at_place 68 Finish ∷ []

-- Word 0 jumps to the first order. JSP3 goes on from word 1 in word 2, which is filled; word 3 is the
-- V-store of part 3. A reference without an order after it means the place where one would stand.
abbrev pub two_parts_image : Picture
two_parts_image = record {
  words = 0xa00001010101 ∷ 0x09a08004a100 ∷ 0x04a000010101 ∷ 0 ∷ 0xa00001030101 ∷ [];
  start = 6;
  labels =
      label 0 1 6 ∷ label 0 2 6 ∷ label 0 3 18 ∷ label 3 1 24 ∷ label 3 2 28 ∷ [];
}

-- `PROGRAM; 1; 1; FINISH;`
abbrev pub reference_twice : List Statement
reference_twice =
    at_place 0 (Program None) ∷ at_place 9 (Reference 1) ∷ at_place 12 (Reference 1)
    ∷ at_place 15 Finish ∷ []
