-- A deck that is worked out.
use Rattle.std.specs.Prelude.{ℕ, ◌-◌, ◌^◌, List, [], ◌∷◌, Some, None, true}
use lib.Chars.{codes}
use Rattle.kdf_syllable.specs.declared.order.Order.TheVariants as orders
use Rattle.kdf_usercode.specs.declared.statement.Named.TheVariants.{V}
use Rattle.kdf_usercode.specs.declared.statement.Statement.{Statement}
use Rattle.kdf_usercode.specs.declared.statement.Value.TheVariants.{Number}
use Rattle.kdf_usercode.specs.declared.statement.What.{What}
use Rattle.kdf_usercode.specs.declared.statement.What.TheVariants.{Program, Constant, Reference, Star, Plain, Keep, Go, Finish}

-- a statement at its place
abbrev at : ℕ → What → Statement
at place what = record { place = place; what = what }

abbrev pub counting : List ℕ
counting = codes "PROGRAM V1; V1 = -2; (one) 1; SETB 17; *=V0M2Q; J1C3NZ; FINISH;"

-- what it says
abbrev pub counting_statements : List Statement
counting_statements =
    at 0 (Program (Some 1)) ∷
    at 12 (Constant 1 (Number (2 ^ 48 - 2))) ∷
    at 27 (Reference 1) ∷
    at 30 (Plain (orders.Set 0o17)) ∷
    at 39 Star ∷
    at 40 (Keep (V 0 None) 2 true) ∷
    at 48 (Go 0x13 (record { r = Some 1; p = None })) ∷
    at 56 Finish ∷
    []
