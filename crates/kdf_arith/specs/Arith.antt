-- What an order of arithmetic does to the nest and the flags, or none where operands or room are
-- missing.
use Rattle.std.specs.Prelude.{ℕ, ℤ, ◌^◌, ◌≤◌, ◌≡◌, ◌⊎◌, ◌||◌, false, List, ◌∷◌, length, Option, Some, None, if◌then◌else◌, ◌==◌, nat_le}
use Rattle.kdf_arith.specs.Rows.{After, arith_row}
use Rattle.kdf_arith.specs.Shifts.{shift_row}
use Rattle.kdf_arith.specs.declared.flags.Flags.{Flags}
use Rattle.kdf_arith.specs.declared.order.ArithOrder.{ArithOrder}
use Rattle.kdf_arith.specs.declared.order.ArithOrder.TheVariants.{Plain, Shift}

-- the code is that of a plain order of arithmetic
abbrev pub IsPlainCode : ℕ → Type 0
IsPlainCode code =
    ((2 ≤ code) × (code ≤ 0x12))
    ⊎ (((0x14 ≤ code) × (code ≤ 0x1C)) ⊎ ((code ≡ 0x1F) ⊎ (code ≡ 0x20)))

-- the code is that of a shift
abbrev pub IsShiftCode : ℕ → Type 0
IsShiftCode code = (0x6A ≤ code) × (code ≤ 0x6E)

abbrev pub IsArithOrder : ArithOrder → Type 0
IsArithOrder (Plain code) = IsPlainCode code
IsArithOrder (Shift code n) = IsShiftCode code

-- a nest of more than sixteen words is none
abbrev pub in_room : Option After → Option After
in_room None = None
in_room (Some a) = if nat_le (length a.nest) 16 then Some a else None

abbrev pub plain : ℕ → List ℕ → Option After
plain code nest = in_room (arith_row code nest)

abbrev pub shift : ℕ → ℤ → List ℕ → Option After
shift code n nest = in_room (shift_row code n nest)

-- the nest and the flags after an order
pub record Arith : Type 0 where
  pub nest : List ℕ
  pub flags : Flags

-- V stays set, or is set
abbrev pub with_v : Option After → Flags → Option Arith
with_v None flags = None
with_v (Some a) flags =
    Some (record { nest = a.nest; flags = record flags { v = flags.v || a.sets_v } })

-- =TR: TR becomes D0 of the top, which is erased
abbrev pub to_tr : List ℕ → Flags → Option Arith
to_tr (a ∷ below) flags =
    Some (record { nest = below; flags = record flags { tr = nat_le (2 ^ 47) a } })
to_tr _ flags = None

-- VR: V becomes 0
abbrev pub reset_v : List ℕ → Flags → Option Arith
reset_v nest flags = Some (record { nest = nest; flags = record flags { v = false } })

abbrev pub plain_arith : ℕ → List ℕ → Flags → Option Arith
plain_arith code nest flags =
    if code == 0x1F then to_tr nest flags
    else (if code == 0x20 then reset_v nest flags
    else with_v (plain code nest) flags)

abbrev pub shift_arith : ℕ → ℤ → List ℕ → Flags → Option Arith
shift_arith code n nest flags = with_v (shift code n nest) flags

-- an order of arithmetic
unfoldable pub arith_result : ArithOrder → List ℕ → Flags → Option Arith
arith_result (Plain code) nest flags = plain_arith code nest flags
arith_result (Shift code n) nest flags = shift_arith code n nest flags
