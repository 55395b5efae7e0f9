-- Orders of arithmetic that are worked from the table.
use Rattle.std.specs.Prelude.{ℕ, ℤ, ◌-◌, ◌^◌, Bool, true, false, List, Option, Some}
use Rattle.kdf_arith.specs.declared.flags.Flags.{Flags}
use Rattle.kdf_arith.specs.declared.order.ArithOrder.TheVariants.{Plain, Shift}
use Rattle.kdf_arith.specs.Arith.{Arith, arith_result}

-- the words of which the value is -2^47, 2^47 - 1, and -n
abbrev pub least : ℕ
least = 2 ^ 47

abbrev pub greatest : ℕ
greatest = 2 ^ 47 - 1

abbrev pub minus : ℕ → ℕ
minus n = 2 ^ 48 - n

-- V and TR clear, and V set
abbrev pub clear : Flags
clear = record { v = false; tr = false }

abbrev pub overflow : Flags
overflow = record { v = true; tr = false }

-- TR set, and V so
abbrev pub tested : Bool → Flags
tested v = record { v = v; tr = true }

-- an order of one syllable over a nest, the flags being clear
abbrev pub obeyed : ℕ → List ℕ → Option Arith
obeyed code nest = arith_result (Plain code) nest clear

-- a shift likewise
abbrev pub shifted : ℕ → ℤ → List ℕ → Option Arith
shifted code n nest = arith_result (Shift code n) nest clear

-- it leaves this nest, and the flags clear
abbrev pub leaves : List ℕ → Option Arith
leaves nest = Some (record { nest = nest; flags = clear })

-- it leaves this nest and sets V, since the value doesn't fit
abbrev pub overflows : List ℕ → Option Arith
overflows nest = Some (record { nest = nest; flags = overflow })

-- or it leaves these flags
abbrev pub leaves_so : Flags → List ℕ → Option Arith
leaves_so flags nest = Some (record { nest = nest; flags = flags })
