-- Stores: how each is named, the ranges of its numbers, and what is done with it.
use Rattle.std.specs.Prelude.{ℕ, ◌+◌, ◌-◌, Bool, true, false, ◌&&◌, nat_le, ◌==◌, List, [], ◌∷◌, ◌++◌, length, slice_index, Option, Some, None, if◌then◌else◌}
use Rattle.std.specs.Str.{bytes_eq}
use lib.Chars.{codes}
use Rattle.kdf_usercode.specs.declared.range.Range.{Range}
use Rattle.kdf_usercode.specs.declared.statement.Named.{Named}
use Rattle.kdf_usercode.specs.declared.statement.Named.TheVariants as nameds
use Rattle.kdf_usercode.specs.declared.statement.What.{What}
use Rattle.kdf_usercode.specs.declared.statement.What.TheVariants as whats
use Rattle.kdf_usercode.specs.declared.stores.Direction.{Direction}
use Rattle.kdf_usercode.specs.declared.stores.Direction.TheVariants.{Fetch, Keep}
use Rattle.kdf_usercode.specs.declared.stores.StoreName.{StoreName}
use Rattle.kdf_usercode.specs.declared.stores.StoreName.TheVariants.{Y, V, VOfPart, E}
use Rattle.kdf_usercode.specs.declared.stores.Suffix.{Suffix}
use Rattle.kdf_usercode.specs.declared.stores.Suffix.TheVariants.{Nothing, M, MQ}
use Rattle.kdf_usercode.specs.Bytes.{letter_a, letter_z}
use Rattle.kdf_usercode.specs.Parse.{◌>>=◌, ◌or◌, opt_map, strip}
use Rattle.kdf_usercode.specs.Range.{q_range, store_range, part_range}

-- ---- names

-- the number of the letter in front, A being 1, and what stands after it
abbrev pub letter_after : List ℕ → Option (ℕ × List ℕ)
letter_after [] = None
letter_after (c ∷ rest) =
    if nat_le letter_a c && nat_le c letter_z then Some (c - letter_a + 1, rest) else None

-- `YLn`
unfoldable pub lettered : List ℕ → Option (StoreName × List ℕ)
lettered shape = do
  rest ← strip (codes "Y") shape
  letter ← letter_after rest
  rest ← strip (codes "0") letter.1
  Some (Y letter.0, rest)

-- the store in front, and what stands after it
unfoldable pub store_name : List ℕ → Option (StoreName × List ℕ)
store_name shape =
    opt_map (λ rest. (E, rest)) (strip (codes "E0") shape)
    or opt_map (λ rest. (VOfPart, rest)) (strip (codes "V0P0") shape)
    or opt_map (λ rest. (V, rest)) (strip (codes "V0") shape)
    or opt_map (λ rest. (Y 0, rest)) (strip (codes "Y0") shape)
    or lettered shape

abbrev pub not_e : StoreName × List ℕ → Option (StoreName × List ℕ)
not_e (E, rest) = None
not_e (name, rest) = Some (name, rest)

-- a store whose address may be taken: any but an E
unfoldable pub addressed : List ℕ → Option (StoreName × List ℕ)
addressed shape = store_name shape >>= not_e

-- what stands after a store: nothing, `Mq` or `MqQ`
unfoldable pub suffix_of : List ℕ → Option Suffix
suffix_of shape =
    if bytes_eq shape [] then Some Nothing
    else (if bytes_eq shape (codes "M0") then Some M
    else (if bytes_eq shape (codes "M0Q") then Some MQ else None))

abbrev pub direction_of : List ℕ → Option (List ℕ) → Direction × List ℕ
direction_of shape None = (Fetch, shape)
direction_of shape (Some rest) = (Keep, rest)

-- a store that is fetched, or kept where `=` stands before it
unfoldable pub access_form : List ℕ → Option (Direction × StoreName × Suffix)
access_form shape = do
  name ← store_name (direction_of shape (strip (codes "=") shape)).1
  suffix ← suffix_of name.1
  Some ((direction_of shape (strip (codes "=") shape)).0, name.0, suffix)

-- `SETA` and a store
unfoldable pub address_form : List ℕ → Option StoreName
address_form shape = do
  rest ← strip (codes "SETA") shape
  name ← addressed rest
  if length name.1 == 0 then Some name.0 else None

-- ---- ranges

abbrev pub store_ranges : StoreName → List Range
store_ranges (Y group) = store_range ∷ []
store_ranges V = store_range ∷ []
store_ranges VOfPart = store_range ∷ part_range ∷ []
store_ranges E = store_range ∷ []

abbrev pub suffix_ranges : Suffix → List Range
suffix_ranges Nothing = []
suffix_ranges M = q_range ∷ []
suffix_ranges MQ = q_range ∷ []

abbrev pub access_ranges : StoreName → Suffix → List Range
access_ranges name suffix = store_ranges name ++ suffix_ranges suffix

-- ---- what is done

abbrev pub named_of : StoreName → List ℕ → Named
named_of (Y group) ns = nameds.Y group (slice_index ns 0)
named_of V ns = nameds.V (slice_index ns 0) None
named_of VOfPart ns = nameds.V (slice_index ns 0) (Some (slice_index ns 1))
named_of E ns = nameds.E (slice_index ns 0)

-- the number after those of the name
abbrev pub behind_name : StoreName → List ℕ → ℕ
behind_name (Y group) ns = slice_index ns 1
behind_name V ns = slice_index ns 1
behind_name VOfPart ns = slice_index ns 2
behind_name E ns = slice_index ns 1

-- the Q-store: 0 where none stands
abbrev pub q_of : StoreName → Suffix → List ℕ → ℕ
q_of name Nothing ns = 0
q_of name M ns = behind_name name ns
q_of name MQ ns = behind_name name ns

-- the Q-store is stepped
abbrev pub is_stepped : Suffix → Bool
is_stepped Nothing = false
is_stepped M = false
is_stepped MQ = true

abbrev pub done : Direction → Named → ℕ → Bool → What
done Keep place q u = whats.Keep place q u
done Fetch place q u = whats.Fetch place q u

abbrev pub access_of : Direction → StoreName → Suffix → List ℕ → What
access_of direction name suffix ns =
    done direction (named_of name ns) (q_of name suffix ns) (is_stepped suffix)

-- the group that is declared where this stands before PROGRAM
abbrev pub declared_group : Direction → StoreName → Suffix → Option ℕ
declared_group Fetch (Y group) Nothing = Some group
declared_group direction name suffix = None
