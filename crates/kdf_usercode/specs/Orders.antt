-- Orders that name no store and no reference: the ranges of their numbers, and what they say.
use Rattle.std.specs.Prelude.{ℕ, ◌-◌, ◌%◌, ◌&&◌, List, [], ◌∷◌, slice_index, pos, neg_ℤ, Option, Some, None, if◌then◌else◌}
use Rattle.std.specs.Str.{bytes_eq}
use lib.Chars.{codes}
use Rattle.kdf_usercode.specs.declared.fault.DeckFault.{DeckFault}
use Rattle.kdf_usercode.specs.declared.fault.DeckFault.TheVariants.{UnknownOrder, BadNumber}
use Rattle.kdf_syllable.specs.declared.order.Order.{Order}
use Rattle.kdf_syllable.specs.declared.order.Order.TheVariants as orders
use Rattle.kdf_syllable.specs.declared.amount.Amount.TheVariants as amounts
use Rattle.kdf_usercode.specs.declared.order_names.OrderForm.{OrderForm}
use Rattle.kdf_usercode.specs.declared.order_names.OrderForm.TheVariants.{Plain, Indirect, Single, Copies, ShiftUp, ShiftDown, ShiftCount, Device, Query}
use Rattle.kdf_usercode.specs.declared.order_names.OrderForm.TheVariants.{ExitNone, Exit, SetUp, SetDown, SetOctal}
use Rattle.kdf_usercode.specs.declared.range.Range.{Range}
use Rattle.kdf_usercode.specs.Bytes.{letter_b}
use Rattle.kdf_usercode.specs.Octal.{all_octal, octal}
use Rattle.kdf_usercode.specs.OrderNames.{order_names, refused_names}
use Rattle.kdf_usercode.specs.Parse.{◌or◌, text_behind, row_in}
use Rattle.kdf_usercode.specs.Range.{between, q_range, range_fault}

-- ---- names

-- `SETB` and octal digits
unfoldable pub octal_order : List ℕ → List ℕ → Option OrderForm
octal_order shape text =
    if bytes_eq shape (codes "SETB0") && all_octal (text_behind letter_b text) then Some SetOctal else None

-- the order of a statement, by its shape and its bytes
unfoldable pub order_form : List ℕ → List ℕ → Option OrderForm
order_form shape text = row_in order_names shape or octal_order shape text

abbrev or_unknown : Option DeckFault → DeckFault
or_unknown None = UnknownOrder
or_unknown (Some fault) = fault

-- the fault of a statement that has no form
unfoldable pub formless : List ℕ → DeckFault
formless shape = or_unknown (row_in refused_names shape)

-- ---- ranges

-- a shift to the left
abbrev pub left_range : Range
left_range = between 0 63 BadNumber

-- a shift to the right
abbrev pub right_range : Range
right_range = between 0 64 BadNumber

-- how many half words an exit goes on
abbrev pub exit_range : Range
exit_range = between 0 255 BadNumber

-- what SET takes without a sign or with `+`, with `-`, and after a `B`
abbrev pub up_range : Range
up_range = between 0 32767 BadNumber

abbrev pub down_range : Range
down_range = between 0 32768 BadNumber

abbrev pub octal_set_range : Range
octal_set_range = between 0 0o177777 BadNumber

abbrev pub order_ranges : OrderForm → List Range
order_ranges (Plain code) = []
order_ranges (Indirect code) = q_range ∷ q_range ∷ []
order_ranges (Single code) = q_range ∷ []
order_ranges (Copies code) = q_range ∷ q_range ∷ []
order_ranges (ShiftUp code) = left_range ∷ []
order_ranges (ShiftDown code) = right_range ∷ []
order_ranges (ShiftCount code) = q_range ∷ []
order_ranges (Device code) = q_range ∷ []
order_ranges (Query b) = q_range ∷ []
order_ranges ExitNone = []
order_ranges Exit = exit_range ∷ []
order_ranges SetUp = up_range ∷ []
order_ranges SetDown = down_range ∷ []
order_ranges SetOctal = []

abbrev pub octal_order_faults : OrderForm → List ℕ → List DeckFault
octal_order_faults SetOctal text = range_fault octal_set_range (octal (text_behind letter_b text))
octal_order_faults form text = []

-- ---- what they say

abbrev pub order_of : OrderForm → List ℕ → List ℕ → Order
order_of (Plain code) ns text = orders.Plain code
order_of (Indirect code) ns text = orders.Indirect code (slice_index ns 0) (slice_index ns 1)
order_of (Single code) ns text = orders.Single code (slice_index ns 0)
order_of (Copies code) ns text = orders.Copies code (slice_index ns 0) (slice_index ns 1)
order_of (ShiftUp code) ns text = orders.Shift code (amounts.Fixed (pos (slice_index ns 0)))
order_of (ShiftDown code) ns text = orders.Shift code (amounts.Fixed (neg_ℤ (pos (slice_index ns 0))))
order_of (ShiftCount code) ns text = orders.Shift code (amounts.Count (slice_index ns 0))
order_of (Device code) ns text = orders.Device code (slice_index ns 0)
order_of (Query b) ns text = orders.Query b (slice_index ns 0)
order_of ExitNone ns text = orders.Exit 0
order_of Exit ns text = orders.Exit (slice_index ns 0)
order_of SetUp ns text = orders.Set (slice_index ns 0)
order_of SetDown ns text = orders.Set ((65536 - slice_index ns 0) % 65536)
order_of SetOctal ns text = orders.Set (octal (text_behind letter_b text))
