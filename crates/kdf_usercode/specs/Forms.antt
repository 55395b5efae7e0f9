-- The forms of statements, the faults of their numbers, and what they say. A shape has `0` in place of
-- each number.
use Rattle.std.specs.Prelude.{ℕ, Bool, true, false, List, [], ◌∷◌, drop, slice_index, Option, Some, None}
use lib.Chars.{codes}
use Rattle.kdf_usercode.specs.declared.fault.DeckFault.{DeckFault}
use Rattle.kdf_usercode.specs.declared.range.Range.{Range}
use Rattle.kdf_usercode.specs.declared.statement.What.{What}
use Rattle.kdf_usercode.specs.declared.statement.What.TheVariants as whats
use Rattle.kdf_usercode.specs.declared.phase.Stage.{Stage}
use Rattle.kdf_usercode.specs.declared.phase.Stage.TheVariants.{Heading}
use Rattle.kdf_usercode.specs.declared.stores.Direction.{Direction}
use Rattle.kdf_usercode.specs.declared.stores.StoreName.{StoreName}
use Rattle.kdf_usercode.specs.declared.stores.Suffix.{Suffix}
use Rattle.kdf_usercode.specs.declared.forms.Form.{Form}
use Rattle.kdf_usercode.specs.declared.forms.Form.TheVariants.{Program, ProgramStores, Part, PartStores, Finish, Star, Reference, Short, Plain, Constant, Go}
use Rattle.kdf_usercode.specs.declared.forms.Form.TheVariants.{Access, SetAddress}
use Rattle.kdf_usercode.specs.Parse.{◌or◌, opt_map, row_in}
use Rattle.kdf_usercode.specs.Range.{q_range, reference_range, opened_range, store_range}
use Rattle.kdf_usercode.specs.Orders.{order_form, order_ranges, octal_order_faults, order_of}
use Rattle.kdf_usercode.specs.Stores.{access_form, address_form, store_ranges, access_ranges, named_of, access_of, declared_group}
use Rattle.kdf_usercode.specs.Jumps.{jump_form, jump_ranges, go_of}
use Rattle.kdf_usercode.specs.Constants.{constant_form, value_ranges, text_value_faults, value_of}

-- ---- forms

-- the statements that aren't orders, and the short loop
abbrev pub statement_names : List (List ℕ × Form)
statement_names =
    (codes "PROGRAM", Program) ∷
    (codes "PROGRAMV0", ProgramStores) ∷
    (codes "P0", Part) ∷
    (codes "P0V0", PartStores) ∷
    (codes "FINISH", Finish) ∷
    (codes "*", Star) ∷
    (codes "0", Reference) ∷
    (codes "J0C0NZS", Short) ∷
    []

-- the form of a statement, by its shape and its bytes
unfoldable pub form_in : List ℕ → List ℕ → Option Form
form_in shape text =
    row_in statement_names shape
    or opt_map (λ order. Plain order) (order_form shape text)
    or opt_map (λ value. Constant value) (constant_form shape text)
    or opt_map (λ jump. Go jump.0 jump.1) (jump_form shape)
    or opt_map (λ name. SetAddress name) (address_form shape)
    or opt_map (λ access. Access access.0 access.1 access.2) (access_form shape)

abbrev pub is_constant : Form → Bool
is_constant (Constant value) = true
is_constant form = false

-- ---- faults

-- the range of each number, in the order in which they stand
abbrev pub ranges_of : Form → List Range
ranges_of Program = []
ranges_of ProgramStores = store_range ∷ []
ranges_of Part = opened_range ∷ []
ranges_of PartStores = opened_range ∷ store_range ∷ []
ranges_of Finish = []
ranges_of Star = []
ranges_of Reference = reference_range ∷ []
ranges_of Short = reference_range ∷ q_range ∷ []
ranges_of (Plain order) = order_ranges order
ranges_of (Constant value) = store_range ∷ value_ranges value
ranges_of (Go test target) = jump_ranges test target
ranges_of (Access direction name suffix) = access_ranges name suffix
ranges_of (SetAddress name) = store_ranges name

-- the fault of octal digits or characters
abbrev pub text_faults : Form → List ℕ → List DeckFault
text_faults (Plain order) text = octal_order_faults order text
text_faults (Constant value) text = text_value_faults value text
text_faults form text = []

-- ---- what they say

-- before PROGRAM a store of the groups Y is declared
abbrev pub declared_or : Stage → Option ℕ → ℕ → What → What
declared_or Heading (Some group) n what = whats.Declare group n
declared_or stage group n what = what

abbrev pub store_of : Stage → Direction → StoreName → Suffix → List ℕ → What
store_of stage direction name suffix ns =
    declared_or stage (declared_group direction name suffix) (slice_index ns 0)
    (access_of direction name suffix ns)

abbrev pub what_of : Stage → Form → List ℕ → List ℕ → What
what_of stage Program ns text = whats.Program None
what_of stage ProgramStores ns text = whats.Program (Some (slice_index ns 0))
what_of stage Part ns text = whats.Part (slice_index ns 0) None
what_of stage PartStores ns text = whats.Part (slice_index ns 0) (Some (slice_index ns 1))
what_of stage Finish ns text = whats.Finish
what_of stage Star ns text = whats.Star
what_of stage Reference ns text = whats.Reference (slice_index ns 0)
what_of stage Short ns text = whats.Short (slice_index ns 0) (slice_index ns 1)
what_of stage (Plain order) ns text = whats.Plain (order_of order ns text)
what_of stage (Constant value) ns text =
    whats.Constant (slice_index ns 0) (value_of value (drop 1 ns) text)
what_of stage (Go test target) ns text = go_of test target ns
what_of stage (Access direction name suffix) ns text = store_of stage direction name suffix ns
what_of stage (SetAddress name) ns text = whats.SetAddress (named_of name ns)
