-- Constants: how each is written, the ranges of its numbers, and its value.
use Rattle.std.specs.Prelude.{ℕ, ◌-◌, ◌%◌, ◌^◌, Bool, true, false, ◌&&◌, ◌==◌, List, [], ◌∷◌, ◌++◌, length, drop, slice_index, Option, Some, None}
use Rattle.std.specs.Prelude.{if◌then◌else◌}
use Rattle.std.specs.Str.{bytes_eq}
use lib.Chars.{codes}
use Rattle.kdf_usercode.specs.declared.fault.DeckFault.{DeckFault}
use Rattle.kdf_usercode.specs.declared.fault.DeckFault.TheVariants.{ConstantRange}
use Rattle.kdf_usercode.specs.declared.range.Range.{Range}
use Rattle.kdf_usercode.specs.declared.statement.Item.{Item}
use Rattle.kdf_usercode.specs.declared.statement.Item.TheVariants as items
use Rattle.kdf_usercode.specs.declared.statement.Value.{Value}
use Rattle.kdf_usercode.specs.declared.statement.Value.TheVariants as values
use Rattle.kdf_usercode.specs.declared.constants.ItemForm.{ItemForm}
use Rattle.kdf_usercode.specs.declared.constants.ItemForm.TheVariants as item_forms
use Rattle.kdf_usercode.specs.declared.constants.ValueForm.{ValueForm}
use Rattle.kdf_usercode.specs.declared.constants.ValueForm.TheVariants.{Up, Down, Octal, Characters, Triple}
use Rattle.kdf_usercode.specs.Characters.{are_characters, characters_word}
use Rattle.kdf_usercode.specs.Bytes.{letter_b, letter_p}
use Rattle.kdf_usercode.specs.Octal.{all_octal, octal}
use Rattle.kdf_usercode.specs.Parse.{◌>>=◌, ◌or◌, opt_map, text_behind, row_in, strip}
use Rattle.kdf_usercode.specs.Range.{between, range_fault}
use Rattle.kdf_usercode.specs.Stores.{addressed, store_ranges, named_of}

-- ---- forms

-- a store whose address is taken
unfoldable pub address_item : List ℕ → Option (ItemForm × List ℕ)
address_item shape = do
  name ← addressed shape
  Some (item_forms.Address name.0, name.1)

unfoldable pub number_item : List ℕ → Option (ItemForm × List ℕ)
number_item shape =
    opt_map (λ rest. (item_forms.Down, rest)) (strip (codes "-0") shape)
    or opt_map (λ rest. (item_forms.Up, rest)) (strip (codes "+0") shape)
    or opt_map (λ rest. (item_forms.Up, rest)) (strip (codes "0") shape)

abbrev pub item_behind : List ℕ → Option (List ℕ) → Option (ItemForm × List ℕ)
item_behind shape None = number_item shape
item_behind shape (Some rest) = address_item rest

-- a part of a constant for a Q-store: a number, or `A` and a store
unfoldable pub item_form : List ℕ → Option (ItemForm × List ℕ)
item_form shape = item_behind shape (strip (codes "A") shape)

-- `Qc/i/m`
unfoldable pub triple_form : List ℕ → Option ValueForm
triple_form shape = do
  rest ← strip (codes "Q") shape
  c ← item_form rest
  rest ← strip (codes "/") c.1
  i ← item_form rest
  rest ← strip (codes "/") i.1
  m ← item_form rest
  if length m.1 == 0 then Some (Triple c.0 i.0 m.0) else None

-- `B` and octal digits
unfoldable pub octal_value : List ℕ → List ℕ → Option ValueForm
octal_value shape text =
    if bytes_eq shape (codes "B0") && all_octal (text_behind letter_b text) then Some Octal else None

-- `P` and characters
unfoldable pub characters_value : List ℕ → List ℕ → Option ValueForm
characters_value shape text = do
  rest ← strip (codes "P") shape
  if are_characters (text_behind letter_p text) then Some Characters else None

-- constants that are one number
abbrev pub value_names : List (List ℕ × ValueForm)
value_names =
    (codes "0", Up) ∷
    (codes "+0", Up) ∷
    (codes "-0", Down) ∷
    []

-- by the shape of what stands after `=`, and the bytes of the statement
unfoldable pub value_form : List ℕ → List ℕ → Option ValueForm
value_form shape text =
    row_in value_names shape
    or triple_form shape
    or octal_value shape text
    or characters_value shape text

-- `Vn=` and a value
unfoldable pub constant_form : List ℕ → List ℕ → Option ValueForm
constant_form shape text = do
  rest ← strip (codes "V0=") shape
  value_form rest text

-- ---- ranges

-- a word without a sign or with `+`, with `-`, and after a `B`
abbrev pub word_up_range : Range
word_up_range = between 0 (2 ^ 47 - 1) ConstantRange

abbrev pub word_down_range : Range
word_down_range = between 0 (2 ^ 47) ConstantRange

abbrev pub octal_word_range : Range
octal_word_range = between 0 (2 ^ 48 - 1) ConstantRange

-- how many characters a constant has
abbrev pub characters_range : Range
characters_range = between 1 8 ConstantRange

-- a part of a constant for a Q-store, without a sign or with `+`, and with `-`
abbrev pub bits_up_range : Range
bits_up_range = between 0 65535 ConstantRange

abbrev pub bits_down_range : Range
bits_down_range = between 0 32768 ConstantRange

abbrev pub item_ranges : ItemForm → List Range
item_ranges item_forms.Up = bits_up_range ∷ []
item_ranges item_forms.Down = bits_down_range ∷ []
item_ranges (item_forms.Address name) = store_ranges name

abbrev pub value_ranges : ValueForm → List Range
value_ranges Up = word_up_range ∷ []
value_ranges Down = word_down_range ∷ []
value_ranges Octal = []
value_ranges Characters = []
value_ranges (Triple c i m) = item_ranges c ++ (item_ranges i ++ item_ranges m)

abbrev pub text_value_faults : ValueForm → List ℕ → List DeckFault
text_value_faults Octal text = range_fault octal_word_range (octal (text_behind letter_b text))
text_value_faults Characters text = range_fault characters_range (length (text_behind letter_p text))
text_value_faults form text = []

abbrev pub is_triple : ValueForm → Bool
is_triple (Triple c i m) = true
is_triple form = false

-- ---- values

abbrev pub item_of : ItemForm → List ℕ → Item
item_of item_forms.Up ns = items.Bits (slice_index ns 0)
item_of item_forms.Down ns = items.Bits ((65536 - slice_index ns 0) % 65536)
item_of (item_forms.Address name) ns = items.Address (named_of name ns)

-- the numbers after an item
abbrev pub behind_item : ItemForm → List ℕ → List ℕ
behind_item form ns = drop (length (item_ranges form)) ns

abbrev pub triple_of : ItemForm → ItemForm → ItemForm → List ℕ → Value
triple_of c i m ns =
    let behind_c = behind_item c ns in
    values.Triple (item_of c ns) (item_of i behind_c) (item_of m (behind_item i behind_c))

abbrev pub value_of : ValueForm → List ℕ → List ℕ → Value
value_of Up ns text = values.Number (slice_index ns 0)
value_of Down ns text = values.Number ((2 ^ 48 - slice_index ns 0) % 2 ^ 48)
value_of Octal ns text = values.Number (octal (text_behind letter_b text))
value_of Characters ns text = values.Number (characters_word (text_behind letter_p text))
value_of (Triple c i m) ns text = triple_of c i m ns
