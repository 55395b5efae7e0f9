-- What the tables and the names give: the codes and groups of each form.
use Rattle.std.proofs.Common.{◌≡◌, ℕ, ◌+◌, ◌-◌, ◌≤◌, Bool, true, false, cond, not, ◌&&◌, List, [], ◌∷◌, length, Option, Some, None, refl, arith}
use Rattle.std.specs.Prelude.{nat_le, ◌==◌}
use Rattle.std.specs.List.{list_all}
use Rattle.std.specs.Str.{bytes_eq}
use Rattle.std.proofs.lemmas.Bool.Decides.{nat_tests}
use lib.Chars.{codes}
use Rattle.kdf_usercode.specs.declared.order_names.OrderForm.{OrderForm}
use Rattle.kdf_usercode.specs.declared.order_names.OrderForm.TheVariants as orders
use Rattle.kdf_usercode.specs.declared.stores.Direction.{Direction}
use Rattle.kdf_usercode.specs.declared.stores.StoreName.{StoreName}
use Rattle.kdf_usercode.specs.declared.stores.StoreName.TheVariants as names
use Rattle.kdf_usercode.specs.declared.stores.Suffix.{Suffix}
use Rattle.kdf_usercode.specs.declared.jumps.Test.{Test}
use Rattle.kdf_usercode.specs.declared.jumps.Test.TheVariants as tests
use Rattle.kdf_usercode.specs.declared.jumps.TargetForm.{TargetForm}
use Rattle.kdf_usercode.specs.declared.constants.ItemForm.{ItemForm}
use Rattle.kdf_usercode.specs.declared.constants.ItemForm.TheVariants as items
use Rattle.kdf_usercode.specs.declared.constants.ValueForm.{ValueForm}
use Rattle.kdf_usercode.specs.declared.constants.ValueForm.TheVariants as values
use Rattle.kdf_usercode.specs.declared.forms.Form.{Form}
use Rattle.kdf_usercode.specs.declared.forms.Form.TheVariants as forms
use Rattle.kdf_usercode.specs.Bytes.{letter_a, letter_z, letter_b, letter_p}
use Rattle.kdf_usercode.specs.Parse.{◌or◌, opt_map, text_behind, row_in, strip}
use Rattle.kdf_usercode.specs.Octal.{all_octal}
use Rattle.kdf_usercode.specs.Characters.{are_characters}
use Rattle.kdf_usercode.specs.OrderNames.{order_names}
use Rattle.kdf_usercode.specs.Orders.{octal_order, order_form}
use Rattle.kdf_usercode.specs.Stores.{letter_after, lettered, store_name, not_e, addressed, suffix_of, direction_of, access_form, address_form}
use Rattle.kdf_usercode.specs.Jumps.{conditions, condition_of, target_form, subroutine_form, test_form, jump_form}
use Rattle.kdf_usercode.specs.Constants.{value_names, address_item, number_item, item_behind, item_form, triple_form, octal_value, characters_value, value_form}
use Rattle.kdf_usercode.specs.Constants.{constant_form}
use Rattle.kdf_usercode.specs.Forms.{statement_names, form_in}
use Rattle.kdf_usercode.proofs.Optional.{Holds, holds-any, holds-or, holds-map, holds-bind, holds-if, holds-row}

-- ---- orders

abbrev within : ℕ → ℕ → ℕ → Bool
within low high n = nat_le low n && nat_le n high

-- the code is one of its kind
abbrev pub has_code : OrderForm → Bool
has_code (orders.Plain code) = within 1 33 code && not (code == 19)
has_code (orders.Indirect code) = within 64 79 code
has_code (orders.Single code) = within 80 98 code
has_code (orders.Copies code) = within 99 105 code
has_code (orders.ShiftUp code) = within 106 110 code
has_code (orders.ShiftDown code) = within 106 110 code
has_code (orders.ShiftCount code) = within 106 110 code
has_code (orders.Device code) = within 112 125 code
has_code (orders.Query b) = nat_le b 5
has_code form = true

orders-have-codes : list_all (λ (r : List ℕ × OrderForm). has_code r.1) order_names ≡ true
orders-have-codes = refl

order-form : (shape text : List ℕ) → Holds (λ form. has_code form ≡ true) (order_form shape text)
unfolding order_form octal_order
order-form shape text =
    holds-or (λ form. has_code form ≡ true) (row_in order_names shape) (octal_order shape text)
    (holds-row has_code order_names shape orders-have-codes)
    (holds-if (λ form. has_code form ≡ true) (bytes_eq shape (codes "SETB0") && all_octal (text_behind letter_b text)) orders.SetOctal refl)

-- ---- stores

-- the group is one
abbrev pub HasGroup : StoreName → Type 0
HasGroup (names.Y group) = group ≤ 26
HasGroup name = Unit {0}

abbrev pub IsAddressedName : StoreName → Type 0
IsAddressedName names.E = ⊥
IsAddressedName name = HasGroup name

letter-small : (c : ℕ) → (nat_le letter_a c && nat_le c letter_z) ≡ true → c - letter_a + 1 ≤ 26
letter-small c e = grind (arith, nat_tests)

letter-found : (c : ℕ) (rest : List ℕ) (b : Bool) → (nat_le letter_a c && nat_le c letter_z) ≡ b
    → Holds (λ (x : ℕ × List ℕ). x.0 ≤ 26) (cond b (Some (c - letter_a + 1, rest)) None)
letter-found c rest true e = letter-small c e
letter-found c rest false e = tt

letter-after : (shape : List ℕ) → Holds (λ (x : ℕ × List ℕ). x.0 ≤ 26) (letter_after shape)
letter-after [] = tt
letter-after (c ∷ rest) = letter-found c rest (nat_le letter_a c && nat_le c letter_z) refl

abbrev NameHas : (StoreName → Type 0) → StoreName × List ℕ → Type 0
NameHas P x = P x.0

any : {A : Type 0} (o : Option A) → Holds (λ x. Unit {0}) o
any o = holds-any (λ x. Unit {0}) o (λ x. tt)

lettered-name : (shape : List ℕ) → Holds (NameHas HasGroup) (lettered shape)
unfolding lettered
lettered-name shape =
    holds-bind (λ x. Unit {0}) (NameHas HasGroup) (strip (codes "Y") shape) _ (any (strip (codes "Y") shape))
    (λ rest u. holds-bind (λ (x : ℕ × List ℕ). x.0 ≤ 26) (NameHas HasGroup) (letter_after rest) _ (letter-after rest)
    (λ letter h. holds-bind (λ x. Unit {0}) (NameHas HasGroup) (strip (codes "0") letter.1) _ (any (strip (codes "0") letter.1)) (λ r v. h)))

named : (name : StoreName) (prefix shape : List ℕ) → HasGroup name
    → Holds (NameHas HasGroup) (opt_map (λ rest. (name, rest)) (strip prefix shape))
named name prefix shape h =
    holds-map (λ x. Unit {0}) (NameHas HasGroup) (λ rest. (name, rest)) (strip prefix shape) (any (strip prefix shape)) (λ x u. h)

group-zero : HasGroup (names.Y 0)
group-zero = omega arith

store-name : (shape : List ℕ) → Holds (NameHas HasGroup) (store_name shape)
unfolding store_name
store-name shape =
    let e = opt_map (λ (rest : List ℕ). (names.E, rest)) (strip (codes "E0") shape) in
    let p = opt_map (λ (rest : List ℕ). (names.VOfPart, rest)) (strip (codes "V0P0") shape) in
    let v = opt_map (λ (rest : List ℕ). (names.V, rest)) (strip (codes "V0") shape) in
    let y = opt_map (λ (rest : List ℕ). (names.Y 0, rest)) (strip (codes "Y0") shape) in
    holds-or (NameHas HasGroup) (e or p or v or y) (lettered shape)
    (holds-or (NameHas HasGroup) (e or p or v) y
    (holds-or (NameHas HasGroup) (e or p) v
    (holds-or (NameHas HasGroup) e p (named names.E (codes "E0") shape tt) (named names.VOfPart (codes "V0P0") shape tt))
    (named names.V (codes "V0") shape tt))
    (named (names.Y 0) (codes "Y0") shape group-zero))
    (lettered-name shape)

not-e : (name : StoreName) (rest : List ℕ) → HasGroup name
    → Holds (NameHas IsAddressedName) (not_e (name, rest))
not-e (names.Y group) rest h = h
not-e names.V rest h = tt
not-e names.VOfPart rest h = tt
not-e names.E rest h = tt

addressed-name : (shape : List ℕ) → Holds (NameHas IsAddressedName) (addressed shape)
unfolding addressed
addressed-name shape =
    holds-bind (NameHas HasGroup) (NameHas IsAddressedName) (store_name shape) not_e (store-name shape) (λ x h. not-e x.0 x.1 h)

abbrev AccessHas : Direction × StoreName × Suffix → Type 0
AccessHas x = HasGroup x.1

access-form : (shape : List ℕ) → Holds AccessHas (access_form shape)
unfolding access_form
access-form shape =
    let kept = direction_of shape (strip (codes "=") shape) in
    holds-bind (NameHas HasGroup) AccessHas (store_name kept.1) _ (store-name kept.1)
    (λ name h. holds-bind (λ x. Unit {0}) AccessHas (suffix_of name.1) _ (any (suffix_of name.1)) (λ suffix u. h))

address-form : (shape : List ℕ) → Holds IsAddressedName (address_form shape)
unfolding address_form
address-form shape =
    holds-bind (λ x. Unit {0}) IsAddressedName (strip (codes "SETA") shape) _ (any (strip (codes "SETA") shape))
    (λ rest u. holds-bind (NameHas IsAddressedName) IsAddressedName (addressed rest) _ (addressed-name rest)
    (λ name h. holds-if IsAddressedName (length name.1 == 0) name.0 h))

-- ---- jumps

-- the code is that of a jump
abbrev pub has_jump : Test → Bool
has_jump (tests.Of c) = nat_le c 49
has_jump test = true

conditions-have-jumps : list_all (λ (r : List ℕ × Test). has_jump r.1) conditions ≡ true
conditions-have-jumps = refl

condition-of : (shape : List ℕ) → Holds (λ test. has_jump test ≡ true) (condition_of shape)
unfolding condition_of
condition-of shape = holds-row has_jump conditions shape conditions-have-jumps

abbrev JumpHas : Test × TargetForm → Type 0
JumpHas x = has_jump x.0 ≡ true

subroutine-form : (shape : List ℕ) → Holds JumpHas (subroutine_form shape)
unfolding subroutine_form
subroutine-form shape =
    holds-bind (λ x. Unit {0}) JumpHas (strip (codes "JS") shape) _ (any (strip (codes "JS") shape))
    (λ rest u. holds-bind (λ x. Unit {0}) JumpHas (target_form rest) _ (any (target_form rest))
    (λ target v. holds-if JumpHas (length target.1 == 0) (tests.Of 0x21, target.0) refl))

test-form : (shape : List ℕ) → Holds JumpHas (test_form shape)
unfolding test_form
test-form shape =
    holds-bind (λ x. Unit {0}) JumpHas (strip (codes "J") shape) _ (any (strip (codes "J") shape))
    (λ rest u. holds-bind (λ x. Unit {0}) JumpHas (target_form rest) _ (any (target_form rest))
    (λ target v. holds-bind (λ test. has_jump test ≡ true) JumpHas (condition_of target.1) _ (condition-of target.1) (λ test h. h)))

jump-form : (shape : List ℕ) → Holds JumpHas (jump_form shape)
unfolding jump_form
jump-form shape =
    holds-or JumpHas (subroutine_form shape) (test_form shape) (subroutine-form shape) (test-form shape)

-- ---- constants

abbrev pub IsItemForm : ItemForm → Type 0
IsItemForm (items.Address name) = IsAddressedName name
IsItemForm form = Unit {0}

abbrev pub IsValueForm : ValueForm → Type 0
IsValueForm (values.Triple c i m) = IsItemForm c × IsItemForm i × IsItemForm m
IsValueForm form = Unit {0}

abbrev ItemHas : ItemForm × List ℕ → Type 0
ItemHas x = IsItemForm x.0

address-item : (shape : List ℕ) → Holds ItemHas (address_item shape)
unfolding address_item
address-item shape =
    holds-bind (NameHas IsAddressedName) ItemHas (addressed shape) _ (addressed-name shape) (λ name h. h)

number : (form : ItemForm) (prefix shape : List ℕ) → IsItemForm form
    → Holds ItemHas (opt_map (λ rest. (form, rest)) (strip prefix shape))
number form prefix shape h =
    holds-map (λ x. Unit {0}) ItemHas (λ rest. (form, rest)) (strip prefix shape) (any (strip prefix shape)) (λ x u. h)

number-item : (shape : List ℕ) → Holds ItemHas (number_item shape)
unfolding number_item
number-item shape =
    let down = opt_map (λ (rest : List ℕ). (items.Down, rest)) (strip (codes "-0") shape) in
    let up = opt_map (λ (rest : List ℕ). (items.Up, rest)) (strip (codes "+0") shape) in
    let plain = opt_map (λ (rest : List ℕ). (items.Up, rest)) (strip (codes "0") shape) in
    holds-or ItemHas (down or up) plain (holds-or ItemHas down up (number items.Down (codes "-0") shape tt) (number items.Up (codes "+0") shape tt))
    (number items.Up (codes "0") shape tt)

item-behind : (shape : List ℕ) (o : Option (List ℕ)) → Holds ItemHas (item_behind shape o)
item-behind shape None = number-item shape
item-behind shape (Some rest) = address-item rest

item-form : (shape : List ℕ) → Holds ItemHas (item_form shape)
unfolding item_form
item-form shape = item-behind shape (strip (codes "A") shape)

triple-form : (shape : List ℕ) → Holds IsValueForm (triple_form shape)
unfolding triple_form
triple-form shape =
    holds-bind (λ x. Unit {0}) IsValueForm (strip (codes "Q") shape) _ (any (strip (codes "Q") shape))
    (λ r0 u0. holds-bind ItemHas IsValueForm (item_form r0) _ (item-form r0)
    (λ c hc. holds-bind (λ x. Unit {0}) IsValueForm (strip (codes "/") c.1) _ (any (strip (codes "/") c.1))
    (λ r1 u1. holds-bind ItemHas IsValueForm (item_form r1) _ (item-form r1)
    (λ i hi. holds-bind (λ x. Unit {0}) IsValueForm (strip (codes "/") i.1) _ (any (strip (codes "/") i.1))
    (λ r2 u2. holds-bind ItemHas IsValueForm (item_form r2) _ (item-form r2)
    (λ m hm. holds-if IsValueForm (length m.1 == 0) (values.Triple c.0 i.0 m.0) (hc, hi, hm)))))))

abbrev is_simple : ValueForm → Bool
is_simple (values.Triple c i m) = false
is_simple form = true

simple : (form : ValueForm) → is_simple form ≡ true → IsValueForm form
simple values.Up e = tt
simple values.Down e = tt
simple values.Octal e = tt
simple values.Characters e = tt
simple (values.Triple c i m) e = absurd cc

values-simple : list_all (λ (r : List ℕ × ValueForm). is_simple r.1) value_names ≡ true
values-simple = refl

weaker : {A : Type 0} (P R : A → Type 0) (o : Option A) → ((x : A) → P x → R x) → Holds P o → Holds R o
weaker P R None f h = tt
weaker P R (Some x) f h = f x h

octal-value : (shape text : List ℕ) → Holds IsValueForm (octal_value shape text)
unfolding octal_value
octal-value shape text =
    holds-if IsValueForm (bytes_eq shape (codes "B0") && all_octal (text_behind letter_b text)) values.Octal tt

characters-value : (shape text : List ℕ) → Holds IsValueForm (characters_value shape text)
unfolding characters_value
characters-value shape text =
    holds-bind (λ x. Unit {0}) IsValueForm (strip (codes "P") shape) _ (any (strip (codes "P") shape))
    (λ rest u. holds-if IsValueForm (are_characters (text_behind letter_p text)) values.Characters tt)

value-form : (shape text : List ℕ) → Holds IsValueForm (value_form shape text)
unfolding value_form
value-form shape text =
    let row = row_in value_names shape in
    holds-or IsValueForm (row or triple_form shape or octal_value shape text) (characters_value shape text)
    (holds-or IsValueForm (row or triple_form shape) (octal_value shape text)
    (holds-or IsValueForm row (triple_form shape)
    (weaker (λ form. is_simple form ≡ true) IsValueForm row simple (holds-row is_simple value_names shape values-simple))
    (triple-form shape))
    (octal-value shape text))
    (characters-value shape text)

constant-form : (shape text : List ℕ) → Holds IsValueForm (constant_form shape text)
unfolding constant_form
constant-form shape text =
    holds-bind (λ x. Unit {0}) IsValueForm (strip (codes "V0=") shape) _ (any (strip (codes "V0=") shape)) (λ rest u. value-form rest text)

-- ---- all forms

-- the codes and groups of a form are those of its kind
abbrev pub IsForm : Form → Type 0
IsForm (forms.Plain order) = has_code order ≡ true
IsForm (forms.Constant value) = IsValueForm value
IsForm (forms.Go test target) = has_jump test ≡ true
IsForm (forms.Access direction name suffix) = HasGroup name
IsForm (forms.SetAddress name) = IsAddressedName name
IsForm form = Unit {0}

abbrev is_bare : Form → Bool
is_bare forms.Program = true
is_bare forms.ProgramStores = true
is_bare forms.Part = true
is_bare forms.PartStores = true
is_bare forms.Finish = true
is_bare forms.Star = true
is_bare forms.Reference = true
is_bare forms.Short = true
is_bare form = false

bare : (form : Form) → is_bare form ≡ true → IsForm form
bare forms.Program e = tt
bare forms.ProgramStores e = tt
bare forms.Part e = tt
bare forms.PartStores e = tt
bare forms.Finish e = tt
bare forms.Star e = tt
bare forms.Reference e = tt
bare forms.Short e = tt
bare (forms.Plain order) e = absurd cc
bare (forms.Constant value) e = absurd cc
bare (forms.Go test target) e = absurd cc
bare (forms.Access direction name suffix) e = absurd cc
bare (forms.SetAddress name) e = absurd cc

statements-bare : list_all (λ (r : List ℕ × Form). is_bare r.1) statement_names ≡ true
statements-bare = refl

pub form-in : (shape text : List ℕ) → Holds IsForm (form_in shape text)
unfolding form_in
form-in shape text =
    let row = row_in statement_names shape in
    let order = opt_map (λ order. forms.Plain order) (order_form shape text) in
    let constant = opt_map (λ value. forms.Constant value) (constant_form shape text) in
    let jump = opt_map (λ (jump : Test × TargetForm). forms.Go jump.0 jump.1) (jump_form shape) in
    let address = opt_map (λ name. forms.SetAddress name) (address_form shape) in
    let access = opt_map (λ (access : Direction × StoreName × Suffix). forms.Access access.0 access.1 access.2) (access_form shape) in
    holds-or IsForm (row or order or constant or jump or address) access
    (holds-or IsForm (row or order or constant or jump) address
    (holds-or IsForm (row or order or constant) jump
    (holds-or IsForm (row or order) constant
    (holds-or IsForm row order
    (weaker (λ form. is_bare form ≡ true) IsForm row bare (holds-row is_bare statement_names shape statements-bare))
    (holds-map (λ form. has_code form ≡ true) IsForm (λ order. forms.Plain order) (order_form shape text) (order-form shape text) (λ x h. h)))
    (holds-map IsValueForm IsForm (λ value. forms.Constant value) (constant_form shape text) (constant-form shape text) (λ x h. h)))
    (holds-map JumpHas IsForm (λ (jump : Test × TargetForm). forms.Go jump.0 jump.1) (jump_form shape) (jump-form shape) (λ x h. h)))
    (holds-map IsAddressedName IsForm (λ name. forms.SetAddress name) (address_form shape) (address-form shape) (λ x h. h)))
    (holds-map AccessHas IsForm (λ (access : Direction × StoreName × Suffix). forms.Access access.0 access.1 access.2) (access_form shape) (access-form shape)
    (λ x h. h))
