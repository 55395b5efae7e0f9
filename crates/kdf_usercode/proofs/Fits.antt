-- What is said with numbers in range has its fields in range.
use Rattle.std.proofs.Common.{◌≡◌, ℕ, ◌+◌, ◌^◌, ◌<◌, ◌≤◌, Bool, true, List, [], ◌∷◌, ◌++◌, drop, get_or, Option, Some, None, refl, arith, inl, lit<}
use Rattle.std.specs.Prelude.{slice_index}
use Rattle.std.proofs.lemmas.Bool.Decides.{nat_tests}
use Rattle.std.proofs.lemmas.Int.{ints}
use Rattle.std.proofs.lemmas.List.{get_or-drop}
use Rattle.kdf_code.specs.Code.{code_of}
use Rattle.kdf_code.proofs.Table.{host_of-code_of}
use Rattle.kdf_syllable.specs.Spelling.{IsOrder, IsQ}
use Rattle.kdf_usercode.specs.declared.fault.DeckFault.{DeckFault}
use Rattle.kdf_usercode.specs.declared.range.Range.{Range}
use Rattle.kdf_usercode.specs.declared.order_names.OrderForm.{OrderForm}
use Rattle.kdf_usercode.specs.declared.order_names.OrderForm.TheVariants as orders
use Rattle.kdf_usercode.specs.declared.stores.Direction.{Direction}
use Rattle.kdf_usercode.specs.declared.stores.Direction.TheVariants.{Fetch, Keep}
use Rattle.kdf_usercode.specs.declared.stores.StoreName.{StoreName}
use Rattle.kdf_usercode.specs.declared.stores.StoreName.TheVariants as names
use Rattle.kdf_usercode.specs.declared.stores.Suffix.{Suffix}
use Rattle.kdf_usercode.specs.declared.stores.Suffix.TheVariants as suffixes
use Rattle.kdf_usercode.specs.declared.jumps.Test.{Test}
use Rattle.kdf_usercode.specs.declared.jumps.Test.TheVariants as tests
use Rattle.kdf_usercode.specs.declared.jumps.TargetForm.{TargetForm}
use Rattle.kdf_usercode.specs.declared.jumps.TargetForm.TheVariants as targets
use Rattle.kdf_usercode.specs.declared.constants.ItemForm.{ItemForm}
use Rattle.kdf_usercode.specs.declared.constants.ItemForm.TheVariants as items
use Rattle.kdf_usercode.specs.declared.constants.ValueForm.{ValueForm}
use Rattle.kdf_usercode.specs.declared.constants.ValueForm.TheVariants as values
use Rattle.kdf_usercode.specs.declared.forms.Form.{Form}
use Rattle.kdf_usercode.specs.declared.forms.Form.TheVariants as forms
use Rattle.kdf_usercode.specs.declared.phase.Stage.{Stage}
use Rattle.kdf_usercode.specs.declared.phase.Stage.TheVariants.{Heading, Constants, Body, Ended}
use Rattle.kdf_usercode.specs.declared.statement.Named.{Named}
use Rattle.kdf_usercode.specs.Bytes.{letter_b, letter_p}
use Rattle.kdf_usercode.specs.Parse.{text_behind}
use Rattle.kdf_usercode.specs.Range.{q_range, reference_range, part_range, opened_range, store_range, range_fault, range_faults}
use Rattle.kdf_usercode.specs.Octal.{octal}
use Rattle.kdf_usercode.specs.Characters.{or_zero, code_at, half, characters_word}
use Rattle.kdf_usercode.specs.Orders.{left_range, right_range, exit_range, up_range, octal_set_range, order_ranges, octal_order_faults, order_of}
use Rattle.kdf_usercode.specs.Stores.{store_ranges, suffix_ranges, access_ranges, named_of, behind_name, q_of, is_stepped, done, access_of}
use Rattle.kdf_usercode.specs.Jumps.{target_ranges, test_ranges, jump_ranges, target_of, behind_target, jump_code, go_of}
use Rattle.kdf_usercode.specs.Constants.{word_up_range, octal_word_range, bits_up_range, item_ranges, value_ranges, text_value_faults, item_of, behind_item}
use Rattle.kdf_usercode.specs.Constants.{triple_of, value_of}
use Rattle.kdf_usercode.specs.Forms.{ranges_of, text_faults, store_of, what_of}
use Rattle.kdf_usercode.specs.WellFormed.{IsNamed, IsAddressed, IsItem, IsValue, IsTarget, StandsAlone, IsWhat}
use Rattle.kdf_usercode.proofs.Ranges.{ranges-apart}
use Rattle.kdf_usercode.proofs.InTables.{has_code, HasGroup, IsAddressedName, has_jump, IsItemForm, IsValueForm, IsForm}

-- ---- numbers in their ranges

within-range : (r : Range) (n : ℕ) (rest : List DeckFault) → range_fault r n ++ rest ≡ []
    → (r.low ≤ n) × (n ≤ r.high)
within-range r n rest e = grind (arith, nat_tests)

within-one : (r : Range) (n : ℕ) → range_fault r n ≡ [] → (r.low ≤ n) × (n ≤ r.high)
within-one r n e = grind (arith, nat_tests)

-- the first number is in the first range
first : (r : Range) (rs : List Range) (ns : List ℕ) → range_faults (r ∷ rs) ns ≡ []
    → (r.low ≤ slice_index ns 0) × (slice_index ns 0 ≤ r.high)
first r rs ns e = within-range r (slice_index ns 0) (range_faults rs (drop 1 ns)) e

second : (a b : Range) (rs : List Range) (ns : List ℕ) → range_faults (a ∷ b ∷ rs) ns ≡ []
    → (b.low ≤ slice_index ns 1) × (slice_index ns 1 ≤ b.high)
second a b rs ns e =
    let h = first b rs (drop 1 ns) (ranges-apart (a ∷ []) (b ∷ rs) ns e).1 in
    let same : slice_index (drop 1 ns) 0 ≡ slice_index ns 1 = get_or-drop 1 ns 0 0 in
    (omega arith, omega arith)

third : (a b c : Range) (rs : List Range) (ns : List ℕ) → range_faults (a ∷ b ∷ c ∷ rs) ns ≡ []
    → (c.low ≤ slice_index ns 2) × (slice_index ns 2 ≤ c.high)
third a b c rs ns e =
    let h = first c rs (drop 2 ns) (ranges-apart (a ∷ b ∷ []) (c ∷ rs) ns e).1 in
    let same : slice_index (drop 2 ns) 0 ≡ slice_index ns 2 = get_or-drop 2 ns 0 0 in
    (omega arith, omega arith)

-- ---- orders

order-fits : (form : OrderForm) (ns text : List ℕ) → has_code form ≡ true
    → range_faults (order_ranges form) ns ≡ [] → octal_order_faults form text ≡ []
    → IsOrder (order_of form ns text)
order-fits (orders.Plain code) ns text f r o =
    ((grind (arith, nat_tests), grind (arith, nat_tests)), λ e. grind (arith, nat_tests))
order-fits (orders.Indirect code) ns text f r o =
    let a = first q_range (q_range ∷ []) ns r in
    let b = second q_range q_range [] ns r in
    ((grind (arith, nat_tests), grind (arith, nat_tests)), omega (arith, a.1), omega (arith, b.1))
order-fits (orders.Single code) ns text f r o =
    let a = first q_range [] ns r in
    (inl (grind (arith, nat_tests), grind (arith, nat_tests)), omega (arith, a.1))
order-fits (orders.Copies code) ns text f r o =
    let a = first q_range (q_range ∷ []) ns r in
    let b = second q_range q_range [] ns r in
    ((grind (arith, nat_tests), grind (arith, nat_tests)), omega (arith, a.1), omega (arith, b.1))
order-fits (orders.ShiftUp code) ns text f r o =
    let a = first left_range [] ns r in
    ((grind (arith, nat_tests), grind (arith, nat_tests)), (omega (arith, ints), omega (arith, ints, a.1)))
order-fits (orders.ShiftDown code) ns text f r o =
    let a = first right_range [] ns r in
    ((grind (arith, nat_tests), grind (arith, nat_tests)), (omega (arith, ints, a.1), omega (arith, ints)))
order-fits (orders.ShiftCount code) ns text f r o =
    let a = first q_range [] ns r in
    ((grind (arith, nat_tests), grind (arith, nat_tests)), omega (arith, a.1))
order-fits (orders.Device code) ns text f r o =
    let a = first q_range [] ns r in
    ((grind (arith, nat_tests), grind (arith, nat_tests)), omega (arith, a.1))
order-fits (orders.Query b) ns text f r o =
    let a = first q_range [] ns r in
    (grind (arith, nat_tests), omega (arith, a.1))
order-fits orders.ExitNone ns text f r o = lit< tt
order-fits orders.Exit ns text f r o = let a = first exit_range [] ns r in omega (arith, a.1)
order-fits orders.SetUp ns text f r o = let a = first up_range [] ns r in omega (arith, a.1)
order-fits orders.SetDown ns text f r o = omega arith
order-fits orders.SetOctal ns text f r o =
    let a = within-one octal_set_range (octal (text_behind letter_b text)) o in
    omega (arith, a.1)

order-alone : (form : OrderForm) (ns text : List ℕ) → has_code form ≡ true
    → StandsAlone (order_of form ns text)
order-alone (orders.Plain code) ns text f = tt
order-alone (orders.Indirect code) ns text f = tt
order-alone (orders.Single code) ns text f = λ e. grind (arith, nat_tests)
order-alone (orders.Copies code) ns text f = tt
order-alone (orders.ShiftUp code) ns text f = tt
order-alone (orders.ShiftDown code) ns text f = tt
order-alone (orders.ShiftCount code) ns text f = tt
order-alone (orders.Device code) ns text f = tt
order-alone (orders.Query b) ns text f = tt
order-alone orders.ExitNone ns text f = tt
order-alone orders.Exit ns text f = tt
order-alone orders.SetUp ns text f = tt
order-alone orders.SetDown ns text f = tt
order-alone orders.SetOctal ns text f = tt

-- ---- stores

named-fits : (name : StoreName) (ns : List ℕ) → HasGroup name → range_faults (store_ranges name) ns ≡ []
    → IsNamed (named_of name ns)
named-fits (names.Y group) ns g r = (g, (first store_range [] ns r).1)
named-fits names.V ns g r = ((first store_range [] ns r).1, tt)
named-fits names.VOfPart ns g r =
    ((first store_range (part_range ∷ []) ns r).1, (second store_range part_range [] ns r).1)
named-fits names.E ns g r = (first store_range [] ns r).1

addressed-fits : (name : StoreName) (ns : List ℕ) → IsAddressedName name
    → range_faults (store_ranges name) ns ≡ [] → IsAddressed (named_of name ns)
addressed-fits (names.Y group) ns g r = named-fits (names.Y group) ns g r
addressed-fits names.V ns g r = named-fits names.V ns tt r
addressed-fits names.VOfPart ns g r = named-fits names.VOfPart ns tt r
addressed-fits names.E ns g r = absurd g

behind-fits : (name : StoreName) (ns : List ℕ) → range_faults (store_ranges name ++ (q_range ∷ [])) ns ≡ []
    → IsQ (behind_name name ns)
behind-fits (names.Y group) ns r = let a = second store_range q_range [] ns r in omega (arith, a.1)
behind-fits names.V ns r = let a = second store_range q_range [] ns r in omega (arith, a.1)
behind-fits names.VOfPart ns r = let a = third store_range part_range q_range [] ns r in omega (arith, a.1)
behind-fits names.E ns r = let a = second store_range q_range [] ns r in omega (arith, a.1)

q-fits : (name : StoreName) (suffix : Suffix) (ns : List ℕ)
    → range_faults (access_ranges name suffix) ns ≡ [] → IsQ (q_of name suffix ns)
q-fits name suffixes.Nothing ns r = lit< tt
q-fits name suffixes.M ns r = behind-fits name ns r
q-fits name suffixes.MQ ns r = behind-fits name ns r

done-fits : (direction : Direction) (named : Named) (q : ℕ) (u : Bool) → IsNamed named → IsQ q
    → IsWhat (done direction named q u)
done-fits Keep named q u h k = (h, k)
done-fits Fetch named q u h k = (h, k)

access-fits : (direction : Direction) (name : StoreName) (suffix : Suffix) (ns : List ℕ) → HasGroup name
    → range_faults (access_ranges name suffix) ns ≡ [] → IsWhat (access_of direction name suffix ns)
access-fits direction name suffix ns g r =
    done-fits direction (named_of name ns) (q_of name suffix ns) (is_stepped suffix)
    (named-fits name ns g (ranges-apart (store_ranges name) (suffix_ranges suffix) ns r).0) (q-fits name suffix ns r)

store-fits : (stage : Stage) (direction : Direction) (name : StoreName) (suffix : Suffix) (ns : List ℕ)
    → HasGroup name → range_faults (access_ranges name suffix) ns ≡ []
    → IsWhat (store_of stage direction name suffix ns)
store-fits Heading Fetch (names.Y group) suffixes.Nothing ns g r = (g, (first store_range [] ns r).1)
store-fits Heading Fetch (names.Y group) suffixes.M ns g r =
    access-fits Fetch (names.Y group) suffixes.M ns g r
store-fits Heading Fetch (names.Y group) suffixes.MQ ns g r =
    access-fits Fetch (names.Y group) suffixes.MQ ns g r
store-fits Heading Fetch names.V suffix ns g r = access-fits Fetch names.V suffix ns g r
store-fits Heading Fetch names.VOfPart suffix ns g r = access-fits Fetch names.VOfPart suffix ns g r
store-fits Heading Fetch names.E suffix ns g r = access-fits Fetch names.E suffix ns g r
store-fits Heading Keep name suffix ns g r = access-fits Keep name suffix ns g r
store-fits Constants direction name suffix ns g r = access-fits direction name suffix ns g r
store-fits Body direction name suffix ns g r = access-fits direction name suffix ns g r
store-fits Ended direction name suffix ns g r = access-fits direction name suffix ns g r

-- ---- jumps

target-fits : (target : TargetForm) (ns : List ℕ) → range_faults (target_ranges target) ns ≡ []
    → IsTarget (target_of target ns).r (target_of target ns).p
target-fits targets.Reference ns r = let a = first reference_range [] ns r in ((a.0, a.1), tt)
target-fits targets.Part ns r = (first part_range [] ns r).1
target-fits targets.Both ns r =
    let a = first reference_range (part_range ∷ []) ns r in
    ((a.0, a.1), (second reference_range part_range [] ns r).1)

count-fits : (target : TargetForm) (ns : List ℕ)
    → range_faults (target_ranges target ++ (q_range ∷ [])) ns ≡ [] → IsQ (behind_target target ns)
count-fits targets.Reference ns r = let a = second reference_range q_range [] ns r in omega (arith, a.1)
count-fits targets.Part ns r = let a = second part_range q_range [] ns r in omega (arith, a.1)
count-fits targets.Both ns r =
    let a = third reference_range part_range q_range [] ns r in
    omega (arith, a.1)

jump-fits : (test : Test) (target : TargetForm) (ns : List ℕ) → has_jump test ≡ true
    → range_faults (jump_ranges test target) ns ≡ [] → jump_code test (behind_target target ns) ≤ 0x31
jump-fits (tests.Of c) target ns h r = grind (arith, nat_tests)
jump-fits tests.CountZero target ns h r =
    let a : behind_target target ns < 16 = count-fits target ns r in
    omega arith
jump-fits tests.CountNotZero target ns h r =
    let a : behind_target target ns < 16 = count-fits target ns r in
    omega arith

go-fits : (test : Test) (target : TargetForm) (ns : List ℕ) → has_jump test ≡ true
    → range_faults (jump_ranges test target) ns ≡ [] → IsWhat (go_of test target ns)
go-fits test target ns h r =
    (jump-fits test target ns h r, target-fits target ns (ranges-apart (target_ranges target) (test_ranges test) ns r).0)

-- ---- constants

item-fits : (form : ItemForm) (ns : List ℕ) → IsItemForm form → range_faults (item_ranges form) ns ≡ []
    → IsItem (item_of form ns)
item-fits items.Up ns h r = let a = first bits_up_range [] ns r in omega (arith, a.1)
item-fits items.Down ns h r = omega arith
item-fits (items.Address name) ns h r = addressed-fits name ns h r

triple-fits : (c i m : ItemForm) (ns : List ℕ) → IsItemForm c × IsItemForm i × IsItemForm m
    → range_faults (item_ranges c ++ (item_ranges i ++ item_ranges m)) ns ≡ []
    → IsValue (triple_of c i m ns)
triple-fits c i m ns h r =
    let a = ranges-apart (item_ranges c) (item_ranges i ++ item_ranges m) ns r in
    let b = ranges-apart (item_ranges i) (item_ranges m) (behind_item c ns) a.1 in
    (item-fits c ns h.0 a.0, item-fits i (behind_item c ns) h.1 b.0, item-fits m (behind_item i (behind_item c ns)) h.2 b.1)

code-below : (o : Option ℕ) → ((code : ℕ) → o ≡ Some code → code < 64) → or_zero o < 64
code-below None h = lit< tt
code-below (Some code) h = h code refl

code_at-below : (cs : List ℕ) (i : ℕ) → code_at cs i < 64
code_at-below cs i =
    code-below (code_of (get_or cs i 32)) (λ code e. (host_of-code_of (get_or cs i 32) code e).0)

half-below : (cs : List ℕ) (i : ℕ) → half cs i < 2 ^ 24
half-below cs i =
    let a = code_at-below cs i in
    let b = code_at-below cs (i + 1) in
    let c = code_at-below cs (i + 2) in
    let d = code_at-below cs (i + 3) in
    omega (arith, a, b, c, d)

word-below : (cs : List ℕ) → characters_word cs < 2 ^ 48
unfolding characters_word
word-below cs =
    let a = half-below cs 0 in
    let b = half-below cs 4 in
    omega (arith, a, b)

value-fits : (form : ValueForm) (ns text : List ℕ) → IsValueForm form
    → range_faults (value_ranges form) ns ≡ [] → text_value_faults form text ≡ []
    → IsValue (value_of form ns text)
value-fits values.Up ns text f r o = let a = first word_up_range [] ns r in omega (arith, a.1)
value-fits values.Down ns text f r o = omega arith
value-fits values.Octal ns text f r o =
    let a = within-one octal_word_range (octal (text_behind letter_b text)) o in
    omega (arith, a.1)
value-fits values.Characters ns text f r o = word-below (text_behind letter_p text)
value-fits (values.Triple c i m) ns text f r o = triple-fits c i m ns f r

constant-fits : (form : ValueForm) (ns text : List ℕ) → IsValueForm form
    → range_faults (store_range ∷ value_ranges form) ns ≡ [] → text_value_faults form text ≡ []
    → IsWhat (what_of Heading (forms.Constant form) ns text)
constant-fits form ns text f r o =
    ((first store_range (value_ranges form) ns r).1, value-fits form (drop 1 ns) text f (ranges-apart (store_range ∷ []) (value_ranges form) ns r).1 o)

-- ---- statements

-- what is said with numbers in range has its fields in range
pub what-fits : (stage : Stage) (form : Form) (ns text : List ℕ) → IsForm form
    → range_faults (ranges_of form) ns ≡ [] → text_faults form text ≡ []
    → IsWhat (what_of stage form ns text)
what-fits stage forms.Program ns text f r o = tt
what-fits stage forms.ProgramStores ns text f r o = (first store_range [] ns r).1
what-fits stage forms.Part ns text f r o = let a = first opened_range [] ns r in ((a.0, a.1), tt)
what-fits stage forms.PartStores ns text f r o =
    let a = first opened_range (store_range ∷ []) ns r in
    ((a.0, a.1), (second opened_range store_range [] ns r).1)
what-fits stage forms.Finish ns text f r o = tt
what-fits stage forms.Star ns text f r o = tt
what-fits stage forms.Reference ns text f r o = first reference_range [] ns r
what-fits stage forms.Short ns text f r o =
    let a = first reference_range (q_range ∷ []) ns r in
    let b = second reference_range q_range [] ns r in
    ((a.0, a.1), omega (arith, b.1))
what-fits stage (forms.Plain order) ns text f r o =
    (order-fits order ns text f r o, order-alone order ns text f)
what-fits stage (forms.Constant value) ns text f r o = constant-fits value ns text f r o
what-fits stage (forms.Go test target) ns text f r o = go-fits test target ns f r
what-fits stage (forms.Access direction name suffix) ns text f r o =
    store-fits stage direction name suffix ns f r
what-fits stage (forms.SetAddress name) ns text f r o = addressed-fits name ns f r
