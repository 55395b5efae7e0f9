-- Numbers that the code holds as 2 ^ 48 at most have the faults of the numbers themselves, and where there is none they say the same.
use Rattle.std.proofs.Common.{◌≡◌, ℕ, zero, suc, ◌+◌, ◌<◌, ◌^◌, Bool, true, ltb, ltb-true, List, [], ◌∷◌, ◌++◌, map, length, drop, refl, ap, ◌∙◌, arith}
use Rattle.std.specs.Prelude.{slice_index}
use Rattle.std.specs.List.{list_all}
use Rattle.std.proofs.lemmas.Bool.Decides.{nat_tests}
use Rattle.kdf_usercode.specs.declared.constants.ItemForm.{ItemForm}
use Rattle.kdf_usercode.specs.declared.constants.ItemForm.TheVariants as items
use Rattle.kdf_usercode.specs.declared.constants.ValueForm.{ValueForm}
use Rattle.kdf_usercode.specs.declared.constants.ValueForm.TheVariants as values
use Rattle.kdf_usercode.specs.declared.forms.Form.{Form}
use Rattle.kdf_usercode.specs.declared.forms.Form.TheVariants as forms
use Rattle.kdf_usercode.specs.declared.jumps.TargetForm.{TargetForm}
use Rattle.kdf_usercode.specs.declared.jumps.TargetForm.TheVariants as targets
use Rattle.kdf_usercode.specs.declared.jumps.Test.{Test}
use Rattle.kdf_usercode.specs.declared.jumps.Test.TheVariants as tests
use Rattle.kdf_usercode.specs.declared.order_names.OrderForm.{OrderForm}
use Rattle.kdf_usercode.specs.declared.order_names.OrderForm.TheVariants as orders
use Rattle.kdf_usercode.specs.declared.phase.Stage.{Stage}
use Rattle.kdf_usercode.specs.declared.range.Range.{Range}
use Rattle.kdf_usercode.specs.declared.statement.Named.{Named}
use Rattle.kdf_usercode.specs.declared.statement.What.{What}
use Rattle.kdf_usercode.specs.declared.stores.Direction.{Direction}
use Rattle.kdf_usercode.specs.declared.stores.StoreName.{StoreName}
use Rattle.kdf_usercode.specs.declared.stores.StoreName.TheVariants as names
use Rattle.kdf_usercode.specs.declared.stores.Suffix.{Suffix}
use Rattle.kdf_usercode.specs.declared.stores.Suffix.TheVariants as suffixes
use Rattle.kdf_usercode.specs.Capped.{capped}
use Rattle.kdf_usercode.specs.Constants.{item_ranges, value_ranges, item_of, behind_item, triple_of, value_of}
use Rattle.kdf_usercode.specs.Forms.{ranges_of, declared_or, store_of, what_of}
use Rattle.kdf_usercode.specs.Jumps.{target_ranges, test_ranges, jump_ranges, target_of, behind_target, jump_code, go_of}
use Rattle.kdf_usercode.specs.Orders.{order_ranges, order_of}
use Rattle.kdf_usercode.specs.Range.{q_range, store_range, range_fault, range_faults}
use Rattle.kdf_usercode.specs.Stores.{store_ranges, suffix_ranges, access_ranges, named_of, behind_name, q_of, is_stepped, done, access_of, declared_group}
use Rattle.kdf_usercode.proofs.Optional.{both-true}
use Rattle.kdf_usercode.proofs.Ranges.{nil-append, ranges-apart}

-- ---- one number

pub fault-capped : (r : Range) (n : ℕ) → r.high < 2 ^ 48 → range_fault r (capped n) ≡ range_fault r n
fault-capped r n h = grind (arith, nat_tests)

in-range : (r : Range) (n : ℕ) → r.high < 2 ^ 48 → range_fault r n ≡ [] → capped n ≡ n
in-range r n h e = grind (arith, nat_tests)

-- ---- the numbers of a statement

index-capped : (ns : List ℕ) (i : ℕ) → slice_index (map capped ns) i ≡ capped (slice_index ns i)
index-capped [] i = refl
index-capped (n ∷ ns) zero = refl
index-capped (n ∷ ns) (suc i) = index-capped ns i

drop-capped : (k : ℕ) (ns : List ℕ) → drop k (map capped ns) ≡ map capped (drop k ns)
drop-capped zero ns = refl
drop-capped (suc k) [] = refl
drop-capped (suc k) (n ∷ ns) = drop-capped k ns

-- no range goes to 2 ^ 48
abbrev pub are_small : List Range → Bool
are_small rs = list_all (λ (r : Range). ltb r.high (2 ^ 48)) rs

ranges-capped : (rs : List Range) (ns : List ℕ) → are_small rs ≡ true
    → range_faults rs (map capped ns) ≡ range_faults rs ns
ranges-capped [] ns s = refl
ranges-capped (r ∷ rs) ns s =
    let a = both-true (ltb r.high (2 ^ 48)) (are_small rs) s in
    let first : range_fault r (slice_index (map capped ns) 0) ≡ range_fault r (slice_index ns 0)
    = ap (range_fault r) (index-capped ns 0) ∙ fault-capped r (slice_index ns 0) (ltb-true _ _ a.0) in
    let rest : range_faults rs (drop 1 (map capped ns)) ≡ range_faults rs (drop 1 ns)
    = ap (range_faults rs) (drop-capped 1 ns) ∙ ranges-capped rs (drop 1 ns) a.1 in
    ap (λ x. x ++ range_faults rs (drop 1 (map capped ns))) first ∙ ap (λ x. range_fault r (slice_index ns 0) ++ x) rest

held-below : (rs : List Range) (ns : List ℕ) → are_small rs ≡ true → range_faults rs ns ≡ [] → (i : ℕ)
    → i < length rs
    → slice_index (map capped ns) i ≡ slice_index ns i
held-below [] ns s e i lt = absurd (omega arith)
held-below (r ∷ rs) [] s e i lt = refl
held-below (r ∷ rs) (n ∷ ns) s e zero lt =
    in-range r n (ltb-true _ _ (both-true (ltb r.high (2 ^ 48)) (are_small rs) s).0) (nil-append (range_fault r n) (range_faults rs ns) e).0
held-below (r ∷ rs) (n ∷ ns) s e (suc i) lt =
    held-below rs ns (both-true (ltb r.high (2 ^ 48)) (are_small rs) s).1 (nil-append (range_fault r n) (range_faults rs ns) e).1 i (omega arith)

-- a number in its range is held as it is
held : (rs : List Range) (ns : List ℕ) → are_small rs ≡ true → range_faults rs ns ≡ [] → (i : ℕ)
    → ltb i (length rs) ≡ true
    → slice_index (map capped ns) i ≡ slice_index ns i
held rs ns s e i lt = held-below rs ns s e i (ltb-true i (length rs) lt)

-- ---- orders

order-small : (form : OrderForm) → are_small (order_ranges form) ≡ true
order-small (orders.Plain code) = refl
order-small (orders.Indirect code) = refl
order-small (orders.Single code) = refl
order-small (orders.Copies code) = refl
order-small (orders.ShiftUp code) = refl
order-small (orders.ShiftDown code) = refl
order-small (orders.ShiftCount code) = refl
order-small (orders.Device code) = refl
order-small (orders.Query b) = refl
order-small orders.ExitNone = refl
order-small orders.Exit = refl
order-small orders.SetUp = refl
order-small orders.SetDown = refl
order-small orders.SetOctal = refl

order-capped : (form : OrderForm) (ns text : List ℕ) → range_faults (order_ranges form) ns ≡ []
    → order_of form (map capped ns) text ≡ order_of form ns text
order-capped (orders.Plain code) ns text r = refl
order-capped (orders.Indirect code) ns text r =
    let a = held (q_range ∷ q_range ∷ []) ns refl r 0 refl in
    let b = held (q_range ∷ q_range ∷ []) ns refl r 1 refl in
    cc
order-capped (orders.Single code) ns text r =
    let a = held (order_ranges (orders.Single code)) ns refl r 0 refl in
    cc
order-capped (orders.Copies code) ns text r =
    let a = held (q_range ∷ q_range ∷ []) ns refl r 0 refl in
    let b = held (q_range ∷ q_range ∷ []) ns refl r 1 refl in
    cc
order-capped (orders.ShiftUp code) ns text r =
    let a = held (order_ranges (orders.ShiftUp code)) ns refl r 0 refl in
    cc
order-capped (orders.ShiftDown code) ns text r =
    let a = held (order_ranges (orders.ShiftDown code)) ns refl r 0 refl in
    cc
order-capped (orders.ShiftCount code) ns text r =
    let a = held (order_ranges (orders.ShiftCount code)) ns refl r 0 refl in
    cc
order-capped (orders.Device code) ns text r =
    let a = held (order_ranges (orders.Device code)) ns refl r 0 refl in
    cc
order-capped (orders.Query b) ns text r =
    let a = held (order_ranges (orders.Query b)) ns refl r 0 refl in
    cc
order-capped orders.ExitNone ns text r = refl
order-capped orders.Exit ns text r = let a = held (order_ranges orders.Exit) ns refl r 0 refl in cc
order-capped orders.SetUp ns text r = let a = held (order_ranges orders.SetUp) ns refl r 0 refl in cc
order-capped orders.SetDown ns text r = let a = held (order_ranges orders.SetDown) ns refl r 0 refl in cc
order-capped orders.SetOctal ns text r = refl

-- ---- stores

name-small : (name : StoreName) → are_small (store_ranges name) ≡ true
name-small (names.Y group) = refl
name-small names.V = refl
name-small names.VOfPart = refl
name-small names.E = refl

access-small : (name : StoreName) (suffix : Suffix) → are_small (access_ranges name suffix) ≡ true
access-small (names.Y group) suffixes.Nothing = refl
access-small (names.Y group) suffixes.M = refl
access-small (names.Y group) suffixes.MQ = refl
access-small names.V suffixes.Nothing = refl
access-small names.V suffixes.M = refl
access-small names.V suffixes.MQ = refl
access-small names.VOfPart suffixes.Nothing = refl
access-small names.VOfPart suffixes.M = refl
access-small names.VOfPart suffixes.MQ = refl
access-small names.E suffixes.Nothing = refl
access-small names.E suffixes.M = refl
access-small names.E suffixes.MQ = refl

first-of-name : (name : StoreName) (ns : List ℕ) → range_faults (store_ranges name) ns ≡ []
    → slice_index (map capped ns) 0 ≡ slice_index ns 0
first-of-name (names.Y group) ns r = held (store_range ∷ []) ns refl r 0 refl
first-of-name names.V ns r = held (store_range ∷ []) ns refl r 0 refl
first-of-name names.VOfPart ns r = held (store_ranges names.VOfPart) ns refl r 0 refl
first-of-name names.E ns r = held (store_range ∷ []) ns refl r 0 refl

named-capped : (name : StoreName) (ns : List ℕ) → range_faults (store_ranges name) ns ≡ []
    → named_of name (map capped ns) ≡ named_of name ns
named-capped (names.Y group) ns r = let a = first-of-name (names.Y group) ns r in cc
named-capped names.V ns r = let a = first-of-name names.V ns r in cc
named-capped names.VOfPart ns r =
    let a = first-of-name names.VOfPart ns r in
    let b = held (store_ranges names.VOfPart) ns refl r 1 refl in
    cc
named-capped names.E ns r = let a = first-of-name names.E ns r in cc

behind-capped : (name : StoreName) (ns : List ℕ)
    → range_faults (store_ranges name ++ (q_range ∷ [])) ns ≡ []
    → behind_name name (map capped ns) ≡ behind_name name ns
behind-capped (names.Y group) ns r = held (store_range ∷ q_range ∷ []) ns refl r 1 refl
behind-capped names.V ns r = held (store_range ∷ q_range ∷ []) ns refl r 1 refl
behind-capped names.VOfPart ns r = held (store_ranges names.VOfPart ++ (q_range ∷ [])) ns refl r 2 refl
behind-capped names.E ns r = held (store_range ∷ q_range ∷ []) ns refl r 1 refl

q-capped : (name : StoreName) (suffix : Suffix) (ns : List ℕ)
    → range_faults (access_ranges name suffix) ns ≡ []
    → q_of name suffix (map capped ns) ≡ q_of name suffix ns
q-capped name suffixes.Nothing ns r = refl
q-capped name suffixes.M ns r = behind-capped name ns r
q-capped name suffixes.MQ ns r = behind-capped name ns r

access-capped : (direction : Direction) (name : StoreName) (suffix : Suffix) (ns : List ℕ)
    → range_faults (access_ranges name suffix) ns ≡ []
    → access_of direction name suffix (map capped ns) ≡ access_of direction name suffix ns
access-capped direction name suffix ns r =
    ap (λ (x : Named). done direction x (q_of name suffix (map capped ns)) (is_stepped suffix))
    (named-capped name ns (ranges-apart (store_ranges name) (suffix_ranges suffix) ns r).0)
    ∙ ap (λ (q : ℕ). done direction (named_of name ns) q (is_stepped suffix)) (q-capped name suffix ns r)

store-capped : (stage : Stage) (direction : Direction) (name : StoreName) (suffix : Suffix) (ns : List ℕ)
    → range_faults (access_ranges name suffix) ns ≡ []
    → store_of stage direction name suffix (map capped ns) ≡ store_of stage direction name suffix ns
store-capped stage direction name suffix ns r =
    let group = declared_group direction name suffix in
    ap (λ (n : ℕ). declared_or stage group n (access_of direction name suffix (map capped ns)))
    (first-of-name name ns (ranges-apart (store_ranges name) (suffix_ranges suffix) ns r).0)
    ∙ ap (λ (what : What). declared_or stage group (slice_index ns 0) what) (access-capped direction name suffix ns r)

-- ---- jumps

jump-small : (test : Test) (target : TargetForm) → are_small (jump_ranges test target) ≡ true
jump-small (tests.Of c) targets.Reference = refl
jump-small (tests.Of c) targets.Part = refl
jump-small (tests.Of c) targets.Both = refl
jump-small tests.CountZero targets.Reference = refl
jump-small tests.CountZero targets.Part = refl
jump-small tests.CountZero targets.Both = refl
jump-small tests.CountNotZero targets.Reference = refl
jump-small tests.CountNotZero targets.Part = refl
jump-small tests.CountNotZero targets.Both = refl

target-capped : (target : TargetForm) (ns : List ℕ) → range_faults (target_ranges target) ns ≡ []
    → target_of target (map capped ns) ≡ target_of target ns
target-capped targets.Reference ns r = let a = held (target_ranges targets.Reference) ns refl r 0 refl in cc
target-capped targets.Part ns r = let a = held (target_ranges targets.Part) ns refl r 0 refl in cc
target-capped targets.Both ns r =
    let a = held (target_ranges targets.Both) ns refl r 0 refl in
    let b = held (target_ranges targets.Both) ns refl r 1 refl in
    cc

count-capped : (target : TargetForm) (ns : List ℕ)
    → range_faults (target_ranges target ++ (q_range ∷ [])) ns ≡ []
    → behind_target target (map capped ns) ≡ behind_target target ns
count-capped targets.Reference ns r =
    held (target_ranges targets.Reference ++ (q_range ∷ [])) ns refl r 1 refl
count-capped targets.Part ns r = held (target_ranges targets.Part ++ (q_range ∷ [])) ns refl r 1 refl
count-capped targets.Both ns r = held (target_ranges targets.Both ++ (q_range ∷ [])) ns refl r 2 refl

code-capped : (test : Test) (target : TargetForm) (ns : List ℕ)
    → range_faults (jump_ranges test target) ns ≡ []
    → jump_code test (behind_target target (map capped ns)) ≡ jump_code test (behind_target target ns)
code-capped (tests.Of c) target ns r = refl
code-capped tests.CountZero target ns r = count-capped target ns r
code-capped tests.CountNotZero target ns r = ap (λ q. 16 + q) (count-capped target ns r)

go-capped : (test : Test) (target : TargetForm) (ns : List ℕ)
    → range_faults (jump_ranges test target) ns ≡ []
    → go_of test target (map capped ns) ≡ go_of test target ns
go-capped test target ns r =
    let a = code-capped test target ns r in
    let b = target-capped target ns (ranges-apart (target_ranges target) (test_ranges test) ns r).0 in
    cc

-- ---- constants

item-small : (item : ItemForm) → are_small (item_ranges item) ≡ true
item-small items.Up = refl
item-small items.Down = refl
item-small (items.Address name) = name-small name

small-append : (rs bs : List Range) → are_small rs ≡ true → are_small bs ≡ true
    → are_small (rs ++ bs) ≡ true
small-append [] bs a b = b
small-append (r ∷ rs) bs a b =
    let h = both-true (ltb r.high (2 ^ 48)) (are_small rs) a in rw (h.0) (small-append rs bs h.1 b)

value-small : (form : ValueForm) → are_small (value_ranges form) ≡ true
value-small values.Up = refl
value-small values.Down = refl
value-small values.Octal = refl
value-small values.Characters = refl
value-small (values.Triple c i m) =
    small-append (item_ranges c) (item_ranges i ++ item_ranges m) (item-small c) (small-append (item_ranges i) (item_ranges m) (item-small i) (item-small m))

item-capped : (item : ItemForm) (ns : List ℕ) → range_faults (item_ranges item) ns ≡ []
    → item_of item (map capped ns) ≡ item_of item ns
item-capped items.Up ns r = let a = held (item_ranges items.Up) ns refl r 0 refl in cc
item-capped items.Down ns r = let a = held (item_ranges items.Down) ns refl r 0 refl in cc
item-capped (items.Address name) ns r = let a = named-capped name ns r in cc

behind-item-capped : (item : ItemForm) (ns : List ℕ)
    → behind_item item (map capped ns) ≡ map capped (behind_item item ns)
behind-item-capped item ns = drop-capped (length (item_ranges item)) ns

triple-capped : (c i m : ItemForm) (ns : List ℕ)
    → range_faults (item_ranges c ++ (item_ranges i ++ item_ranges m)) ns ≡ []
    → triple_of c i m (map capped ns) ≡ triple_of c i m ns
triple-capped c i m ns r =
    let a = ranges-apart (item_ranges c) (item_ranges i ++ item_ranges m) ns r in
    let b = ranges-apart (item_ranges i) (item_ranges m) (behind_item c ns) a.1 in
    let behind_c = behind-item-capped c ns in
    let one = item-capped c ns a.0 in
    let two : item_of i (behind_item c (map capped ns)) ≡ item_of i (behind_item c ns)
    = ap (item_of i) behind_c ∙ item-capped i (behind_item c ns) b.0 in
    let three : item_of m (behind_item i (behind_item c (map capped ns))) ≡ item_of m (behind_item i (behind_item c ns))
    = ap (λ x. item_of m (behind_item i x)) behind_c ∙ ap (item_of m) (behind-item-capped i (behind_item c ns))
    ∙ item-capped m (behind_item i (behind_item c ns)) b.1 in
    cc

value-capped : (form : ValueForm) (ns text : List ℕ) → range_faults (value_ranges form) ns ≡ []
    → value_of form (map capped ns) text ≡ value_of form ns text
value-capped values.Up ns text r = let a = held (value_ranges values.Up) ns refl r 0 refl in cc
value-capped values.Down ns text r = let a = held (value_ranges values.Down) ns refl r 0 refl in cc
value-capped values.Octal ns text r = refl
value-capped values.Characters ns text r = refl
value-capped (values.Triple c i m) ns text r = triple-capped c i m ns r

constant-capped : (stage : Stage) (form : ValueForm) (ns text : List ℕ)
    → range_faults (store_range ∷ value_ranges form) ns ≡ []
    → what_of stage (forms.Constant form) (map capped ns) text ≡ what_of stage (forms.Constant form) ns text
constant-capped stage form ns text r =
    let a = ranges-apart (store_range ∷ []) (value_ranges form) ns r in
    let n = held (store_range ∷ []) ns refl a.0 0 refl in
    let v : value_of form (drop 1 (map capped ns)) text ≡ value_of form (drop 1 ns) text
    = ap (λ x. value_of form x text) (drop-capped 1 ns) ∙ value-capped form (drop 1 ns) text a.1 in
    cc

-- ---- statements

form-small : (form : Form) → are_small (ranges_of form) ≡ true
form-small forms.Program = refl
form-small forms.ProgramStores = refl
form-small forms.Part = refl
form-small forms.PartStores = refl
form-small forms.Finish = refl
form-small forms.Star = refl
form-small forms.Reference = refl
form-small forms.Short = refl
form-small (forms.Plain order) = order-small order
form-small (forms.Constant value) = value-small value
form-small (forms.Go test target) = jump-small test target
form-small (forms.Access direction name suffix) = access-small name suffix
form-small (forms.SetAddress name) = name-small name

pub form-faults-capped : (form : Form) (ns : List ℕ)
    → range_faults (ranges_of form) (map capped ns) ≡ range_faults (ranges_of form) ns
form-faults-capped form ns = ranges-capped (ranges_of form) ns (form-small form)

pub what-capped : (stage : Stage) (form : Form) (ns text : List ℕ) → range_faults (ranges_of form) ns ≡ []
    → what_of stage form (map capped ns) text ≡ what_of stage form ns text
what-capped stage forms.Program ns text r = refl
what-capped stage forms.ProgramStores ns text r =
    let a = held (ranges_of forms.ProgramStores) ns refl r 0 refl in
    cc
what-capped stage forms.Part ns text r = let a = held (ranges_of forms.Part) ns refl r 0 refl in cc
what-capped stage forms.PartStores ns text r =
    let a = held (ranges_of forms.PartStores) ns refl r 0 refl in
    let b = held (ranges_of forms.PartStores) ns refl r 1 refl in
    cc
what-capped stage forms.Finish ns text r = refl
what-capped stage forms.Star ns text r = refl
what-capped stage forms.Reference ns text r =
    let a = held (ranges_of forms.Reference) ns refl r 0 refl in
    cc
what-capped stage forms.Short ns text r =
    let a = held (ranges_of forms.Short) ns refl r 0 refl in
    let b = held (ranges_of forms.Short) ns refl r 1 refl in
    cc
what-capped stage (forms.Plain order) ns text r = let a = order-capped order ns text r in cc
what-capped stage (forms.Constant value) ns text r = constant-capped stage value ns text r
what-capped stage (forms.Go test target) ns text r = go-capped test target ns r
what-capped stage (forms.Access direction name suffix) ns text r =
    store-capped stage direction name suffix ns r
what-capped stage (forms.SetAddress name) ns text r = let a = named-capped name ns r in cc
