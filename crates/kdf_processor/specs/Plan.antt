-- What a plan stands for.
use Rattle.std.specs.Prelude.{◌≡◌, ◌≢◌, ℕ, ◌%◌, ◌^◌, ◌<◌, ◌≤◌, true, Option, Some, None, List, [], ◌∷◌, length}
use Rattle.kdf_syllable.specs.declared.order.Order.{Order}
use Rattle.kdf_syllable.specs.declared.order.Order.TheVariants as order
use Rattle.kdf_syllable.specs.Spelling.{IsOrder, IsQ}
use Rattle.kdf_processor.specs.declared.plan.Access.{Access}
use Rattle.kdf_processor.specs.declared.plan.Plan.{Plan}
use Rattle.kdf_processor.specs.declared.plan.Plan.TheVariants.{Fail, End, Fetch, Keep, Count, Begin, Examine, Await, AskBusy, AskArea, AskTime, AskService}
use Rattle.kdf_processor.specs.declared.plan.Plan.TheVariants.{ClaimLabel, ClaimKind, GiveBack, Spool}
use Rattle.kdf_processor.specs.declared.plan.Beginning.{Beginning}
use Rattle.kdf_processor.specs.declared.planning.Planned.{Planned}
use Rattle.kdf_processor.specs.declared.planning.Planned.TheVariants as way
use Rattle.kdf_processor.specs.declared.registers.Registers.{Registers}
use Rattle.kdf_transfer.specs.declared.test.Test.TheVariants.{Flag}
use Rattle.kdf_transfer.specs.AtOnce.{kind_of, has_area, IsArea}
use Rattle.kdf_processor.specs.State.{Claims, device_limit, is_pooled}
use Rattle.kdf_transfer.specs.Devices.{is_kind}
use Rattle.kdf_transfer.specs.declared.wanted.Wanted.TheVariants.{Kinded, Labelled}
use Rattle.kdf_processor.specs.Claims.{claim, is_claimed, free_for}
use Rattle.kdf_processor.specs.Effect.{Act, Nothing, Acquires, of_change}
use Rattle.kdf_processor.specs.Effect.{Effect, Failing, Ending, Changing, Fetching, Keeping, Testing, Starting, Asking, IsBusy, IsOut, Time, Returning}
use Rattle.kdf_processor.specs.Effect.{Spooling}
use Rattle.kdf_processor.specs.Needs.{effect_needs, effect_or_liv}
use Rattle.kdf_processor.specs.Outcome.{Outcome, done, held, try_effect}
use Rattle.kdf_processor.specs.View.{View, first_pending}
use Rattle.kdf_processor.specs.Table.{with_nest, part_of, with_part, counts_on, asks_service, effect, change_of, sets_tr, answered_in_tr, claims_found}
use Rattle.kdf_processor.specs.Table.{claims_or_takes}

-- the top of a nest
abbrev pub top : List ℕ → ℕ
top [] = 0
top (n1 ∷ below) = n1

-- the words below it
abbrev pub below_top : List ℕ → List ℕ
below_top [] = []
below_top (n1 ∷ below) = below

-- the words below the two on top
abbrev pub below_two : List ℕ → List ℕ
below_two nest = below_top (below_top nest)

-- the effect that it is a plan of
abbrev pub planned : Claims → Plan → Registers → Effect
planned c (Fail kind) r = Failing kind
planned c End r = Ending (with_nest 1 (below_top r.nest) r)
planned c (Fetch a) r =
    Fetching a.address (λ w. with_nest a.size (part_of a.half w ∷ r.nest) (counts_on a.u a.q r))
planned c (Keep a) r =
    Keeping a.address (with_part a.half (top r.nest))
    (with_nest a.size (below_top r.nest) (counts_on a.u a.q r))
planned c Count r = Changing (with_nest 1 (r.ran ∷ below_top r.nest) r)
planned c (Begin b) r = Starting b.device b.order b.first b.last (with_nest 2 r.nest r)
planned c (Examine d what) r = Testing d what (sets_tr r)
planned c (Await d) r = Testing d Flag (λ is. with_nest 2 r.nest r)
planned c (AskBusy d) r = Asking (IsBusy d) (answered_in_tr r)
planned c (AskArea first last) r = Asking (IsOut first last) (answered_in_tr r)
planned c AskTime r = Asking Time (λ t. with_nest 1 (t % 2 ^ 48 ∷ below_top r.nest) r)
planned c (AskService word) r = asks_service r (below_two r.nest) word
planned c (ClaimLabel label) r = claims_found r (below_two r.nest) (free_for (Labelled label) c)
planned c (ClaimKind kind) r = claims_or_takes c r (below_two r.nest) kind (free_for (Kinded kind) c)
planned c (GiveBack d) r = Returning (is_pooled c d) d (with_nest 1 (below_two r.nest) r)
planned c (Spool stream first last) r =
    Spooling stream first last (with_nest 1 (below_two r.nest) r)

abbrev pub IsHalf : Option ℕ → Type 0
IsHalf None = Unit {0}
IsHalf (Some half) = half < 2

-- its address is in the store, and its half and its Q-store are some
pub record IsAccess (c : Claims) (a : Access) : Type 0 where
  pub address : a.address < c.size
  pub half : IsHalf a.half
  pub q : IsQ a.q

-- its device is claimed and of its kind, and its area is in the store
pub record IsBeginning (c : Claims) (b : Beginning) : Type 0 where
  pub kind : is_kind (kind_of b.order) (claim c b.device) ≡ true
  pub device : b.device < device_limit
  pub area : has_area b.order ≡ true → IsArea b.first b.last c.size

-- what a plan names is claimed, and is in the store
abbrev pub IsSound : Claims → Plan → Type 0
IsSound c (Fetch a) = IsAccess c a
IsSound c (Keep a) = IsAccess c a
IsSound c (Begin b) = IsBeginning c b
IsSound c (Examine d what) = is_claimed c d ≡ true
IsSound c (Await d) = is_claimed c d ≡ true
IsSound c (AskBusy d) = is_claimed c d ≡ true
IsSound c (AskArea first last) = IsArea first last c.size
IsSound c (AskService word) = c.served ≡ true
IsSound c (GiveBack d) = is_claimed c d ≡ true
IsSound c (Spool stream first last) = (stream ≤ 7) × IsArea first last c.size
IsSound c _ = Unit {0}

-- it is settled whether the order fails
abbrev pub IsSettled : Plan → Type 0
IsSettled (ClaimLabel label) = ⊥
IsSettled (ClaimKind kind) = ⊥
IsSettled _ = Unit {0}

-- the acting call of a claim
abbrev pub claim_act : Option ℕ → Act
claim_act None = Nothing
claim_act (Some d) = Acquires d

-- the nest has its operands, or room for its result
abbrev pub HasOperands : List ℕ → Plan → Type 0
HasOperands nest End = 0 < length nest
HasOperands nest (Fetch a) = length nest < 16
HasOperands nest (Keep a) = 0 < length nest
HasOperands nest Count = 0 < length nest
HasOperands nest AskTime = 0 < length nest
HasOperands nest (AskService word) = 1 < length nest
HasOperands nest (ClaimLabel label) = 1 < length nest
HasOperands nest (ClaimKind kind) = 1 < length nest
HasOperands nest (GiveBack d) = 1 < length nest
HasOperands nest (Spool stream first last) = 1 < length nest
HasOperands nest _ = Unit {0}

-- a plan of this effect, for these registers
pub record IsPlanOf (c : Claims) (r : Registers) (e : Effect) (plan : Plan) : Type 0 where
  pub effect : e ≡ planned c plan r
  pub sound : IsSound c plan
  pub operands : HasOperands r.nest plan

-- what comes of it where none of its needs is pending
abbrev pub done_plan : View → Registers → Plan → Outcome
done_plan v r plan = done v r (planned v.claims plan r)

-- what comes of it where one may be
abbrev pub try_plan : View → Registers → Plan → Outcome
try_plan v r plan = try_effect v r (planned v.claims plan r)

-- what comes of an order that was fetched
abbrev pub try_order : View → Registers → Order → Outcome
try_order v r o = try_effect v r (effect v.claims r o)

-- of one that was decoded, or of none
abbrev pub try_decoded : View → Registers → Option Order → Outcome
try_decoded v r o = try_effect v r (effect_or_liv v.claims r o)

-- the try of an order that changes registers alone
abbrev pub try_change : View → Registers → Order → Outcome
try_change v r o = try_effect v r (of_change (change_of r o))

-- an order that changes registers alone
abbrev pub IsChange : Order → Type 0
IsChange (order.Plain code) = code ≢ 0x21
IsChange (order.Indirect code k q) = ⊥
IsChange (order.Direct t u q a) = ⊥
IsChange (order.Device code q) = ⊥
IsChange (order.Query b q) = ⊥
IsChange _ = Unit {0}

-- what comes of an order that is planned so
abbrev pub planned_outcome : View → Registers → Planned → Outcome
planned_outcome v r (way.Held need) = held r need
planned_outcome v r (way.Change o) = try_change v r o
planned_outcome v r (way.Label label) = try_plan v r (ClaimLabel label)
planned_outcome v r (way.Kind kind) = try_plan v r (ClaimKind kind)
planned_outcome v r (way.Act plan) = done_plan v r plan

-- a plan can be carried out: what it names is there, it is settled, and none of its needs is pending
pub record IsReady (v : View) (r : Registers) (plan : Plan) : Type 0 where
  pub sound : IsSound v.claims plan
  pub settled : IsSettled plan
  pub operands : HasOperands r.nest plan
  pub free : first_pending v (effect_needs v.mine (planned v.claims plan r)) ≡ None

-- an order can be obeyed as it is planned
abbrev pub CanObey : View → Registers → Planned → Type 0
CanObey v r (way.Held need) = Unit {0}
CanObey v r (way.Change o) = IsOrder o × IsChange o
CanObey v r (way.Label label) = HasOperands r.nest (ClaimLabel label)
CanObey v r (way.Kind kind) = HasOperands r.nest (ClaimKind kind)
CanObey v r (way.Act plan) = IsReady v r plan
