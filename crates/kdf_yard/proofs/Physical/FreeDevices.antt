-- The devices of the pool that aren't taken.
use Rattle.std.specs.Prelude.{find, not, unwrap_or}
use Rattle.std.specs.List.{range_with_len}
use Rattle.std.proofs.Common.{◌≡◌, ℕ, ◌<◌, ◌&&◌, ltb, Bool, true, false, List, get_or, Option, Some, None, is_some, is_none, cond, refl, sym, ap, ap₂, ◌∙◌}
use Rattle.std.proofs.Common.{arith}
use Rattle.std.proofs.lemmas.Bool.{and_from, and_parts, lt-ltb, or_parts}
use Rattle.kdf_journal.specs.declared.kind.Kind.{Kind}
use Rattle.kdf_journal.specs.declared.kind.Kind.TheVariants as kind
use Rattle.kdf_transfer.specs.ByNumber.{by_number}
use Rattle.kdf_transfer.specs.Devices.{Fixture, DeviceProgress, blank_fixture, is_kind, kind_in}
use Rattle.kdf_transfer.proofs.Numbers.{limit_is, number_at}
use Rattle.kdf_transfer.proofs.OfKind.{exact}
use Rattle.kdf_job.specs.Slots.{lent_kind}
use Rattle.kdf_processor.specs.Claims.{can_take, is_claimed, least_pooled}
use Rattle.kdf_processor.specs.State.{own_fixture_at, pooled_or}
use Rattle.kdf_processor.proofs.Fit.{found}
use Rattle.kdf_yard.specs.Fields.Keeping.{IsKept}
use Rattle.kdf_yard.specs.Fields.Parts.{Part, back_from, in_pool, lent_to, own_claims, pool_kind}
use Rattle.kdf_places.specs.Shared.{Shared}
use Rattle.kdf_yard.specs.Fields.Shared.{free_in, is_free_in, is_taken_by}
use Rattle.kdf_places.specs.Spots.{Spot, blank_spot, can_leave, fixture_or, left_spot, spot_at}
use Rattle.kdf_yard.specs.Fields.Stints.{Back}

pub not_taken : (b : Bool) → b ≡ not (not b)
not_taken true = refl
not_taken false = refl

pub none_is : (b : Bool) (o o' : Option ℕ) → is_some o ≡ not b → o ≡ o' → b ≡ not (is_some o')
none_is b o o' is same = not_taken b ∙ ap not (sym is) ∙ ap (λ x. not (is_some x)) same

-- one is free, by the pool of a slot
pub free_by : (pool : List (ℕ × Kind)) (taken : ℕ → Bool) (kind : Kind) (d : ℕ) → d < 16 → (is_kind kind (lent_kind pool d) && not (taken d)) ≡ is_free_in
    (by_number (lent_kind pool)) taken kind d
free_by pool taken kind d lt =
    ap (λ o. is_kind kind o && not (taken d)) (sym (number_at (lent_kind pool) d None (omega (arith, limit_is))))

-- the least one
pub least_free : (pool : List (Option Kind)) (taken : ℕ → Bool) (kind : Kind) → find (is_free_in pool taken kind) (range_with_len 0 16)
    ≡ free_in pool taken kind
unfolding free_in
least_free pool taken kind = ap (λ n. find (is_free_in pool taken kind) (range_with_len 0 n)) (sym limit_is)

-- the one that is free is of the kind, and isn't taken
not_so : (b : Bool) → not b ≡ true → b ≡ false
not_so true is = cc
not_so false is = refl

pub free_one : (pool : List (Option Kind)) (taken : ℕ → Bool) (kind : Kind) (d : ℕ) → free_in pool taken kind ≡ Some d → (get_or pool d None ≡ Some kind)
    × (taken d ≡ false)
free_one pool taken kind d is =
    let parts = and_parts _ _ (found (is_free_in pool taken kind) (range_with_len 0 16) d (least_free pool taken kind ∙ is)) in
    (exact kind (get_or pool d None) parts.0, not_so (taken d) parts.1)

-- a device without a transfer can leave its place
pub leave_is : (x : Spot) (f : Fixture) → x.fixture ≡ Some f → x.flight ≡ None → can_leave x ≡ true
leave_is x f some idle = and_from (is_some x.fixture) (is_none x.flight) (ap is_some some) (ap is_none idle)

-- a device of the pool that has no mark
and_same : (a x y : Bool) → (a ≡ true → x ≡ y) → (a && x) ≡ (a && y)
and_same true x y same = same refl
and_same false x y same = refl

claimed_is : (m b : Bool) (o : Option Kind) (own : Option Fixture) (kind : Kind) → b ≡ true → o ≡ Some kind
    → m ≡ is_some (cond (b && m) (kind_in (pooled_or o own)) None)
claimed_is true b o own kind is some = sym (ap (λ x. is_some (cond (x && true) (kind_in (pooled_or o own)) None)) is
    ∙ ap (λ x. is_some (kind_in (pooled_or x own))) some)
claimed_is false true o own kind is some = refl
claimed_is false false o own kind is some = cc

pub take_is : (q : Part) (s : Shared) (kind : Kind) (d : ℕ) → d < 16 → (is_kind kind (pool_kind q d) && not (get_or q.claimed d false))
    ≡ can_take (own_claims q s) kind d
take_is q s kind d lt =
    and_same (is_kind kind (pool_kind q d)) (not (get_or q.claimed d false)) (not (is_claimed (own_claims q s) d))
    (λ is. ap not (claimed_is (get_or q.claimed d false) (ltb d 16) (pool_kind q d) (own_fixture_at (own_claims q s) d) kind (lt-ltb d 16 lt)
    (exact kind (pool_kind q d) is)))

pub take_by : (q : Part) (s : Shared) (pool : List (ℕ × Kind)) (kind : Kind) (d : ℕ) → q.pool ≡ by_number (lent_kind pool) → d < 16
    → (is_kind kind (lent_kind pool d) && not (get_or q.claimed d false)) ≡ can_take (own_claims q s) kind d
take_by q s pool kind d is lt =
    ap (λ o. is_kind kind o && not (get_or q.claimed d false))
    (sym (ap (λ ps. get_or ps d None) is ∙ number_at (lent_kind pool) d None (omega (arith, limit_is))))
    ∙ take_is q s kind d lt

is_it : (kind : Kind) → is_kind kind (Some kind) ≡ true
is_it kind.Tr = refl
is_it kind.Tp = refl
is_it kind.Cr = refl
is_it kind.Lp = refl
is_it kind.Mt = refl

-- a program can take one that it finds free
pub can_take_free : (q : Part) (s : Shared) (held : ℕ → Option ℕ) (kind : Kind) (d : ℕ) → d < 16 → free_in q.pool (is_taken_by q.claimed held) kind ≡ Some d
    → can_take (own_claims q s) kind d ≡ true
can_take_free q s held kind d lt is =
    let one = free_one q.pool (is_taken_by q.claimed held) kind d is in
    sym (take_is q s kind d lt)
    ∙ and_from (is_kind kind (pool_kind q d)) (not (get_or q.claimed d false)) (ap (is_kind kind) one.0 ∙ is_it kind)
    (ap not (or_parts (get_or q.claimed d false) (is_some (held d)) one.1).0)

-- so that is the one that it takes
pub lent_is : (q : Part) (s : Shared) (held : ℕ → Option ℕ) (kind : Kind) (d : ℕ) → d < 16 → free_in q.pool (is_taken_by q.claimed held) kind ≡ Some d
    → lent_to q s kind (unwrap_or (free_in q.pool (is_taken_by q.claimed held) kind) 0) ≡ d
lent_is q s held kind d lt is =
    ap (λ o. lent_to q s kind (unwrap_or o 0)) is
    ∙ ap (λ b. cond b d (unwrap_or (least_pooled (own_claims q s) kind) 0)) (can_take_free q s held kind d lt is)

-- ---- a device that goes back

pub not_busy : {X : Type 0} (o : Option X) → is_some o ≡ false → o ≡ None
not_busy None is = refl
not_busy (Some x) is = cc

pub back_is : (x : Spot) (f : Fixture) (p : DeviceProgress) → can_leave x ≡ true → Some f ≡ cond (can_leave x) x.fixture None → p ≡ x.progress
    → Back f p ≡ back_from x
back_is x f p leaves is same =
    ap₂ Back (ap fixture_or (is ∙ ap (λ b. cond b x.fixture None) leaves)) same

pub left_is : (x : Spot) → can_leave x ≡ true → left_spot x ≡ blank_spot x
left_is x leaves = ap (λ b. cond b (blank_spot x) x) leaves

-- one of the pool without a transfer can leave its place
pub leaves_there : (q : Part) (s : Shared) (d : ℕ) → IsKept q s → in_pool q d ≡ true → (spot_at s.spots d).flight ≡ None → can_leave (spot_at s.spots d) ≡ true
leaves_there q s d kept pooled idle = of_kind (pool_kind q d) refl
  where
    of_kind : (o : Option Kind) → pool_kind q d ≡ o → can_leave (spot_at s.spots d) ≡ true
    of_kind None is = cc (sym (ap is_some is) ∙ pooled)
    of_kind (Some k) is = leave_is (spot_at s.spots d) (blank_fixture k) (kept.there d k is) idle
