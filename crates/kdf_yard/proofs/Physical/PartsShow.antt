-- What a part of the machine shows.
use Rattle.std.specs.Prelude.{Ok, Err, not}
use Rattle.std.proofs.Common.{◌≡◌, ℕ, ◌+◌, ◌<◌, Bool, true, false, List, get_or, ◌&&◌, ltb, Option, Some, None, is_some, cond, refl, sym, ap, ap₂, ◌∙◌, arith}
use Rattle.std.proofs.lemmas.Bool.{and_parts, lt-ltb, ltb-true, or_left, or_right}
use Rattle.std.proofs.lemmas.List.FromFn.{get_or-map-range_with_len}
use Rattle.kdf_journal.specs.declared.kind.Kind.{Kind}
use Rattle.kdf_transfer.specs.Devices.{Fixture, new_progress, is_kind, kind_in, is_wanted}
use Rattle.kdf_theory.specs.True.{one_if}
use Rattle.kdf_transfer.specs.ByNumber.{by_number, device_count}
use Rattle.kdf_job.specs.Slots.{lent_kind}
use Rattle.kdf_journal.specs.declared.kind.Kind.TheVariants.{Tr, Tp, Cr, Lp, Mt}
use Rattle.kdf_places.specs.Words as physical
use Rattle.kdf_processor.specs.State.{word_in, device_in, fixture_at, own_fixture_at, pooled_or}
use Rattle.kdf_processor.specs.Claims.{kind_at, claim, free_for, is_claimed, is_free}
use Rattle.kdf_processor.proofs.Fit.{found}
use Rattle.std.specs.List.{range_with_len}
use Rattle.kdf_places.specs.Spots.{spot_at, leases_of, spot_kind}
use Rattle.kdf_transfer.specs.declared.wanted.Wanted.{Wanted}
use Rattle.kdf_transfer.specs.declared.wanted.Wanted.TheVariants.{Kinded, Labelled}
use Rattle.kdf_yard.specs.Fields.Keeping.{IsActive, IsKept}
use Rattle.kdf_places.specs.Shared.{Shared}
use Rattle.kdf_yard.specs.Fields.Parts.{Part, fixture_owned, own_stock, own_fixture, own_progress, own_claims, has_device, pool_kind}
use Rattle.kdf_theory.specs.Loading.{owns}
use Rattle.kdf_yard.specs.Fields.Stints.{left_in, lends}
use Rattle.kdf_transfer.proofs.Numbers.{limit_is, number_at}

-- a word of the program
pub own_word : (q : Part) (n : ℕ) (s : Shared) (a : ℕ) → a < q.size → word_in (own_stock q n s) a ≡ physical.word_at_place s.cells (leases_of s.spots)
    (q.base + a)
own_word q n s a lt = get_or-map-range_with_len (λ x. physical.word_at_place s.cells (leases_of s.spots) (q.base + x)) 0 q.size a a 0 lt (omega arith)

pub ok_of : {E V : Type 0} (b : Bool) (e : E) (w v : V) → Ok w ≡ cond b (Err e) (Ok v) → (b ≡ false) × (w ≡ v)
ok_of true e w v is = cc
ok_of false e w v is = (refl, cc)

pub ok_is : {E V : Type 0} (b : Bool) (e : E) (w v : V) → b ≡ false → w ≡ v → Ok w ≡ cond b (Err e) (Ok v)
ok_is true e w v not same = cc
ok_is false e w v not same = ap Ok same

-- what a device of a number of its own is to the program
pub own_is : (q : Part) (s : Shared) (d : ℕ) → d < device_count → own_fixture_at (own_claims q s) d ≡ own_fixture q s.spots d
own_is q s d lt = number_at (own_fixture q s.spots) d None lt

pub none_kind : (k : Kind) → is_kind k None ≡ true → ⊥
none_kind Tr is = cc
none_kind Tp is = cc
none_kind Cr is = cc
none_kind Lp is = cc
none_kind Mt is = cc

claim_true : (b : Bool) (o : Option Kind) (k : Kind) → is_kind k (cond b o None) ≡ true → (b ≡ true) × (is_kind k o ≡ true)
claim_true true o k is = (refl, is)
claim_true false o k is = absurd (none_kind k is)

some_kind : (o : Option Fixture) (k : Kind) → is_kind k (kind_in o) ≡ true → is_some o ≡ true
some_kind None k is = absurd (none_kind k is)
some_kind (Some f) k is = refl

pub owned_some : (b : Bool) (f : Option Fixture) → is_some (cond b f None) ≡ true → b ≡ true
owned_some true f is = refl
owned_some false f is = cc

-- where there is a device of a number to the program, it is the one in the place
pub fixture_there : (q : Part) (s : Shared) (d : ℕ) → IsKept q s → d < device_count → is_some (fixture_at (own_claims q s) d) ≡ true
    → fixture_at (own_claims q s) d ≡ (spot_at s.spots d).fixture
fixture_there q s d kept lt some = by_pool (pool_kind q d) refl
  where
    by_pool : (o : Option Kind) → pool_kind q d ≡ o → fixture_at (own_claims q s) d ≡ (spot_at s.spots d).fixture
    by_pool (Some k) is = ap (λ o. pooled_or o (own_fixture_at (own_claims q s) d)) is ∙ sym (kept.there d k is)
    by_pool None is =
        let at : fixture_at (own_claims q s) d ≡ own_fixture q s.spots d = ap (λ o. pooled_or o (own_fixture_at (own_claims q s) d)) is ∙ own_is q s d lt in
        at ∙ ap (λ b. cond b (spot_at s.spots d).fixture None) (owned_some (owns q.devices d) (spot_at s.spots d).fixture (ap is_some (sym at) ∙ some))

-- and it is the program's where it is claimed
marked_has : (q : Part) (s : Shared) (d : ℕ) → IsActive q → d < device_count → is_some (fixture_at (own_claims q s) d) ≡ true → get_or q.claimed d false ≡ true
    → has_device q d ≡ true
marked_has q s d active lt some marked = by_pool (pool_kind q d) refl
  where
    by_pool : (o : Option Kind) → pool_kind q d ≡ o → has_device q d ≡ true
    by_pool (Some k) is = or_right (owns q.devices d) (lends q.stints d) (sym (active.marks d (ap is_some is)) ∙ marked)
    by_pool None is =
        let at : fixture_at (own_claims q s) d ≡ own_fixture q s.spots d = ap (λ o. pooled_or o (own_fixture_at (own_claims q s) d)) is ∙ own_is q s d lt in
        or_left (owns q.devices d) (lends q.stints d) (owned_some (owns q.devices d) (spot_at s.spots d).fixture (ap is_some (sym at) ∙ some))

-- a device that is claimed, of some kind, is one of the program's
pub claim_small : (q : Part) (s : Shared) (d : ℕ) (k : Kind) → is_kind k (claim (own_claims q s) d) ≡ true → d < device_count
claim_small q s d k is =
    let lt : d < 16 = ltb-true d 16 (and_parts _ _ (claim_true (ltb d 16 && get_or q.claimed d false) (kind_at (own_claims q s) d) k is).0).0 in
    omega (arith, limit_is)

claim_marked : (q : Part) (s : Shared) (d : ℕ) (k : Kind) → is_kind k (claim (own_claims q s) d) ≡ true → get_or q.claimed d false ≡ true
claim_marked q s d k is = (and_parts _ _ (claim_true (ltb d 16 && get_or q.claimed d false) (kind_at (own_claims q s) d) k is).0).1

claim_kind : (q : Part) (s : Shared) (d : ℕ) (k : Kind) → is_kind k (claim (own_claims q s) d) ≡ true → is_kind k (kind_at (own_claims q s) d) ≡ true
claim_kind q s d k is = (claim_true (ltb d 16 && get_or q.claimed d false) (kind_at (own_claims q s) d) k is).1

-- what it is stands in its place
pub claim_fixture : (q : Part) (s : Shared) (d : ℕ) (k : Kind) → IsKept q s → is_kind k (claim (own_claims q s) d) ≡ true
    → (is_some (fixture_at (own_claims q s) d) ≡ true) × (fixture_at (own_claims q s) d ≡ (spot_at s.spots d).fixture)
claim_fixture q s d k kept is =
    let some = some_kind (fixture_at (own_claims q s) d) k (claim_kind q s d k is) in
    (some, fixture_there q s d kept (claim_small q s d k is) some)

pub claim_has : (q : Part) (s : Shared) (d : ℕ) (k : Kind) → IsKept q s → IsActive q → is_kind k (claim (own_claims q s) d) ≡ true → has_device q d ≡ true
claim_has q s d k kept active is =
    marked_has q s d active (claim_small q s d k is) (claim_fixture q s d k kept is).0 (claim_marked q s d k is)

-- and of that kind
pub claim_spot : (q : Part) (s : Shared) (d : ℕ) (k : Kind) → IsKept q s → is_kind k (claim (own_claims q s) d) ≡ true
    → is_kind k (spot_kind (spot_at s.spots d)) ≡ true
claim_spot q s d k kept is =
    ap (λ f. is_kind k (kind_in f)) (sym (claim_fixture q s d k kept is).1) ∙ claim_kind q s d k is

some_claim : (b : Bool) (o : Option Kind) → is_some (cond b o None) ≡ true → (b ≡ true) × (is_some o ≡ true)
some_claim true o is = (refl, is)
some_claim false o is = cc

some_fixture : (o : Option Fixture) → is_some (kind_in o) ≡ true → is_some o ≡ true
some_fixture None is = cc
some_fixture (Some f) is = refl

-- a device that is claimed is one of the program's
pub claimed_small : (q : Part) (s : Shared) (d : ℕ) → is_claimed (own_claims q s) d ≡ true → d < device_count
claimed_small q s d is =
    let lt : d < 16 = ltb-true d 16 (and_parts _ _ (some_claim (ltb d 16 && get_or q.claimed d false) (kind_at (own_claims q s) d) is).0).0 in
    omega (arith, limit_is)

pub claimed_has : (q : Part) (s : Shared) (d : ℕ) → IsActive q → is_claimed (own_claims q s) d ≡ true → has_device q d ≡ true
claimed_has q s d active is =
    let parts = some_claim (ltb d 16 && get_or q.claimed d false) (kind_at (own_claims q s) d) is in
    marked_has q s d active (claimed_small q s d is) (some_fixture (fixture_at (own_claims q s) d) parts.1) (and_parts _ _ parts.0).1

by_claim : (b : Bool) (x y : Option Kind) → (b ≡ true → x ≡ y) → cond b x None ≡ cond b y None
by_claim true x y same = same refl
by_claim false x y same = refl

-- what is claimed, by the places
pub claim_is : (q : Part) (s : Shared) (d : ℕ) → claim (own_claims q s) d ≡ cond (ltb d 16 && get_or q.claimed d false)
    (kind_in (pooled_or (pool_kind q d) (fixture_owned q.devices s.spots d))) None
claim_is q s d =
    by_claim (ltb d 16 && get_or q.claimed d false) (kind_at (own_claims q s) d) (kind_in (pooled_or (pool_kind q d) (fixture_owned q.devices s.spots d)))
    (λ is. let lt : d < 16 = ltb-true d 16 (and_parts _ _ is).0 in ap (λ f. kind_in (pooled_or (pool_kind q d) f)) (own_is q s d (omega (arith, limit_is))))

-- and where the pool is that of a slot
pub claim_lent : (q : Part) (s : Shared) (pool : List (ℕ × Kind)) (d : ℕ) → q.pool ≡ by_number (lent_kind pool)
    → claim (own_claims q s) d ≡ cond (ltb d 16 && get_or q.claimed d false) (kind_in (pooled_or (lent_kind pool d) (fixture_owned q.devices s.spots d))) None
claim_lent q s pool d is =
    claim_is q s d
    ∙ by_claim (ltb d 16 && get_or q.claimed d false) (kind_in (pooled_or (pool_kind q d) (fixture_owned q.devices s.spots d)))
    (kind_in (pooled_or (lent_kind pool d) (fixture_owned q.devices s.spots d)))
    (λ h. let lt : d < 16 = ltb-true d 16 (and_parts _ _ h).0 in ap (λ o. kind_in (pooled_or o (fixture_owned q.devices s.spots d)))
    (ap (λ ps. get_or ps d None) is ∙ number_at (lent_kind pool) d None (omega (arith, limit_is))))

-- a device that is wanted and isn't claimed
pub free_is : (w : Wanted) (f : Option Fixture) (has claimed : Bool)
    → (has && (not claimed && is_wanted w f)) ≡ (is_wanted w (cond has f None) && not (is_some (cond claimed (kind_in (cond has f None)) None)))
free_is (Kinded Tr) f false claimed = refl
free_is (Kinded Tp) f false claimed = refl
free_is (Kinded Cr) f false claimed = refl
free_is (Kinded Lp) f false claimed = refl
free_is (Kinded Mt) f false claimed = refl
free_is (Labelled label) f false claimed = refl
free_is w f true false = and_true (is_wanted w f)
  where
    and_true : (b : Bool) → b ≡ (b && true)
    and_true true = refl
    and_true false = refl
free_is w None true true = none_wanted w
  where
    none_wanted : (w : Wanted) → false ≡ (is_wanted w None && true)
    none_wanted (Kinded Tr) = refl
    none_wanted (Kinded Tp) = refl
    none_wanted (Kinded Cr) = refl
    none_wanted (Kinded Lp) = refl
    none_wanted (Kinded Mt) = refl
    none_wanted (Labelled label) = refl
free_is w (Some f) true true = and_false (is_wanted w (Some f))
  where
    and_false : (b : Bool) → false ≡ (b && false)
    and_false true = refl
    and_false false = refl

-- a device that the slot owns is none of the pool's
not_pooled : (q : Part) (s : Shared) (d : ℕ) → IsKept q s → owns q.devices d ≡ true → pool_kind q d ≡ None
not_pooled q s d kept has = none_some (pool_kind q d) (kept.apart d has)
  where
    none_some : (o : Option Kind) → is_some o ≡ false → o ≡ None
    none_some None is = refl
    none_some (Some k) is = cc

pub free_shown : (q : Part) (s : Shared) (d : ℕ) (w : Wanted) → IsKept q s → d < 16
    → (owns q.devices d && (not (get_or q.claimed d false) && is_wanted w (spot_at s.spots d).fixture))
    ≡ (is_wanted w (own_fixture_at (own_claims q s) d) && not (is_claimed (own_claims q s) d))
free_shown q s d w kept lt =
    free_is w (spot_at s.spots d).fixture (owns q.devices d) (get_or q.claimed d false)
    ∙ by_owned (owns q.devices d) refl
  where
    small : d < device_count
    small = omega (arith, limit_is)

    none_here : (w : Wanted) (x : Bool) → (is_wanted w None && x) ≡ false
    none_here (Kinded Tr) x = refl
    none_here (Kinded Tp) x = refl
    none_here (Kinded Cr) x = refl
    none_here (Kinded Lp) x = refl
    none_here (Kinded Mt) x = refl
    none_here (Labelled label) x = refl

    by_owned : (b : Bool) → owns q.devices d ≡ b
        → (is_wanted w (cond (owns q.devices d) (spot_at s.spots d).fixture None)
        && not (is_some (cond (get_or q.claimed d false) (kind_in (cond (owns q.devices d) (spot_at s.spots d).fixture None)) None)))
        ≡ (is_wanted w (own_fixture_at (own_claims q s) d) && not (is_claimed (own_claims q s) d))
    by_owned true has =
        ap₂ (λ f b. is_wanted w f && not (is_some (cond (b && get_or q.claimed d false) (kind_in f) None)))
        (sym (own_is q s d small)) (sym (lt-ltb d 16 lt))
        ∙ ap (λ o. is_wanted w (own_fixture_at (own_claims q s) d)
        && not (is_some (cond (ltb d 16 && get_or q.claimed d false) (kind_in (pooled_or o (own_fixture_at (own_claims q s) d))) None)))
        (sym (not_pooled q s d kept has))
    by_owned false not_own =
        ap (λ b. is_wanted w (cond b (spot_at s.spots d).fixture None)
        && not (is_some (cond (get_or q.claimed d false) (kind_in (cond b (spot_at s.spots d).fixture None)) None))) not_own
        ∙ none_here w (not (is_some (cond (get_or q.claimed d false) (kind_in None) None)))
        ∙ sym (none_here w (not (is_claimed (own_claims q s) d)))
        ∙ ap (λ f. is_wanted w f && not (is_claimed (own_claims q s) d)) (sym (own_is q s d small ∙ ap (λ b. cond b (spot_at s.spots d).fixture None) not_own))

-- what is found so is the slot's
pub free_owned : (q : Part) (s : Shared) (w : Wanted) (d : ℕ) → IsKept q s → d < 16 → free_for w (own_claims q s) ≡ Some d → owns q.devices d ≡ true
unfolding free_for
free_owned q s w d kept lt is =
    (and_parts _ _ (free_shown q s d w kept lt ∙ found (is_free w (own_claims q s)) (range_with_len 0 16) d is)).0

-- the progress of one of its devices
pub own_device : (q : Part) (n : ℕ) (s : Shared) (d : ℕ) → d < device_count → has_device q d ≡ true
    → device_in (own_stock q n s) d ≡ (spot_at s.spots d).progress
own_device q n s d lt has = number_at (own_progress q s.spots) d new_progress lt ∙ ap (λ b. cond b (spot_at s.spots d).progress (left_in q.stints d)) has

-- an answer of 1 or 0
one_is : (b : Bool) → b ≡ ltb 0 (one_if b)
one_is true = refl
one_is false = refl

pub one_more : (b x : Bool) → b ≡ x → b ≡ ltb 0 (one_if x)
one_more b x same = same ∙ one_is x
