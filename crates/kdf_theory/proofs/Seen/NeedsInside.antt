-- What the next order of a program needs lies in its store.
use Rattle.std.specs.Prelude.{find, is_some}
use Rattle.std.specs.List.{list_any, range_with_len}
use Rattle.std.proofs.Common.{◌≡◌, ℕ, zero, suc, ◌+◌, ◌-◌, ◌*◌, ◌/◌, ◌<◌, Bool, true, false, ◌||◌, List, [], ◌∷◌, ◌++◌, map, Option, Some, None, cond, ltb}
use Rattle.std.proofs.Common.{refl, sym, ap, ◌∙◌, arith}
use Rattle.std.proofs.lemmas.Bool.{and_parts, leb-true, ltb-true}
use Rattle.kdf_transfer.specs.AtOnce.{kind_of, has_area, IsArea}
use Rattle.kdf_syllable.specs.declared.order.Order.{Order}
use Rattle.kdf_journal.specs.declared.failure.Failure.TheVariants.{Claim}
use Rattle.kdf_journal.specs.declared.kind.Kind.TheVariants.{Mt}
use Rattle.kdf_processor.specs.declared.registers.Registers.{Registers}
use Rattle.kdf_journal.specs.declared.need.Need.{Need}
use Rattle.kdf_journal.specs.declared.need.Need.TheVariants.{Group, Device, Pool}
use Rattle.kdf_transfer.specs.declared.test.Test.TheVariants.{Flag, Start, Mark}
use Rattle.kdf_transfer.specs.Devices.{is_kind}
use Rattle.kdf_processor.specs.Claims.{claim, is_claimed}
use Rattle.kdf_processor.specs.State.{Claims, State, word_at}
use Rattle.kdf_processor.specs.Effect.{Change, Refused, Going, of_change, Effect, Failing, Ending, Changing, Fetching, Keeping, Testing, Starting, Asking}
use Rattle.kdf_processor.specs.Effect.{IsBusy, IsOut, Time, FreeOf, OfService, Claiming, Returning, Spooling}
use Rattle.kdf_processor.specs.Needs.{count_at, effect_needs, effect_or_liv, fetch_needs, needs, next_effect, order_at, syllable_needs}
use Rattle.kdf_processor.specs.Table.{is_area, guarded, effect, syllable_after}
use Rattle.kdf_processor.specs.View.{groups_of}
use Rattle.kdf_processor.proofs.EachEffect.{each_effect}

-- the addresses and the area of an effect are in the store
abbrev pub IsInside : ℕ → Effect → Type 0
IsInside size (Fetching a after) = a < size
IsInside size (Keeping a w after) = a < size
IsInside size (Starting d o first last after) = has_area o ≡ true → IsArea first last size
IsInside size (Asking (IsOut first last) after) = IsArea first last size
IsInside size (Spooling stream first last after) = IsArea first last size
IsInside size e = Unit {0}

by_test : (size : ℕ) (b : Bool) (x y : Effect) → (b ≡ true → IsInside size x) → (b ≡ false → IsInside size y) → IsInside size (cond b x y)
by_test size true x y f g = f refl
by_test size false x y f g = g refl

area_parts : (size first last : ℕ) → is_area size first last ≡ true → IsArea first last size
area_parts size first last is =
    let a = and_parts _ _ is in
    let b = and_parts _ _ a.1 in
    record { rising = leb-true first last a.0; few = leb-true last (first + 4095) b.1; inside = ltb-true last size b.0 }

guarded_inside : (c : Claims) (e : Effect) → IsInside c.size (guarded c e)
unfolding guarded
guarded_inside c (Failing kind) = tt
guarded_inside c (Ending after) = tt
guarded_inside c (Changing after) = tt
guarded_inside c (Fetching a after) = by_test c.size (ltb a c.size) (Fetching a after) _ (λ is. ltb-true a c.size is) (λ not. tt)
guarded_inside c (Keeping a w after) = by_test c.size (ltb a c.size) (Keeping a w after) _ (λ is. ltb-true a c.size is) (λ not. tt)
guarded_inside c (Testing d Flag after) = by_test c.size (is_claimed c d) (Testing d Flag after) _ (λ is. tt) (λ not. tt)
guarded_inside c (Testing d Start after) = by_test c.size (is_kind Mt (claim c d)) (Testing d Start after) (Failing Claim) (λ is. tt) (λ not. tt)
guarded_inside c (Testing d Mark after) = by_test c.size (is_kind Mt (claim c d)) (Testing d Mark after) (Failing Claim) (λ is. tt) (λ not. tt)
guarded_inside c (Starting d o first last after) =
    by_test c.size (is_kind (kind_of o) (claim c d)) _ _
    (λ kind. by_test c.size (has_area o) _ _
    (λ has. by_test c.size (is_area c.size first last) (Starting d o first last after) _ (λ area. λ _. area_parts c.size first last area) (λ none. tt))
    (λ not. λ has. cc (sym has ∙ not)))
    (λ none. tt)
guarded_inside c (Asking (IsBusy d) after) = by_test c.size (is_claimed c d) (Asking (IsBusy d) after) _ (λ is. tt) (λ not. tt)
guarded_inside c (Asking (IsOut first last) after) = by_test c.size (is_area c.size first last) (Asking (IsOut first last) after) _
    (λ is. area_parts c.size first last is) (λ not. tt)
guarded_inside c (Asking Time after) = tt
guarded_inside c (Asking (FreeOf kind) after) = tt
guarded_inside c (Asking (OfService word) after) = tt
guarded_inside c (Claiming d after) = tt
guarded_inside c (Returning pooled d after) = by_test c.size (is_claimed c d) (Returning pooled d after) _ (λ is. tt) (λ not. tt)
guarded_inside c (Spooling stream first last after) = by_test c.size (is_area c.size first last) (Spooling stream first last after) _
    (λ is. area_parts c.size first last is) (λ not. tt)

change_inside : (size : ℕ) (x : Change) → IsInside size (of_change x)
change_inside size (Refused kind) = tt
change_inside size (Going after) = tt

effect_inside : (c : Claims) (r : Registers) (o : Order) → IsInside c.size (effect c r o)
effect_inside c r = each_effect c r (λ _. Unit {0}) (IsInside c.size) (λ e _. guarded_inside c e) (change_inside c.size) tt (λ code k q. tt) (λ t u q a. tt)
    (λ code q. tt) (λ b q. tt)

or_liv_inside : (c : Claims) (r : Registers) (o : Option Order) → IsInside c.size (effect_or_liv c r o)
or_liv_inside c r None = tt
or_liv_inside c r (Some o) = effect_inside c r o

-- so it is with the next order
pub next_inside : (s : State) → IsInside s.stock.claims.size (next_effect s)
next_inside s = or_liv_inside s.stock.claims s.registers (order_at s.stock.claims.size (word_at s) s.registers.at)

-- ---- needs

-- a group of the store
abbrev pub IsNear : ℕ → Need → Type 0
IsNear size (Group g) = 32 * g < size
IsNear size (Device d) = Unit {0}
IsNear size (Pool kind) = Unit {0}

abbrev pub AreNear : ℕ → List Need → Type 0
AreNear size [] = Unit {0}
AreNear size (n ∷ ns) = IsNear size n × AreNear size ns

near-append : (size : ℕ) (ns ms : List Need) → AreNear size ns → AreNear size ms → AreNear size (ns ++ ms)
near-append size [] ms a b = b
near-append size (n ∷ ns) ms a b = (a.0, near-append size ns ms a.1 b)

near_place : (x size : ℕ) → x < size → 32 * (x / 32) < size
near_place x size lt = omega arith

near_test : (b : Bool) (x size : ℕ) (rest : List Need) → ltb x size ≡ b → AreNear size rest → AreNear size (cond b (Group (x / 32) ∷ rest) [])
near_test true x size rest is near = (near_place x size (ltb-true x size is), near)
near_test false x size rest not near = tt

near_syllables : (n size at : ℕ) → AreNear size (syllable_needs n size at)
near_syllables zero size at = tt
near_syllables (suc n) size at =
    near_test (ltb (at / 6) size) (at / 6) size (syllable_needs n size (syllable_after at 1)) refl (near_syllables n size (syllable_after at 1))

near_devices : (size : ℕ) (ds : List ℕ) → AreNear size (map Device ds)
near_devices size [] = tt
near_devices size (d ∷ ds) = (tt, near_devices size ds)

near_from : (size from n : ℕ) → (n ≡ 0 → ⊥) → 32 * (from + n - 1) < size → AreNear size (map Group (range_with_len from n))
near_from size from zero some lt = absurd (some refl)
near_from size from (suc zero) some lt = (omega arith, tt)
near_from size from (suc (suc n)) some lt = (omega arith, near_from size (from + 1) (suc n) (λ e. omega arith) (omega arith))

pub near_area : (size first last : ℕ) → IsArea first last size → AreNear size (map Group (groups_of first last))
near_area size first last area =
    let rising = area.rising in
    let inside = area.inside in
    near_from size (first / 32) (last / 32 + 1 - first / 32) (λ e. absurd (omega arith)) (omega arith)

near_order : (size : ℕ) (b : Bool) (first last : ℕ) → (b ≡ true → IsArea first last size) → AreNear size (map Group (cond b (groups_of first last) []))
near_order size true first last area = near_area size first last (area refl)
near_order size false first last area = tt

near_effect : (size : ℕ) (mine : List ℕ) (e : Effect) → IsInside size e → AreNear size (effect_needs mine e)
near_effect size mine (Failing kind) is = near_devices size mine
near_effect size mine (Ending after) is = near_devices size mine
near_effect size mine (Changing after) is = tt
near_effect size mine (Fetching a after) is = (near_place a size is, tt)
near_effect size mine (Keeping a w after) is = (near_place a size is, tt)
near_effect size mine (Testing d what after) is = (tt, tt)
near_effect size mine (Starting d o first last after) is = (tt, near_order size (has_area o) first last is)
near_effect size mine (Asking (FreeOf kind) after) is = (tt, tt)
near_effect size mine (Asking question after) is = tt
near_effect size mine (Claiming d after) is = tt
near_effect size mine (Returning pooled d after) is = (tt, tt)
near_effect size mine (Spooling stream first last after) is = near_area size first last is

-- the needs of the next order
pub needs_near : (s : State) (mine : List ℕ) → AreNear s.stock.claims.size (needs s mine)
needs_near s mine =
    near-append s.stock.claims.size (fetch_needs s.stock.claims.size (word_at s) s.registers.at) (effect_needs mine (next_effect s))
    (near_syllables (count_at s.stock.claims.size (word_at s) s.registers.at) s.stock.claims.size s.registers.at)
    (near_effect s.stock.claims.size mine (next_effect s) (next_inside s))

-- what is pending alike is found alike
pub find_near : (size : ℕ) (f g : Need → Bool) → ((n : Need) → IsNear size n → f n ≡ g n) → (ns : List Need) → AreNear size ns → find f ns ≡ find g ns
find_near size f g same [] near = refl
find_near size f g same (n ∷ ns) near =
    ap (λ b. cond b (Some n) (find f ns)) (same n near.0) ∙ ap (cond (g n) (Some n)) (find_near size f g same ns near.1)

-- and so are groups
pub any_near : (size : ℕ) (f g : ℕ → Bool) → ((x : ℕ) → 32 * x < size → f x ≡ g x) → (xs : List ℕ) → AreNear size (map Group xs)
    → is_some (find f xs) ≡ list_any g xs
any_near size f g same [] near = refl
any_near size f g same (x ∷ xs) near =
    ap (λ b. is_some (cond b (Some x) (find f xs))) (same x near.0) ∙ at_test (g x) ∙ ap (λ b. g x || b) (any_near size f g same xs near.1)
  where
    at_test : (b : Bool) → is_some (cond b (Some x) (find f xs)) ≡ (b || is_some (find f xs))
    at_test true = refl
    at_test false = refl
