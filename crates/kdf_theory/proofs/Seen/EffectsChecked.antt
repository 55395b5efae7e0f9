-- What the checks of an effect make sure of.
use Rattle.std.specs.Prelude.{find}
use Rattle.std.proofs.Common.{◌≡◌, ℕ, ◌+◌, ◌<◌, Bool, true, false, List, [], ◌∷◌, ◌++◌, Option, Some, None, is_some, cond, ltb, refl, sym, ap, ◌∙◌, ⊎_elim}
use Rattle.std.proofs.lemmas.Bool.{cases_Bool, and_parts, leb-true, ltb-true}
use Rattle.kdf_transfer.specs.AtOnce.{kind_of, has_area, IsArea}
use Rattle.kdf_syllable.specs.declared.order.Order.{Order}
use Rattle.kdf_qstore.specs.Triples.{triple_at}
use Rattle.kdf_journal.specs.declared.failure.Failure.TheVariants.{Claim}
use Rattle.kdf_journal.specs.declared.kind.Kind.TheVariants.{Mt}
use Rattle.kdf_processor.specs.declared.registers.Registers.{Registers}
use Rattle.kdf_journal.specs.declared.need.Need.{Need}
use Rattle.kdf_transfer.specs.declared.test.Test.TheVariants.{Flag, Start, Mark}
use Rattle.kdf_transfer.specs.Devices.{is_kind}
use Rattle.kdf_processor.specs.Claims.{claim, is_claimed, may_take}
use Rattle.kdf_processor.specs.State.{Claims, is_pooled, own_fixture_at}
use Rattle.kdf_processor.specs.Effect.{Change, Refused, Going, of_change, Effect, Failing, Ending, Changing, Fetching, Keeping, Testing, Starting, Asking}
use Rattle.kdf_processor.specs.Effect.{IsBusy, IsOut, Time, Claiming, Returning, Spooling, FreeOf, OfService}
use Rattle.kdf_processor.specs.Needs.{order_at, effect_or_liv, effect_at}
use Rattle.kdf_processor.specs.Table.{is_area, guarded, effect, out_effect, transfer_of}
use Rattle.kdf_processor.specs.View.{View, first_pending, is_pending}
use Rattle.kdf_processor.proofs.EachEffect.{each_effect}
use Rattle.kdf_processor.proofs.Fit.{IsFit, top_fit, out_fit, indirect_fit, direct_fit, starts_fit, query_fit}

-- its address is in the store; its device is claimed and of the order's kind, and its area is in the store; a device of
-- the kind may be taken; the device is the slot's own; it is claimed, and is given back to the pool where it is of the
-- pool
abbrev pub IsLawful : Claims → Effect → Type 0
IsLawful c (Keeping a w after) = a < c.size
IsLawful c (Starting d o first last after) =
    (is_kind (kind_of o) (claim c d) ≡ true) × (has_area o ≡ true → IsArea first last c.size)
IsLawful c (Asking (FreeOf kind) after) = may_take c kind ≡ true
IsLawful c (Claiming d after) = is_some (own_fixture_at c d) ≡ true
IsLawful c (Returning pooled d after) = (pooled ≡ is_pooled c d) × (is_claimed c d ≡ true)
IsLawful c e = Unit {0}

by_test : (c : Claims) (b : Bool) (x y : Effect) → (b ≡ true → IsLawful c x) → (b ≡ false → IsLawful c y) → IsLawful c (cond b x y)
by_test c true x y f g = f refl
by_test c false x y f g = g refl

area_parts : (size first last : ℕ) → is_area size first last ≡ true → IsArea first last size
area_parts size first last is =
    let a = and_parts _ _ is in
    let b = and_parts _ _ a.1 in
    record { rising = leb-true first last a.0; few = leb-true last (first + 4095) b.1; inside = ltb-true last size b.0 }

pub guarded_lawful : (c : Claims) (e : Effect) → IsFit c e → IsLawful c (guarded c e)
unfolding guarded
guarded_lawful c (Failing kind) fit = tt
guarded_lawful c (Ending after) fit = tt
guarded_lawful c (Changing after) fit = tt
guarded_lawful c (Fetching a after) fit = by_test c (ltb a c.size) (Fetching a after) _ (λ is. tt) (λ not. tt)
guarded_lawful c (Keeping a w after) fit = by_test c (ltb a c.size) (Keeping a w after) _ (λ is. ltb-true a c.size is) (λ not. tt)
guarded_lawful c (Testing d Flag after) fit = by_test c (is_claimed c d) (Testing d Flag after) _ (λ is. tt) (λ not. tt)
guarded_lawful c (Testing d Start after) fit = by_test c (is_kind Mt (claim c d)) (Testing d Start after) (Failing Claim) (λ is. tt) (λ not. tt)
guarded_lawful c (Testing d Mark after) fit = by_test c (is_kind Mt (claim c d)) (Testing d Mark after) (Failing Claim) (λ is. tt) (λ not. tt)
guarded_lawful c (Starting d o first last after) fit =
    by_test c (is_kind (kind_of o) (claim c d)) _ _
    (λ kind. by_test c (has_area o) _ _
    (λ has. by_test c (is_area c.size first last) (Starting d o first last after) _ (λ area. (kind, λ _. area_parts c.size first last area)) (λ none. tt))
    (λ not. (kind, λ has. cc (sym has ∙ not))))
    (λ none. tt)
guarded_lawful c (Asking (IsBusy d) after) fit = by_test c (is_claimed c d) (Asking (IsBusy d) after) _ (λ is. tt) (λ not. tt)
guarded_lawful c (Asking (IsOut first last) after) fit = by_test c (is_area c.size first last) (Asking (IsOut first last) after) _ (λ is. tt) (λ not. tt)
guarded_lawful c (Asking Time after) fit = tt
guarded_lawful c (Asking (FreeOf kind) after) fit = fit
guarded_lawful c (Asking (OfService word) after) fit = tt
guarded_lawful c (Claiming d after) fit = fit
guarded_lawful c (Returning pooled d after) fit = by_test c (is_claimed c d) (Returning pooled d after) (Failing Claim) (λ is. (fit, is)) (λ not. tt)
guarded_lawful c (Spooling stream first last after) fit = by_test c (is_area c.size first last) (Spooling stream first last after) _ (λ is. tt) (λ not. tt)

change_lawful : (c : Claims) (x : Change) → IsLawful c (of_change x)
change_lawful c (Refused kind) = tt
change_lawful c (Going after) = tt

effect_lawful : (c : Claims) (r : Registers) (o : Order) → IsLawful c (effect c r o)
effect_lawful c r =
    each_effect c r (IsFit c) (IsLawful c) (guarded_lawful c) (change_lawful c) (top_fit c r.nest (out_effect c r) (λ n below. out_fit c r n below))
    (indirect_fit c r) (direct_fit c r)
    (λ code q. starts_fit c r (triple_at r.q q) (transfer_of code (triple_at r.q q).m)) (λ b q. query_fit c r b (triple_at r.q q))

or_liv_lawful : (c : Claims) (r : Registers) (o : Option Order) → IsLawful c (effect_or_liv c r o)
or_liv_lawful c r None = tt
or_liv_lawful c r (Some o) = effect_lawful c r o

pub next_lawful : (c : Claims) (word : ℕ → ℕ) (r : Registers) → IsLawful c (effect_at c word r)
next_lawful c word r = or_liv_lawful c r (order_at c.size word r.at)

-- none of the later needs is pending either
pub later_none : (v : View) (ns ms : List Need) → first_pending v (ns ++ ms) ≡ None → first_pending v ms ≡ None
later_none v [] ms none = none
later_none v (n ∷ ns) ms none =
    ⊎_elim
    (λ (is : is_pending v n ≡ true). cc (sym (ap (λ b. cond b (Some n) (find (is_pending v) (ns ++ ms))) is) ∙ none))
    (λ (not : is_pending v n ≡ false). later_none v ns ms (sym (ap (λ b. cond b (Some n) (find (is_pending v) (ns ++ ms))) not) ∙ none))
    (cases_Bool (is_pending v n))
