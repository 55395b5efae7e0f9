-- What the checks of an order see to where it begins a transfer.
use Rattle.std.proofs.Common.{◌≡◌, ℕ, ◌+◌, ◌<◌, Bool, true, false, ltb, Option, Some, None, cond, refl, sym, ◌∙◌, get_or}
use Rattle.std.specs.Prelude.{◌&&◌}
use Rattle.std.proofs.lemmas.Bool.{cond_both, and_parts, ltb-true, leb-true, false≢true}
use Rattle.kdf_journal.specs.declared.kind.Kind.{Kind}
use Rattle.kdf_journal.specs.declared.kind.Kind.TheVariants as kind
use Rattle.kdf_syllable.specs.declared.order.Order.{Order}
use Rattle.kdf_transfer.specs.AtOnce.{IsArea, has_area, kind_of}
use Rattle.kdf_processor.specs.declared.registers.Registers.{Registers}
use Rattle.kdf_transfer.specs.declared.test.Test.TheVariants.{Flag, Start, Mark}
use Rattle.kdf_transfer.specs.Devices.{is_kind}
use Rattle.kdf_processor.specs.Claims.{claim, is_claimed, kind_at}
use Rattle.kdf_processor.specs.Effect.{Change, Refused, Going, of_change, Effect, Failing, Ending, Changing, Fetching, Keeping, Testing, Starting, Asking}
use Rattle.kdf_processor.specs.Effect.{Claiming, Returning, Spooling, IsBusy, IsOut, Time, FreeOf, OfService}
use Rattle.kdf_processor.specs.Needs.{effect_or_liv, order_at, next_effect}
use Rattle.kdf_processor.specs.State.{Claims, State, device_limit, word_at}
use Rattle.kdf_transfer.specs.ByNumber.{device_count}
use Rattle.kdf_processor.specs.Table.{effect, guarded, is_area}
use Rattle.kdf_processor.proofs.EachEffect.{each_effect}

-- its device is claimed and of its kind, and its area is one of the store
abbrev pub IsChecked : Claims → Effect → Type 0
IsChecked c (Starting d o first last after) = (is_kind (kind_of o) (claim c d) ≡ true) × (has_area o ≡ true → IsArea first last c.size)
IsChecked c e = Unit {0}

area_parts : (size first last : ℕ) → is_area size first last ≡ true → IsArea first last size
area_parts size first last is =
    let a = and_parts _ _ is in
    let b = and_parts _ _ a.1 in
    record { rising = leb-true first last a.0; few = leb-true last (first + 4095) b.1; inside = ltb-true last size b.0 }

guarded_checked : (c : Claims) (e : Effect) → IsChecked c (guarded c e)
unfolding guarded
guarded_checked c (Failing kind) = tt
guarded_checked c (Ending after) = tt
guarded_checked c (Changing after) = tt
guarded_checked c (Fetching a after) = cond_both (ltb a c.size) _ _ (IsChecked c) (λ is. tt) (λ not. tt)
guarded_checked c (Keeping a w after) = cond_both (ltb a c.size) _ _ (IsChecked c) (λ is. tt) (λ not. tt)
guarded_checked c (Testing d Flag after) = cond_both (is_claimed c d) _ _ (IsChecked c) (λ is. tt) (λ not. tt)
guarded_checked c (Testing d Start after) = cond_both (is_kind kind.Mt (claim c d)) _ _ (IsChecked c) (λ is. tt) (λ not. tt)
guarded_checked c (Testing d Mark after) = cond_both (is_kind kind.Mt (claim c d)) _ _ (IsChecked c) (λ is. tt) (λ not. tt)
guarded_checked c (Starting d o first last after) =
    cond_both (is_kind (kind_of o) (claim c d)) _ _ (IsChecked c)
    (λ is. cond_both (has_area o) _ _ (IsChecked c)
    (λ has. cond_both (is_area c.size first last) _ _ (IsChecked c) (λ fits. (is, λ has'. area_parts c.size first last fits)) (λ not. tt))
    (λ none. (is, λ has. absurd (false≢true (sym none ∙ has)))))
    (λ other. tt)
guarded_checked c (Asking (IsBusy d) after) = cond_both (is_claimed c d) _ _ (IsChecked c) (λ is. tt) (λ not. tt)
guarded_checked c (Asking (IsOut first last) after) = cond_both (is_area c.size first last) _ _ (IsChecked c) (λ is. tt) (λ not. tt)
guarded_checked c (Asking Time after) = tt
guarded_checked c (Asking (FreeOf kind) after) = tt
guarded_checked c (Asking (OfService word) after) = tt
guarded_checked c (Claiming d after) = tt
guarded_checked c (Returning pooled d after) = cond_both (is_claimed c d) _ _ (IsChecked c) (λ is. tt) (λ not. tt)
guarded_checked c (Spooling stream first last after) = cond_both (is_area c.size first last) _ _ (IsChecked c) (λ is. tt) (λ not. tt)

change_checked : (c : Claims) (x : Change) → IsChecked c (of_change x)
change_checked c (Refused kind) = tt
change_checked c (Going after) = tt

effect_checked : (c : Claims) (r : Registers) (o : Order) → IsChecked c (effect c r o)
effect_checked c r = each_effect c r (λ _. Unit {0}) (IsChecked c) (λ e _. guarded_checked c e) (change_checked c) tt (λ code k q. tt) (λ t u q a. tt)
    (λ code q. tt) (λ b q. tt)

or_liv_checked : (c : Claims) (r : Registers) (o : Option Order) → IsChecked c (effect_or_liv c r o)
or_liv_checked c r None = tt
or_liv_checked c r (Some o) = effect_checked c r o

-- so it is with the next order of a state
pub next_checked : (s : State) → IsChecked s.stock.claims (next_effect s)
next_checked s = or_liv_checked s.stock.claims s.registers (order_at s.stock.claims.size (word_at s) s.registers.at)

-- ---- a device that is claimed

none_is : (k : Kind) → is_kind k None ≡ false
none_is kind.Tr = refl
none_is kind.Tp = refl
none_is kind.Cr = refl
none_is kind.Lp = refl
none_is kind.Mt = refl

held : (c : Claims) (d : ℕ) (k : Kind) (b : Bool) → is_kind k (cond b (kind_at c d) None) ≡ true → b ≡ true
held c d k true is = refl
held c d k false is = absurd (false≢true (sym (none_is k) ∙ is))

-- its number is below the limit, and it is marked as claimed
pub claim_parts : (c : Claims) (d : ℕ) (k : Kind) → is_kind k (claim c d) ≡ true → (ltb d device_limit ≡ true) × (get_or c.claimed d false ≡ true)
claim_parts c d k is = and_parts _ _ (held c d k (ltb d device_limit && get_or c.claimed d false) is)

pub claim_small : (c : Claims) (d : ℕ) (k : Kind) → is_kind k (claim c d) ≡ true → d < device_count
unfolding device_count
claim_small c d k is = ltb-true d device_limit (claim_parts c d k is).0
