-- A device on which the program has a transfer stays claimed, and what it is, through an order.
use Rattle.std.proofs.Common.{◌≡◌, ◌≢◌, ℕ, zero, suc, Bool, true, false, ltb, List, [], ◌∷◌, get_or, set, cond, None, refl, sym, ap, ◌∙◌}
use Rattle.std.specs.Prelude.{◌&&◌}
use Rattle.std.proofs.lemmas.Bool.{or_parts, false≢true}
use Rattle.std.proofs.lemmas.List.{get_or-set_other}
use Rattle.kdf_journal.specs.declared.kind.Kind.{Kind}
use Rattle.kdf_journal.specs.declared.need.Need.{Need}
use Rattle.kdf_journal.specs.declared.need.Need.TheVariants.{Device}
use Rattle.kdf_transfer.specs.Devices.{is_kind}
use Rattle.kdf_processor.specs.Claims.{claim, kind_at, taken_device}
use Rattle.kdf_processor.specs.Effect.{Question, FreeOf, Effect, Starting, Asking, Claiming, Returning}
use Rattle.kdf_processor.specs.Frame.{HidesNone}
use Rattle.kdf_processor.specs.Needs.{effect_needs}
use Rattle.kdf_processor.specs.Row.{perform}
use Rattle.kdf_processor.specs.State.{Claims, State, device_limit, fixture_at}
use Rattle.kdf_theory.proofs.Seen.WholeTransfers.{transferred_claims}
use Rattle.kdf_theory.proofs.Seen.TransfersChecked.{claim_parts}

set_true : (xs : List Bool) (x d : ℕ) → get_or xs d false ≡ true → get_or (set xs x true) d false ≡ true
set_true [] x d is = is
set_true (y ∷ ys) zero zero is = refl
set_true (y ∷ ys) zero (suc d) is = is
set_true (y ∷ ys) (suc x) zero is = is
set_true (y ∷ ys) (suc x) (suc d) is = set_true ys x d is

-- with other claims it stays such if its own mark stays
marked : (c : Claims) (claimed : List Bool) (d : ℕ) (k : Kind) → get_or claimed d false ≡ true → is_kind k (claim c d) ≡ true
    → is_kind k (claim (record c { claimed = claimed }) d) ≡ true
marked c claimed d k mark is =
    ap (λ b. is_kind k (cond (ltb d device_limit && b) (kind_at c d) None)) (mark ∙ sym (claim_parts c d k is).1) ∙ is

module _ (hidden : Need → Bool) (mine : List ℕ) (answer : Question → ℕ) (s : State) (d : ℕ) (k : Kind) (is : is_kind k (claim s.stock.claims d) ≡ true)
    (out : hidden (Device d) ≡ true) where
  -- another device is given back
  returned : (x : ℕ) → hidden (Device x) ≡ false → is_kind k (claim (record s.stock.claims { claimed = set s.stock.claims.claimed x false }) d) ≡ true
  returned x free =
      let ne : d ≢ x = λ e. false≢true (sym free ∙ (ap (λ y. hidden (Device y)) (sym e) ∙ out)) in
      marked s.stock.claims (set s.stock.claims.claimed x false) d k (get_or-set_other s.stock.claims.claimed x d false false ne
      ∙ (claim_parts s.stock.claims d k is).1) is

  pub claimed_through : (e : Effect) → HidesNone hidden (effect_needs mine e) → is_kind k (claim (perform answer e s).stock.claims d) ≡ true
  claimed_through (Starting x o first last after) none =
      ap (λ (c : Claims). is_kind k (claim c d)) (transferred_claims x o first last (fixture_at s.stock.claims x) s.stock) ∙ is
  claimed_through (Claiming x after) none =
      marked s.stock.claims (set s.stock.claims.claimed x true) d k (set_true s.stock.claims.claimed x d (claim_parts s.stock.claims d k is).1) is
  claimed_through (Asking (FreeOf kind) after) none =
      marked s.stock.claims (set s.stock.claims.claimed (taken_device s.stock.claims kind (answer (FreeOf kind))) true) d k
      (set_true s.stock.claims.claimed (taken_device s.stock.claims kind (answer (FreeOf kind))) d (claim_parts s.stock.claims d k is).1)
      is
  claimed_through (Returning true x after) none = returned x (or_parts _ _ none).0
  claimed_through (Returning false x after) none = returned x (or_parts _ _ none).0
  claimed_through e none = is

-- no order changes what a device is
pub same_fixture : (answer : Question → ℕ) (e : Effect) (s : State) (d : ℕ) → fixture_at (perform answer e s).stock.claims d ≡ fixture_at s.stock.claims d
same_fixture answer (Starting x o first last after) s d =
    ap (λ (c : Claims). fixture_at c d) (transferred_claims x o first last (fixture_at s.stock.claims x) s.stock)
same_fixture answer (Asking (FreeOf kind) after) s d = refl
same_fixture answer (Returning true x after) s d = refl
same_fixture answer (Returning false x after) s d = refl
same_fixture answer e s d = refl

-- nor the size of the store
pub same_size : (answer : Question → ℕ) (e : Effect) (s : State) → (perform answer e s).stock.claims.size ≡ s.stock.claims.size
same_size answer (Starting x o first last after) s =
    ap (λ (c : Claims). c.size) (transferred_claims x o first last (fixture_at s.stock.claims x) s.stock)
same_size answer (Asking (FreeOf kind) after) s = refl
same_size answer (Returning true x after) s = refl
same_size answer (Returning false x after) s = refl
same_size answer e s = refl
