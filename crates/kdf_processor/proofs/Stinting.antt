-- The stints of a program after an order.
use Rattle.std.specs.Prelude.{find, unwrap_or}
use Rattle.std.specs.List.{All, range_with_len}
use Rattle.std.proofs.Common.{◌≡◌, ◌≢◌, ℕ, ◌<◌, Bool, true, false, cond, not, List, [], ◌∷◌, ◌++◌, length, get_or, map, Option, Some, None, is_some, refl, sym}
use Rattle.std.proofs.Common.{ap, ap₂, ◌∙◌, subst, ⊎_elim, arith}
use Rattle.std.proofs.lemmas.Bool.{and_parts, cases_Bool, cases_eq, eq-eqb, false≢true, ne_eqb}
use Rattle.std.proofs.lemmas.List.{get_or-set_other, get_or-set_same, map-append}
use Rattle.std.proofs.lemmas.List.Elements.{All-head, All-tail}
use Rattle.kdf_journal.specs.declared.kind.Kind.{Kind}
use Rattle.kdf_journal.specs.declared.kind.Kind.TheVariants.{Tp}
use Rattle.kdf_transfer.specs.AtOnce.{device_after, order_words}
use Rattle.kdf_transfer.specs.Devices.{Fixture, DeviceProgress, blank_fixture, is_kind, new_progress}
use Rattle.kdf_transfer.specs.declared.order.TransferOrder.{TransferOrder}
use Rattle.kdf_transfer.proofs.OfKind.{exact}
use Rattle.kdf_processor.specs.Claims.{can_take, is_claimed, least_pooled, may_take, taken_device}
use Rattle.kdf_processor.specs.Effect.{Question, FreeOf, Effect, Starting, Asking, Returning}
use Rattle.kdf_processor.specs.Needs.{next_effect}
use Rattle.kdf_processor.specs.Row.{answered, handed, perform, released, row, transferred}
use Rattle.kdf_transfer.specs.Slots.{Slot}
use Rattle.kdf_processor.specs.State.{Claims, Lending, State, Stock, device_in, device_limit, fixture_at, is_pooled, lending_of, lendings, pool_kind_at}
use Rattle.kdf_processor.specs.State.{stocked, word_at}
use Rattle.kdf_processor.specs.Stints.{IsLent, lendings_after, moved_on, on_stint}
use Rattle.kdf_processor.proofs.Fit.{IsFit, found, next_fit}

-- ---- lists

map_all : {A B : Type 0} (f g : A → B) (xs : List A) → All (λ x. f x ≡ g x) xs → map f xs ≡ map g xs
map_all f g [] h = refl
map_all f g (x ∷ xs) h = ap₂ (λ y ys. y ∷ ys) (All-head (λ z. f z ≡ g z) x xs h) (map_all f g xs (All-tail (λ z. f z ≡ g z) x xs h))

map_map : {A B C : Type 0} (g : B → C) (f : A → B) (xs : List A) → map g (map f xs) ≡ map (λ x. g (f x)) xs
map_map g f [] = refl
map_map g f (x ∷ xs) = ap (λ ys. g (f x) ∷ ys) (map_map g f xs)

-- ---- a device that is taken

least_can : (c : Claims) (kind : Kind) (o : Option ℕ) → find (can_take c kind) (range_with_len 0 device_limit) ≡ o → is_some o ≡ true
    → can_take c kind (unwrap_or o 0) ≡ true
least_can c kind None e is = cc
least_can c kind (Some d) e is = found (can_take c kind) (range_with_len 0 device_limit) d e

-- what is taken may be
pub taken_can : (c : Claims) (kind : Kind) (a : ℕ) → may_take c kind ≡ true → can_take c kind (taken_device c kind a) ≡ true
unfolding least_pooled
taken_can c kind a may =
    ⊎_elim
    (λ (is : can_take c kind a ≡ true). ap (λ b. can_take c kind (cond b a (unwrap_or (least_pooled c kind) 0))) is ∙ is)
    (λ (no : can_take c kind a ≡ false). ap (λ b. can_take c kind (cond b a (unwrap_or (least_pooled c kind) 0))) no
    ∙ least_can c kind (least_pooled c kind) refl may)
    (cases_Bool (can_take c kind a))

pub not_true : (b : Bool) → not b ≡ true → b ≡ false
not_true true e = cc
not_true false e = refl

-- a device of the pool that isn't claimed hasn't the mark
pub unmarked : (c : Claims) (d : ℕ) (kind : Kind) → pool_kind_at c d ≡ Some kind → d < device_limit → is_claimed c d ≡ false → get_or c.claimed d false ≡ false
unmarked c d kind pool low free =
    ⊎_elim
    (λ (marked : get_or c.claimed d false ≡ true). absurd (false≢true (sym free ∙ claimed marked)))
    (λ (not : get_or c.claimed d false ≡ false). not)
    (cases_Bool (get_or c.claimed d false))
  where
    claimed : get_or c.claimed d false ≡ true → is_claimed c d ≡ true
    claimed marked = rw (marked, pool) (grind arith)

-- ---- one stint after an act

module _ (s : State) (lent : IsLent s) where
  abbrev k : Stock
  k = s.stock

  some_kind : (d : ℕ) → is_pooled k.claims d ≡ true → (kind : Kind) × (pool_kind_at k.claims d ≡ Some kind)
  some_kind d is = of (pool_kind_at k.claims d) is
    where
      of : (o : Option Kind) → is_some o ≡ true → (kind : Kind) × (o ≡ Some kind)
      of None e = cc
      of (Some kind) e = (kind, refl)

  -- one of a device that is given back
  given : (d e : ℕ) (l : Option DeviceProgress) → lending_of (released true d k) (handed d (device_in k d) (record { device = e; left = l })) ≡ on_stint d
      (λ x. record x { given = true }) (lending_of k (record { device = e; left = l }))
  given d e l =
      ⊎_elim
      (λ (same : e ≡ d). here same l)
      (λ (ne : e ≢ d). there ne l)
      (cases_eq e d)
    where
      here : e ≡ d → (l : Option DeviceProgress) → lending_of (released true d k) (handed d (device_in k d) (record { device = e; left = l })) ≡ on_stint d
          (λ x. record x { given = true }) (lending_of k (record { device = e; left = l }))
      here same None =
          subst (λ d'. lending_of (released true d' k) (handed d' (device_in k d') (record { device = e; left = None })) ≡ on_stint d'
          (λ x. record x { given = true }) (lending_of k (record { device = e; left = None }))) same
          (rw (eq-eqb e e refl) refl)
      here same (Some p) = rw (eq-eqb e d same) refl

      there : e ≢ d → (l : Option DeviceProgress) → lending_of (released true d k) (handed d (device_in k d) (record { device = e; left = l })) ≡ on_stint d
          (λ x. record x { given = true }) (lending_of k (record { device = e; left = l }))
      there ne None = rw (ne_eqb e d ne, get_or-set_other k.devices d e new_progress new_progress ne) refl
      there ne (Some p) = rw (ne_eqb e d ne) refl

  -- and one of a device that has a transfer
  transfer_claims : (d : ℕ) (o : TransferOrder) (first last : ℕ) (f : Option Fixture) → (transferred d o first last f k).claims ≡ k.claims
  transfer_claims d o first last None = refl
  transfer_claims d o first last (Some f) = refl

  other_device : (d e : ℕ) (o : TransferOrder) (first last : ℕ) (f : Option Fixture) → e ≢ d → device_in (transferred d o first last f k) e ≡ device_in k e
  other_device d e o first last None ne = refl
  other_device d e o first last (Some f) ne = get_or-set_other k.devices d e _ new_progress ne

  same_device : (d : ℕ) (o : TransferOrder) (first last : ℕ) (kind : Kind) → pool_kind_at k.claims d ≡ Some kind → d < length k.devices
      → device_in (transferred d o first last (fixture_at k.claims d) k) d ≡ device_after o first last (order_words o first last k.store) (blank_fixture kind)
      (device_in k d)
  same_device d o first last kind is low = rw is (get_or-set_same k.devices d _ new_progress low)

  moved : (d : ℕ) (o : TransferOrder) (first last : ℕ) (e : ℕ) (l : Option DeviceProgress) → is_pooled k.claims e ≡ true
      → lending_of (transferred d o first last (fixture_at k.claims d) k) (record { device = e; left = l }) ≡ on_stint d (moved_on o first last k.store)
      (lending_of k (record { device = e; left = l }))
  moved d o first last e l pooled =
      ⊎_elim
      (λ (same : e ≡ d). subst (λ d'. lending_of (transferred d' o first last (fixture_at k.claims d') k) (record { device = e; left = l }) ≡ on_stint d'
      (moved_on o first last k.store) (lending_of k (record { device = e; left = l }))) same (here l))
      (λ (ne : e ≢ d). there ne l)
      (cases_eq e d)
    where
      here : (l : Option DeviceProgress) → lending_of (transferred e o first last (fixture_at k.claims e) k) (record { device = e; left = l }) ≡ on_stint e
          (moved_on o first last k.store) (lending_of k (record { device = e; left = l }))
      here None =
          let kind = some_kind e pooled in
          let low : e < length k.devices = omega (arith, lent.few e pooled, lent.places) in
          rw (eq-eqb e e refl, transfer_claims e o first last (fixture_at k.claims e), same_device e o first last kind.0 kind.1 low, kind.1) refl
      here (Some p) = rw (eq-eqb e e refl, transfer_claims e o first last (fixture_at k.claims e)) refl

      there : e ≢ d → (l : Option DeviceProgress)
          → lending_of (transferred d o first last (fixture_at k.claims d) k) (record { device = e; left = l }) ≡ on_stint d
          (moved_on o first last k.store) (lending_of k (record { device = e; left = l }))
      there ne None = rw (ne_eqb e d ne, transfer_claims d o first last (fixture_at k.claims d), other_device d e o first last (fixture_at k.claims d) ne) refl
      there ne (Some p) = rw (ne_eqb e d ne, transfer_claims d o first last (fixture_at k.claims d)) refl

  -- ---- all of them

  begun : (kind : Kind) (a : ℕ) → may_take k.claims kind ≡ true
      → lendings (answered (FreeOf kind) a k)
      ≡ lendings k ++ record { device = taken_device k.claims kind a; kind = kind; progress = new_progress; given = false }
      ∷ []
  unfolding lendings
  begun kind a may =
      let d : ℕ = taken_device k.claims kind a in
      let can = and_parts (is_kind kind (pool_kind_at k.claims d)) (not (is_claimed k.claims d)) (taken_can k.claims kind a may) in
      let is : pool_kind_at k.claims d ≡ Some kind = exact kind (pool_kind_at k.claims d) can.0 in
      let pooled : is_pooled k.claims d ≡ true = ap is_some is in
      let mark : get_or k.claims.claimed d false ≡ false = unmarked k.claims d kind is (lent.few d pooled) (not_true (is_claimed k.claims d) can.1) in
      map-append (lending_of (answered (FreeOf kind) a k)) k.stints (record { device = d; left = None } ∷ [])
      ∙ ap (λ (x : Lending). map (lending_of k) k.stints ++ x ∷ [])
      (ap₂ (λ (o : Option Kind) (p : DeviceProgress). (let x : Lending = record { device = d; kind = unwrap_or o Tp; progress = p; given = false } in x)) is
      (lent.fresh d pooled mark))

  over : (d : ℕ) → lendings (released true d k) ≡ map (on_stint d (λ x. record x { given = true })) (lendings k)
  unfolding lendings
  over d =
      map_map (lending_of (released true d k)) (handed d (device_in k d)) k.stints
      ∙ map_all (λ x. lending_of (released true d k) (handed d (device_in k d) x)) (λ x. on_stint d (λ y. record y { given = true }) (lending_of k x)) k.stints
      (λ i x lt. given d (get_or k.stints i x).device (get_or k.stints i x).left)
      ∙ sym (map_map (on_stint d (λ x. record x { given = true })) (lending_of k) k.stints)

  through : (d : ℕ) (o : TransferOrder) (first last : ℕ) → lendings (transferred d o first last (fixture_at k.claims d) k)
      ≡ map (on_stint d (moved_on o first last k.store)) (lendings k)
  unfolding lendings
  through d o first last =
      ap (map (lending_of (transferred d o first last (fixture_at k.claims d) k))) (stints_stay (fixture_at k.claims d))
      ∙ map_all (lending_of (transferred d o first last (fixture_at k.claims d) k)) (λ x. on_stint d (moved_on o first last k.store) (lending_of k x)) k.stints
      (λ i x lt. moved d o first last (get_or k.stints i x).device (get_or k.stints i x).left (lent.pooled i x lt))
      ∙ sym (map_map (on_stint d (moved_on o first last k.store)) (lending_of k) k.stints)
    where
      stints_stay : (f : Option Fixture) → (transferred d o first last f k).stints ≡ k.stints
      stints_stay None = refl
      stints_stay (Some f) = refl

  by_effect : (answer : Question → ℕ) (e : Effect) → IsFit k.claims e → lendings (perform answer e s).stock ≡ lendings_after answer e s (lendings k)
  unfolding lendings
  by_effect answer (Starting d o first last after) fit = through d o first last
  by_effect answer (Asking (FreeOf kind) after) fit = begun kind (answer (FreeOf kind)) fit
  by_effect answer (Returning true d after) fit = over d
  by_effect answer (Returning false d after) fit = refl
  by_effect answer e fit = refl

  -- the stints after the next order
  pub stints_row : (answer : Question → ℕ) → lendings (row s answer).stock ≡ lendings_after answer (next_effect s) s (lendings k)
  stints_row answer = by_effect answer (next_effect s) (next_fit k.claims (word_at s) s.registers)

pub stints_begun : (slot : Slot) → lendings (stocked slot) ≡ []
unfolding lendings
stints_begun slot = refl
