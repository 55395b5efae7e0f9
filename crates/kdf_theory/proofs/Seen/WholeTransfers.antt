-- What a whole transfer leaves, and where its words go.
use Rattle.std.proofs.Common.{◌≡◌, ◌≢◌, ℕ, ◌+◌, ◌-◌, ◌/◌, ◌<◌, ◌≤◌, eqb, Bool, true, false, List, [], ◌∷◌, length, take, cond, Option, Some, None, refl, sym}
use Rattle.std.proofs.Common.{ap, ◌∙◌, subst, ⊎_elim, arith}
use Rattle.std.specs.List.{list_any}
use Rattle.std.proofs.lemmas.Bool.{cases_Bool, cases_lt, and_from, le-leb, ne_eqb, true_from_ne_false, false≢true}
use Rattle.std.proofs.lemmas.List.{get_or-set_other, length-take}
use Rattle.kdf_transfer.specs.AtOnce.{is_input, is_output, is_backward, has_area, given, offered, moved_words, at_addresses, down_addresses, moves, written}
use Rattle.kdf_transfer.specs.AtOnce.{order_words}
use Rattle.kdf_transfer.specs.Devices.{Fixture, DeviceProgress, new_progress}
use Rattle.kdf_transfer.specs.declared.order.TransferOrder.{TransferOrder}
use Rattle.kdf_transfer.proofs.Areas.{input_has}
use Rattle.kdf_transfer.proofs.Stopping.{stopped-le}
use Rattle.kdf_processor.specs.Needs.{group_of}
use Rattle.kdf_processor.specs.Row.{transferred}
use Rattle.kdf_processor.specs.State.{Stock, device_at, device_in, fixture_at}
use Rattle.kdf_processor.proofs.AreaLemmas.{moves_apart}
use Rattle.kdf_theory.specs.Flights.{Flight, moves_on, all_moves, arrivals, completed, touches}

-- ---- what a transfer leaves

pub transferred_claims : (d : ℕ) (o : TransferOrder) (first last : ℕ) (f : Option Fixture) (k : Stock) → (transferred d o first last f k).claims ≡ k.claims
transferred_claims d o first last None k = refl
transferred_claims d o first last (Some f) k = refl

pub transferred_spooled : (d : ℕ) (o : TransferOrder) (first last : ℕ) (f : Option Fixture) (k : Stock) → (transferred d o first last f k).spooled ≡ k.spooled
transferred_spooled d o first last None k = refl
transferred_spooled d o first last (Some f) k = refl

pub transferred_stints : (d : ℕ) (o : TransferOrder) (first last : ℕ) (f : Option Fixture) (k : Stock) → (transferred d o first last f k).stints ≡ k.stints
transferred_stints d o first last None k = refl
transferred_stints d o first last (Some f) k = refl

transferred_other : (d x : ℕ) (o : TransferOrder) (first last : ℕ) (f : Option Fixture) (k : Stock) → x ≢ d
    → device_in (transferred d o first last f k) x ≡ device_in k x
transferred_other d x o first last None k ne = refl
transferred_other d x o first last (Some f) k ne = get_or-set_other k.devices d x _ new_progress ne

-- a transfer leaves the other devices
pub completed_other : (d x : ℕ) (f : Flight) → x ≢ d → device_in (completed d f) x ≡ device_at f.before x
completed_other d x f ne = transferred_other d x f.order f.first f.last (fixture_at f.before.stock.claims d) f.before.stock ne

-- and its store is that before it with its arrivals written
pub completed_store : (d : ℕ) (f : Flight) → (completed d f).store ≡ written (arrivals d f) f.before.stock.store
completed_store d f = on (fixture_at f.before.stock.claims d)
  where
    store : List ℕ
    store = f.before.stock.store

    on : (x : Option Fixture) → (transferred d f.order f.first f.last x f.before.stock).store ≡ written (cond (is_input f.order) (moves_on d f x) []) store
    on None =
        ⊎_elim
        (λ (is : is_input f.order ≡ true). sym (ap (λ b. written (cond b [] []) store) is))
        (λ (not : is_input f.order ≡ false). sym (ap (λ b. written (cond b [] []) store) not))
        (cases_Bool (is_input f.order))
    on (Some x) =
        ⊎_elim
        (λ (is : is_input f.order ≡ true).
        ap (λ b. cond b (written (moves_on d f (Some x)) store) store) is ∙ sym (ap (λ b. written (cond b (moves_on d f (Some x)) []) store) is))
        (λ (not : is_input f.order ≡ false).
        ap (λ b. cond b (written (moves_on d f (Some x)) store) store) not ∙ sym (ap (λ b. written (cond b (moves_on d f (Some x)) []) store) not))
        (cases_Bool (is_input f.order))

-- ---- arrivals

-- they are all the moves of an input order, and no other has any
pub arrivals_input : (d : ℕ) (f : Flight) → is_input f.order ≡ true → arrivals d f ≡ all_moves d f
arrivals_input d f is = ap (λ b. cond b (all_moves d f) []) is

pub arrivals_none : (d : ℕ) (f : Flight) → is_input f.order ≡ false → arrivals d f ≡ []
arrivals_none d f not = ap (λ b. cond b (all_moves d f) []) not

-- no word arrives outside the area
pub arrivals_outside : (d : ℕ) (f : Flight) (a : ℕ) → (has_area f.order ≡ true → f.first ≤ a → a ≤ f.last → ⊥)
    → list_any (λ m. eqb m.0 a) (arrivals d f) ≡ false
arrivals_outside d f a out =
    ⊎_elim
    (λ (is : is_input f.order ≡ true). ap (list_any (λ m. eqb m.0 a)) (arrivals_input d f is) ∙ on (fixture_at f.before.stock.claims d) is)
    (λ (not : is_input f.order ≡ false). ap (list_any (λ m. eqb m.0 a)) (arrivals_none d f not))
    (cases_Bool (is_input f.order))
  where
    on : (x : Option Fixture) → is_input f.order ≡ true → list_any (λ m. eqb m.0 a) (moves_on d f x) ≡ false
    on None is = refl
    on (Some x) is = moves_apart f.order f.first f.last x (device_at f.before d) (order_words f.order f.first f.last f.before.stock.store) a is
        (out (input_has f.order is))

-- a word arrives in a group that the transfer touches
module _ (d : ℕ) (f : Flight) (a : ℕ) (arrives : list_any (λ m. eqb m.0 a) (arrivals d f) ≡ true) where
  pub arrives_has_area : has_area f.order ≡ true
  arrives_has_area = true_from_ne_false _ (λ no. false≢true (sym (arrivals_outside d f a (λ has low high. false≢true (sym no ∙ has))) ∙ arrives))

  pub arrives_below : a ≤ f.last
  arrives_below =
      ⊎_elim
      (λ (lt : f.last < a). absurd (false≢true (sym (arrivals_outside d f a (λ has low high. omega arith)) ∙ arrives)))
      (λ (le : a ≤ f.last). le)
      (cases_lt f.last a)

  pub arrives_above : f.first ≤ a
  arrives_above =
      ⊎_elim
      (λ (lt : a < f.first). absurd (false≢true (sym (arrivals_outside d f a (λ has low high. omega arith)) ∙ arrives)))
      (λ (le : f.first ≤ a). le)
      (cases_lt a f.first)

  pub arrives_touches : touches (Some f) (group_of a) ≡ true
  arrives_touches =
      let low = arrives_above in
      let high = arrives_below in
      let from : f.first / 32 ≤ a / 32 = omega arith in
      let to : a / 32 ≤ f.last / 32 = omega arith in
      and_from _ _ arrives_has_area (and_from _ _ (le-leb _ _ from) (le-leb _ _ to))

-- ---- where they go

-- no address stands twice
abbrev pub AreDistinct : List (ℕ × ℕ) → Type 0
AreDistinct [] = Unit {0}
AreDistinct (m ∷ ms) = (list_any (λ x. eqb x.0 m.0) ms ≡ false) × AreDistinct ms

below_none : (a from : ℕ) (ws : List ℕ) → a < from → list_any (λ x. eqb x.0 a) (at_addresses from ws) ≡ false
below_none a from [] lt = refl
below_none a from (w ∷ ws) lt = rw (ne_eqb from a (λ e. omega arith)) (below_none a (from + 1) ws (omega arith))

distinct_up : (from : ℕ) (ws : List ℕ) → AreDistinct (at_addresses from ws)
distinct_up from [] = tt
distinct_up from (w ∷ ws) = (below_none from (from + 1) ws (omega arith), distinct_up (from + 1) ws)

above_none : (a from : ℕ) (ws : List ℕ) → length ws ≤ from + 1 → from < a → list_any (λ x. eqb x.0 a) (down_addresses from ws) ≡ false
above_none a from [] fits lt = refl
above_none a from (w ∷ ws) fits lt = rw (ne_eqb from a (λ e. omega arith)) (above_none a (from - 1) ws (omega arith) (omega arith))

-- after address 0 there is no more word
down_zero : (ws : List ℕ) (a from : ℕ) → length ws ≤ from → from ≡ 0 → list_any (λ x. eqb x.0 a) (down_addresses (from - 1) ws) ≡ false
down_zero [] a from fits e = refl
down_zero (w ∷ ws) a from fits e = absurd (omega arith)

down_none : (from : ℕ) (ws : List ℕ) → length ws ≤ from → list_any (λ x. eqb x.0 from) (down_addresses (from - 1) ws) ≡ false
down_none from ws fits =
    ⊎_elim
    (λ (lt : 0 < from). above_none from (from - 1) ws (omega arith) (omega arith))
    (λ (le : from ≤ 0). down_zero ws from from fits (omega arith))
    (cases_lt 0 from)

distinct_down : (from : ℕ) (ws : List ℕ) → length ws ≤ from + 1 → AreDistinct (down_addresses from ws)
distinct_down from [] fits = tt
distinct_down from (w ∷ ws) fits = (down_none from ws (omega arith), distinct_down (from - 1) ws (omega arith))

-- an input order moves no more words than the area has
few_moved : (o : TransferOrder) (first last : ℕ) (words : List ℕ) (f : Fixture) (p : DeviceProgress) → is_input o ≡ true
    → length (moved_words o first last words f p) ≤ last + 1 - first
unfolding offered
few_moved o first last words f p is =
    let offer : offered o first last words f p ≡ take (last + 1 - first) (given o f p) =
    ap (λ b. cond b (take (last + 1 - first) (given o f p)) (cond (is_output o) words [])) is in
    omega (arith, stopped-le o (offered o first last words f p), ap length offer, length-take (last + 1 - first) (given o f p))

distinct_moves : (o : TransferOrder) (first last : ℕ) (words : List ℕ) (f : Fixture) (p : DeviceProgress) → is_input o ≡ true
    → AreDistinct (moves o first last words f p)
distinct_moves o first last words f p is = at (is_backward o)
  where
    at : (b : Bool) → AreDistinct (cond b (down_addresses last (moved_words o first last words f p)) (at_addresses first (moved_words o first last words f p)))
    at true = distinct_down last (moved_words o first last words f p) (omega (arith, few_moved o first last words f p is))
    at false = distinct_up first (moved_words o first last words f p)

-- no two words arrive at one address
pub distinct_arrivals : (d : ℕ) (f : Flight) → AreDistinct (arrivals d f)
distinct_arrivals d f =
    ⊎_elim
    (λ (is : is_input f.order ≡ true). subst AreDistinct (sym (arrivals_input d f is)) (on (fixture_at f.before.stock.claims d) is))
    (λ (not : is_input f.order ≡ false). subst AreDistinct (sym (arrivals_none d f not)) tt)
    (cases_Bool (is_input f.order))
  where
    on : (x : Option Fixture) → is_input f.order ≡ true → AreDistinct (moves_on d f x)
    on None is = tt
    on (Some x) is = distinct_moves f.order f.first f.last (order_words f.order f.first f.last f.before.stock.store) x (device_at f.before d) is
