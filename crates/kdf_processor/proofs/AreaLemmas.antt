-- What an order reads and writes of its area.
use Rattle.std.proofs.Common.{◌≡◌, ◌≢◌, ℕ, zero, suc, ◌+◌, ◌-◌, ◌/◌, ◌<◌, ◌≤◌, eqb, Bool, true, false, List, [], ◌∷◌, length, get_or, set, take, drop, map}
use Rattle.std.proofs.Common.{cond, refl, sym, ap, ◌∙◌, subst, ⊎_elim, arith}
use Rattle.std.specs.List.{list_any, range_with_len}
use Rattle.std.proofs.lemmas.Bool.{or_parts, cases_Bool, cases_eq, false≢true, eqb-false, ne_eqb}
use Rattle.std.proofs.lemmas.List.{get_or-set_other, length-set, ext_get_or, get_or-take, get_or-drop, length-take, length-drop}
use Rattle.kdf_transfer.specs.AtOnce.{is_input, is_output, is_backward, has_area, given, offered, moved_words, at_addresses, down_addresses, addressed, moves}
use Rattle.kdf_transfer.specs.AtOnce.{written, order_words, stored}
use Rattle.kdf_transfer.specs.Devices.{Fixture, DeviceProgress}
use Rattle.kdf_transfer.specs.declared.order.TransferOrder.{TransferOrder}
use Rattle.kdf_transfer.proofs.Areas.{input_has}
use Rattle.kdf_transfer.proofs.Stopping.{stopped-le}
use Rattle.kdf_journal.specs.declared.need.Need.{Need}
use Rattle.kdf_journal.specs.declared.need.Need.TheVariants.{Group}
use Rattle.kdf_processor.specs.Needs.{group_of}
use Rattle.kdf_processor.specs.View.{groups_of, order_groups}

-- one write in two lists that agree at an index
pub set_agree : {X : Type 0} (xs ys : List X) (a : ℕ) (w d : X) (x : ℕ) → length xs ≡ length ys → get_or xs x d ≡ get_or ys x d
    → get_or (set xs a w) x d ≡ get_or (set ys a w) x d
set_agree [] [] a w d x e h = refl
set_agree [] (y ∷ ys) a w d x e h = cc
set_agree (x' ∷ xs) [] a w d x e h = cc
set_agree (x' ∷ xs) (y ∷ ys) zero w d zero e h = refl
set_agree (x' ∷ xs) (y ∷ ys) zero w d (suc x) e h = h
set_agree (x' ∷ xs) (y ∷ ys) (suc a) w d zero e h = h
set_agree (x' ∷ xs) (y ∷ ys) (suc a) w d (suc x) e h = set_agree xs ys a w d x (cc) h

-- a group of a range is not hidden if none of the range is
range_apart : (hidden : Need → Bool) (from n g : ℕ) → from ≤ g → g < from + n → list_any hidden (map Group (range_with_len from n)) ≡ false
    → hidden (Group g) ≡ false
range_apart hidden from zero g low high none = absurd (omega arith)
range_apart hidden from (suc n) g low high none =
    let parts = or_parts _ _ none in
    ⊎_elim (λ e. rw (← e) parts.0) (λ ne. range_apart hidden (from + 1) n g (omega arith) (omega arith) parts.1) (cases_eq from g)

-- a word of an area is not hidden if no group of the area is
pub area_apart : (hidden : Need → Bool) (first last a : ℕ) → first ≤ a → a ≤ last → list_any hidden (map Group (groups_of first last)) ≡ false
    → hidden (Group (group_of a)) ≡ false
area_apart hidden first last a low high none = range_apart hidden (first / 32) (last / 32 + 1 - first / 32) (a / 32) (omega arith) (omega arith) none

-- the groups of an order that has an area are those of the area
order_area : (hidden : Need → Bool) (o : TransferOrder) (first last : ℕ) → has_area o ≡ true → list_any hidden (map Group (order_groups o first last)) ≡ false
    → list_any hidden (map Group (groups_of first last)) ≡ false
order_area hidden o first last has none = subst (λ b. list_any hidden (map Group (cond b (groups_of first last) [])) ≡ false) has none

-- ---- reading

-- stores of one size that agree wherever nothing is hidden
pub record WordsAgree (hidden : Need → Bool) (xs ys : List ℕ) : Type 0 where
  pub size : length xs ≡ length ys
  pub words : (a : ℕ) → hidden (Group (group_of a)) ≡ false → get_or xs a 0 ≡ get_or ys a 0

-- an index within the words of an area
area_index : (first last : ℕ) (store : List ℕ) (k : ℕ) → k < length (take (last + 1 - first) (drop first store)) → k < last + 1 - first
area_index first last store k lt = omega (arith, length-take (last + 1 - first) (drop first store))

-- they have the same words in an area that isn't hidden
pub area_agree : (hidden : Need → Bool) (xs ys : List ℕ) (first last : ℕ) → WordsAgree hidden xs ys → list_any hidden (map Group (groups_of first last))
    ≡ false → take (last + 1 - first) (drop first xs) ≡ take (last + 1 - first) (drop first ys)
area_agree hidden xs ys first last h none =
    ext_get_or 0 (take (last + 1 - first) (drop first xs)) (take (last + 1 - first) (drop first ys)) (simp (length-take, length-drop, h.size))
    (λ k lt. let low : k < last + 1 - first = area_index first last xs k lt in
    get_or-take (last + 1 - first) (drop first xs) k 0 low
    ∙ get_or-drop first xs k 0
    ∙ h.words (first + k) (area_apart hidden first last (first + k) (omega arith) (omega arith) none)
    ∙ sym (get_or-drop first ys k 0)
    ∙ sym (get_or-take (last + 1 - first) (drop first ys) k 0 low))

-- and an order has the same words in its area
pub order_words_agree : (hidden : Need → Bool) (xs ys : List ℕ) (o : TransferOrder) (first last : ℕ) → WordsAgree hidden xs ys
    → list_any hidden (map Group (order_groups o first last)) ≡ false → order_words o first last xs ≡ order_words o first last ys
order_words_agree hidden xs ys o first last h none =
    ⊎_elim
    (λ (has : has_area o ≡ true).
    ap (λ b. cond b (take (last + 1 - first) (drop first xs)) []) has
    ∙ area_agree hidden xs ys first last h (order_area hidden o first last has none)
    ∙ sym (ap (λ b. cond b (take (last + 1 - first) (drop first ys)) []) has))
    (λ (no : has_area o ≡ false).
    ap (λ b. cond b (take (last + 1 - first) (drop first xs)) []) no
    ∙ sym (ap (λ b. cond b (take (last + 1 - first) (drop first ys)) []) no))
    (cases_Bool (has_area o))

-- ---- writing

-- what is written in two stores that agree at an address
written_agree : (ms : List (ℕ × ℕ)) (xs ys : List ℕ) (a : ℕ) → length xs ≡ length ys → get_or xs a 0 ≡ get_or ys a 0
    → get_or (written ms xs) a 0 ≡ get_or (written ms ys) a 0
written_agree [] xs ys a e h = h
written_agree (m ∷ ms) xs ys a e h =
    written_agree ms (set xs m.0 m.1) (set ys m.0 m.1) a (simp (length-set, e)) (set_agree xs ys m.0 m.1 0 a e h)

pub length-written : (ms : List (ℕ × ℕ)) (xs : List ℕ) → length (written ms xs) ≡ length xs
length-written [] xs = refl
length-written (m ∷ ms) xs = length-written ms (set xs m.0 m.1) ∙ length-set xs m.0 m.1

-- what none of the words is written to stays
pub written_apart : (ms : List (ℕ × ℕ)) (xs : List ℕ) (a : ℕ) → list_any (λ m. eqb m.0 a) ms ≡ false → get_or (written ms xs) a 0 ≡ get_or xs a 0
written_apart [] xs a none = refl
written_apart (m ∷ ms) xs a none =
    let parts = or_parts _ _ none in
    let ne : a ≢ m.0 = λ e. eqb-false m.0 a parts.0 (sym e) in
    written_apart ms (set xs m.0 m.1) a parts.1 ∙ get_or-set_other xs m.0 a m.1 0 ne

-- words that go upwards from an address, or downwards, are at no address beyond them
at_addresses_apart : (from : ℕ) (ws : List ℕ) (a : ℕ) → (from ≤ a → a < from + length ws → ⊥) → list_any (λ m. eqb m.0 a) (at_addresses from ws) ≡ false
at_addresses_apart from [] a out = refl
at_addresses_apart from (w ∷ ws) a out =
    rw (ne_eqb from a (λ e. out (omega arith) (omega arith))) (at_addresses_apart (from + 1) ws a (λ low high. out (omega arith) (omega arith)))

down_addresses_apart : (from : ℕ) (ws : List ℕ) (a : ℕ) → length ws ≤ from + 1 → (from + 1 ≤ a + length ws → a ≤ from → ⊥)
    → list_any (λ m. eqb m.0 a) (down_addresses from ws) ≡ false
down_addresses_apart from [] a fits out = refl
down_addresses_apart from (w ∷ ws) a fits out =
    rw (ne_eqb from a (λ e. out (omega arith) (omega arith))) (down_addresses_apart (from - 1) ws a (omega arith) (λ low high. out (omega arith) (omega arith)))

-- and no more words than an area has are at no address outside it
addressed_apart : (o : TransferOrder) (first last : ℕ) (ws : List ℕ) (a : ℕ) → length ws ≤ last + 1 - first → (first ≤ a → a ≤ last → ⊥)
    → list_any (λ m. eqb m.0 a) (addressed o first last ws) ≡ false
addressed_apart o first last ws a few out = at (is_backward o)
  where
    at : (b : Bool) → list_any (λ m. eqb m.0 a) (cond b (down_addresses last ws) (at_addresses first ws)) ≡ false
    at true = down_addresses_apart last ws a (omega arith) (λ low high. out (omega arith) high)
    at false = at_addresses_apart first ws a (λ low high. out low (omega arith))

module _ (o : TransferOrder) (first last : ℕ) (f : Fixture) (p : DeviceProgress) where
  -- the words that an input order moves are as many as its area has at most
  few_moved : (words : List ℕ) → is_input o ≡ true → length (moved_words o first last words f p) ≤ last + 1 - first
  unfolding offered
  few_moved words is =
      let offer : offered o first last words f p ≡ take (last + 1 - first) (given o f p) =
      ap (λ b. cond b (take (last + 1 - first) (given o f p)) (cond (is_output o) words [])) is in
      omega (arith, stopped-le o (offered o first last words f p), ap length offer, length-take (last + 1 - first) (given o f p))

  pub moves_apart : (words : List ℕ) (a : ℕ) → is_input o ≡ true → (first ≤ a → a ≤ last → ⊥) → list_any (λ m. eqb m.0 a) (moves o first last words f p) ≡ false
  moves_apart words a is out = addressed_apart o first last (moved_words o first last words f p) a (few_moved words is) out

  pub length-stored : (xs : List ℕ) → length (stored o first last xs f p) ≡ length xs
  length-stored xs = at (is_input o)
    where
      at : (b : Bool) → length (cond b (written (moves o first last (order_words o first last xs) f p) xs) xs) ≡ length xs
      at true = length-written (moves o first last (order_words o first last xs) f p) xs
      at false = refl

  -- a word outside the area stays
  pub stored_outside : (xs : List ℕ) (a : ℕ) → (has_area o ≡ true → first ≤ a → a ≤ last → ⊥) → get_or (stored o first last xs f p) a 0 ≡ get_or xs a 0
  stored_outside xs a out =
      ⊎_elim
      (λ (is : is_input o ≡ true).
      ap (λ b. get_or (cond b (written (moves o first last (order_words o first last xs) f p) xs) xs) a 0) is
      ∙ written_apart (moves o first last (order_words o first last xs) f p) xs a (moves_apart (order_words o first last xs) a is (out (input_has o is))))
      (λ (not : is_input o ≡ false). ap (λ b. get_or (cond b (written (moves o first last (order_words o first last xs) f p) xs) xs) a 0) not)
      (cases_Bool (is_input o))

  -- an order leaves what is hidden as it was, if no group of its area is hidden
  pub stored_apart : (hidden : Need → Bool) (xs : List ℕ) (a : ℕ) → list_any hidden (map Group (order_groups o first last)) ≡ false
      → hidden (Group (group_of a)) ≡ true → get_or (stored o first last xs f p) a 0 ≡ get_or xs a 0
  stored_apart hidden xs a none is =
      stored_outside xs a
      (λ has low high. false≢true (sym (area_apart hidden first last a low high (order_area hidden o first last has none)) ∙ is))

  -- and stores that agree go on agreeing
  pub stored_agree : (hidden : Need → Bool) (xs ys : List ℕ) (a : ℕ) → WordsAgree hidden xs ys → list_any hidden (map Group (order_groups o first last))
      ≡ false → hidden (Group (group_of a)) ≡ false → get_or (stored o first last xs f p) a 0 ≡ get_or (stored o first last ys f p) a 0
  stored_agree hidden xs ys a h none free =
      at (is_input o)
      ∙ ap (λ ws. get_or (cond (is_input o) (written (moves o first last ws f p) ys) ys) a 0) (order_words_agree hidden xs ys o first last h none)
    where
      at : (b : Bool) → get_or (cond b (written (moves o first last (order_words o first last xs) f p) xs) xs) a 0
          ≡ get_or (cond b (written (moves o first last (order_words o first last xs) f p) ys) ys) a 0
      at true = written_agree (moves o first last (order_words o first last xs) f p) xs ys a h.size (h.words a free)
      at false = h.words a free
