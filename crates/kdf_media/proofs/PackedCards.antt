-- Cards that stand one behind another: one card more, and one of them.
use Rattle.std.proofs.Common.{◌≡◌, ℕ, zero, suc, ◌+◌, ◌-◌, ◌<◌, ◌≤◌, List, [], ◌∷◌, ◌++◌, Some, None, length, get_or, take, drop, arith, refl, sym, ap, subst}
use Rattle.std.proofs.Common.{◌∙◌, length-append}
use Rattle.std.specs.List.{All, slice_get, slice_index, slice_range}
use Rattle.std.proofs.lemmas.Option.{slice_get-get_or, slice_get_past}
use Rattle.std.proofs.lemmas.List.{get_or_append_left, take-append-le, drop-append-le, drop_at, take_all, length-drop}
use Rattle.std.proofs.lemmas.List.Elements.{All-append}
use Rattle.kdf_media.specs.Media.{card_of}
use Rattle.kdf_media.specs.PackedCards.{AreEnds, cards_to}

pub length_cards : (from : ℕ) (ends codes : List ℕ) → length (cards_to from ends codes) ≡ length ends
length_cards from [] codes = refl
length_cards from (end ∷ ends) codes = let e = length_cards end ends codes in omega (arith, e)

pub ends_within : (from : ℕ) (ends : List ℕ) (many : ℕ) → AreEnds from ends many → from ≤ many
ends_within from [] many h = omega arith
ends_within from (end ∷ ends) many h = let e = ends_within end ends many h.2 in omega (arith, h.0, e)

-- one end more
pub ends_more : (from : ℕ) (ends : List ℕ) (many k : ℕ) → AreEnds from ends many → k ≤ 80 → AreEnds from (ends ++ (many + k) ∷ []) (many + k)
ends_more from [] many k h short = (omega (arith, h), omega (arith, h), refl)
ends_more from (end ∷ ends) many k h short = (h.0, h.1, ends_more end ends many k h.2 short)

-- characters up to an end stay when others follow
range_before : (codes more : List ℕ) (from end : ℕ) → from ≤ end → end ≤ length codes → slice_range (codes ++ more) from end ≡ slice_range codes from end
range_before codes more from end le inside =
    let l = length-drop from codes in
    let fits : end - from ≤ length (drop from codes) = omega (arith, l) in
    ap (take (end - from)) (drop-append-le from codes more (omega arith)) ∙ take-append-le (end - from) (drop from codes) more fits

range_behind : (codes more : List ℕ) (from : ℕ) → from ≡ length codes → slice_range (codes ++ more) from (length codes + length more) ≡ more
range_behind codes more from is =
    let all : length more ≤ length codes + length more - from = omega (arith, is) in
    ap (take (length codes + length more - from)) (drop_at codes more from (sym is)) ∙ take_all (length codes + length more - from) more all

-- one card more
pub cards_more : (from : ℕ) (ends codes more : List ℕ) → AreEnds from ends (length codes)
    → cards_to from (ends ++ (length codes + length more) ∷ []) (codes ++ more) ≡ cards_to from ends codes ++ card_of more ∷ []
cards_more from [] codes more h = ap (λ card. card_of card ∷ []) (range_behind codes more from h)
cards_more from (end ∷ ends) codes more h =
    let inside = ends_within end ends (length codes) h.2 in
    let first : card_of (slice_range (codes ++ more) from end) ≡ card_of (slice_range codes from end) =
    ap card_of (range_before codes more from end h.0 inside) in
    let rest = cards_more end ends codes more h.2 in
    cc

-- the card at a place
pub card_at : (from : ℕ) (ends codes : List ℕ) (i : ℕ) → i < length ends
    → slice_get (cards_to from ends codes) i ≡ Some (card_of (slice_range codes (slice_index (from ∷ ends) i) (slice_index ends i)))
card_at from [] codes i h = absurd (omega arith)
card_at from (end ∷ ends) codes zero h = refl
card_at from (end ∷ ends) codes (suc i) h = card_at end ends codes i (omega arith)

pub record AreAround (from end many : ℕ) : Type 0 where
  pub up : from ≤ end
  pub short : end ≤ from + 80
  pub inside : end ≤ many

-- where it begins and ends
pub ends_at : (from : ℕ) (ends : List ℕ) (many i : ℕ) → AreEnds from ends many → i < length ends
    → AreAround (slice_index (from ∷ ends) i) (slice_index ends i) many
ends_at from [] many i h inside = absurd (omega arith)
ends_at from (end ∷ ends) many zero h inside = record { up = h.0; short = h.1; inside = ends_within end ends many h.2 }
ends_at from (end ∷ ends) many (suc i) h inside = ends_at end ends many i h.2 (omega arith)

pub no_card_at : (from : ℕ) (ends codes : List ℕ) (i : ℕ) → length ends ≤ i → slice_get (cards_to from ends codes) i ≡ None
no_card_at from ends codes i h = slice_get_past (cards_to from ends codes) i (omega (arith, length_cards from ends codes, h))

-- after a push: the ends, the characters and the cards
pub ends_pushed : (ends codes more new_ends new_codes : List ℕ) (end : ℕ) → AreEnds 0 ends (length codes) → length more ≤ 80 → end ≡ length codes + length more
    → new_ends ≡ ends ++ end ∷ [] → new_codes ≡ codes ++ more → AreEnds 0 new_ends (length new_codes)
ends_pushed ends codes more new_ends new_codes end h short is is_ends is_codes =
    rw (is_ends, is_codes, length-append codes more, is) (ends_more 0 ends (length codes) (length more) h short)

pub small_pushed : (codes more new_codes : List ℕ) → All (λ c. c < 64) codes → All (λ c. c < 64) more → new_codes ≡ codes ++ more → All (λ c. c < 64) new_codes
small_pushed codes more new_codes small small_more is = subst (All (λ (c : ℕ). c < 64)) (sym is) (All-append (λ c. c < 64) codes more small small_more)

pub cards_pushed : (ends codes more new_ends new_codes : List ℕ) (end : ℕ) (cards : List (List ℕ)) → AreEnds 0 ends (length codes)
    → cards ≡ cards_to 0 ends codes
    → end ≡ length codes + length more → new_ends ≡ ends ++ end ∷ [] → new_codes ≡ codes ++ more → cards_to 0 new_ends new_codes ≡ cards ++ card_of more ∷ []
cards_pushed ends codes more new_ends new_codes end cards h are is is_ends is_codes =
    rw (is_ends, is_codes, is, are) (cards_more 0 ends codes more h)

-- a card of the first ones, and of those behind them
pub card_before : (whole packed : List (List ℕ)) (place : ℕ) (card : List ℕ) → place < length whole → card ≡ get_or whole place card
    → slice_get (whole ++ packed) place ≡ Some card
card_before whole packed place card inside is =
    let many = length-append whole packed in
    let there : place < length (whole ++ packed) = omega (arith, many) in
    slice_get-get_or (whole ++ packed) place card there ∙ ap Some (get_or_append_left whole packed card place inside ∙ sym is)

pub card_after : (whole packed : List (List ℕ)) (place : ℕ) → length whole ≤ place → slice_get (whole ++ packed) place ≡ slice_get packed (place - length whole)
card_after [] packed place h = ap (slice_get packed) (omega arith)
card_after (first ∷ whole) packed zero h = absurd (omega arith)
card_after (first ∷ whole) packed (suc place) h =
    let e : place - length whole ≡ suc place - suc (length whole) = omega arith in
    card_after whole packed place (omega arith) ∙ ap (slice_get packed) e
