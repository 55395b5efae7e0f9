-- The words of an area that is free.
use Rattle.std.proofs.Common.{◌≡◌, ℕ, ◌+◌, ◌-◌, ◌<◌, ◌≤◌, List, length, get_or, take, drop, map, sym, ◌∙◌, arith, length-take, length-drop}
use Rattle.std.specs.List.{range_with_len}
use Rattle.std.proofs.lemmas.List.{ext_get_or, get_or-take, get_or-drop}
use Rattle.std.proofs.lemmas.List.FromFn.{length-map-range_with_len, get_or-map-range_with_len}
use Rattle.kdf_lockout.specs.Groups.{word_here}
use Rattle.kdf_transfer.specs.AtOnce.{IsArea}
use Rattle.kdf_processor.specs.Row.{area_words}
use Rattle.kdf_yard.specs.Fields.Parts.{Part, own_stock}
use Rattle.kdf_places.specs.Shared.{Shared}
use Rattle.kdf_places.specs.Words.{word_at_place, own_words}
use Rattle.kdf_places.specs.Transfers.{IsFreeArea}
use Rattle.kdf_places.specs.Spots.{leases_of}
use Rattle.kdf_places.proofs.WordsHereAndOut.{here_word}
use Rattle.kdf_places.proofs.AreaTexts.{here_at}

-- the words of such an area
module _ (q : Part) (s : Shared) (first last : ℕ) (area : IsArea first last q.size) (free : IsFreeArea s.cells (q.base + first) (q.base + last)) where
  abbrev n : ℕ
  n = last + 1 - first

  abbrev m : ℕ
  m = q.base + last + 1 - (q.base + first)

  abbrev shown_word : ℕ → ℕ
  shown_word a = word_at_place s.cells (leases_of s.spots) (q.base + a)

  abbrev all : List ℕ
  all = own_words q.base q.size s.cells (leases_of s.spots)

  fits : first + n ≤ q.size
  fits = let a = area.rising in let b = area.inside in omega arith

  same : m ≡ n
  same = omega arith

  counted : length (take n (drop first all)) ≡ n
  counted = omega (arith, length-take n (drop first all), length-drop first all, length-map-range_with_len shown_word 0 q.size, fits)

  one : (i : ℕ) → i < n → get_or (take n (drop first all)) i 0 ≡ get_or (map (word_here s.cells) (range_with_len (q.base + first) m)) i 0
  one i lt =
      let inside : first + i < q.size = omega (arith, fits) in
      let low : q.base + first ≤ q.base + (first + i) = omega arith in
      let high : q.base + (first + i) ≤ q.base + last = omega arith in
      let place : q.base + first + i ≡ q.base + (first + i) = omega arith in
      let within : i < m = omega (arith, same) in
      get_or-take n (drop first all) i 0 lt
      ∙ get_or-drop first all i 0
      ∙ get_or-map-range_with_len shown_word 0 q.size (first + i) (first + i) 0 inside (omega arith)
      ∙ here_word s.cells (leases_of s.spots) (q.base + (first + i)) (here_at s.cells (q.base + first) (q.base + last) (q.base + (first + i)) free low high)
      ∙ sym (get_or-map-range_with_len (word_here s.cells) (q.base + first) m i (q.base + (first + i)) 0 within place)

  pub area_here : area_words first last (own_stock q 0 s) ≡ map (word_here s.cells) (range_with_len (q.base + first) m)
  area_here =
      ext_get_or 0 (take n (drop first all)) (map (word_here s.cells) (range_with_len (q.base + first) m))
      (counted ∙ sym (length-map-range_with_len (word_here s.cells) (q.base + first) m ∙ same))
      (λ i lt. one i (omega (arith, counted)))
