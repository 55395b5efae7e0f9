-- The groups of a lease come back.
use Rattle.std.proofs.Common.{◌≡◌, ◌≢◌, ℕ, ◌+◌, ◌-◌, ◌<◌, ◌≤◌, ◌⊎◌, inl, inr, true, false, List, [], ◌++◌, length, get_or, set, map, take, drop, Option, Some}
use Rattle.std.proofs.Common.{None, refl, sym, ap, ◌∙◌, ⊎_elim, arith, length-append, length-take, length-drop}
use Rattle.std.proofs.Math.Path.{fun_ext}
use Rattle.std.proofs.lemmas.Bool.{cases_Bool, cases_eq}
use Rattle.std.proofs.lemmas.List.{length-set, length-map, get_or-map}
use Rattle.kdf_lockout.specs.Groups.{Cells, Lent, group_at, with_groups}
use Rattle.kdf_places.specs.Words.{own_words, has_group, with_lease}
use Rattle.kdf_transfer.specs.ByNumber.{device_count}
use Rattle.kdf_places.specs.Words as physical
use Rattle.kdf_places.proofs.WordsHereAndOut.{brought, splice_in, splice_out, in_range, with_lease_is, with_lease_other, own_words_same, word_of-back}
use Rattle.kdf_places.specs.Spots.{Spot, lease_held, leases_of}
use Rattle.kdf_places.specs.Shared.{Shared, IsSound}
use Rattle.kdf_places.specs.Transfers.{back_cells, IsBack}
use Rattle.kdf_places.proofs.GroupsKept.{leases-set, has_in, in_has}

-- a group after some came back
with_in : (cells : Cells) (l : Lent) (g : ℕ) → l.first + length l.groups ≤ length cells → l.first ≤ g → g < l.first + length l.groups
    → group_at (with_groups cells l) g ≡ Some (get_or l.groups (g - l.first) [])
unfolding with_groups
with_in cells l g fits low high =
    let count : length (map Some l.groups) ≡ length l.groups = length-map l.groups Some in
    let i : g - l.first < length l.groups = omega arith in
    ap (λ k. get_or (take l.first cells ++ (map Some l.groups ++ drop (l.first + k) cells)) g None) (sym count)
    ∙ splice_in cells (map Some l.groups) l.first g None (omega arith) low (omega arith)
    ∙ get_or-map Some l.groups (g - l.first) [] None i

with_out : (cells : Cells) (l : Lent) (g : ℕ) → l.first + length l.groups ≤ length cells → (g < l.first) ⊎ (l.first + length l.groups ≤ g)
    → group_at (with_groups cells l) g ≡ group_at cells g
unfolding with_groups
with_out cells l g fits out =
    let count : length (map Some l.groups) ≡ length l.groups = length-map l.groups Some in
    let out' : (g < l.first) ⊎ (l.first + length (map Some l.groups) ≤ g) =
    ⊎_elim (λ (a : g < l.first). inl a) (λ (b : l.first + length l.groups ≤ g). inr (omega arith)) out in
    ap (λ k. get_or (take l.first cells ++ (map Some l.groups ++ drop (l.first + k) cells)) g None) (sym count)
    ∙ splice_out cells (map Some l.groups) l.first g None (omega arith) out'

length-with : (cells : Cells) (l : Lent) → l.first + length l.groups ≤ length cells → length (with_groups cells l) ≡ length cells
unfolding with_groups
length-with cells l fits =
    omega (
      arith,
      length-append (take l.first cells) (map Some l.groups ++ drop (l.first + length l.groups) cells),
      length-append (map Some l.groups)
          (drop (l.first + length l.groups) cells),
      length-take l.first cells,
      length-drop (l.first + length l.groups) cells,
      length-map l.groups Some,
    )

back-is : (cells : Cells) (l : Lent) → with_groups cells l ≡ brought cells l
unfolding with_groups
back-is cells l = refl

-- the groups of device d come back, and its spot becomes y
abbrev pub landed : ℕ → Spot → Shared → Shared
landed d y m = record { cells = back_cells (leases_of m.spots d) m.cells; spots = set m.spots d y }

module _ (m : Shared) (d : ℕ) (y : Spot) (sound : IsSound m) (small : d < device_count) (gone : lease_held y.flight ≡ None) where
  abbrev o : Option Lent
  o = leases_of m.spots d

  inside : d < length m.spots
  inside = let e = sound.spots in omega arith

  leases_landed : leases_of (landed d y m).spots ≡ with_lease d None (leases_of m.spots)
  leases_landed = leases-set m.spots d y inside ∙ ap (λ l. with_lease d l (leases_of m.spots)) gone

  landed_at : leases_of (landed d y m).spots d ≡ None
  landed_at = ap (λ ls. ls d) leases_landed ∙ with_lease_is d d None (leases_of m.spots) refl

  landed_other : (e : ℕ) → e ≢ d → leases_of (landed d y m).spots e ≡ leases_of m.spots e
  landed_other e ne = ap (λ ls. ls e) leases_landed ∙ with_lease_other e d None (leases_of m.spots) ne

  pub length-back : (l : Option Lent) → o ≡ l → length (back_cells l m.cells) ≡ length m.cells
  length-back None is = refl
  length-back (Some l) is = length-with m.cells l (sound.inside d l is)

  cells_in : (l : Option Lent) → o ≡ l → (g : ℕ) → has_group l g ≡ true → (ws : List ℕ) × (group_at (back_cells l m.cells) g ≡ Some ws) × (length ws ≡ 32)
  cells_in None is g has = cc
  cells_in (Some l) is g has =
      let range = in_has l g has in
      let low = range.0 in
      let high = range.1 in
      let i : g - l.first < length l.groups = omega arith in
      (get_or l.groups (g - l.first) [], with_in m.cells l g (sound.inside d l is) low high, sound.full d l is (g - l.first) i)

  cells_out : (l : Option Lent) → o ≡ l → (g : ℕ) → has_group l g ≡ false → group_at (back_cells l m.cells) g ≡ group_at m.cells g
  cells_out None is g not = refl
  cells_out (Some l) is g not =
      with_out m.cells l g (sound.inside d l is)
      (⊎_elim
      (λ (range : (l.first ≤ g) × (g < l.first + length l.groups)). cc (sym not ∙ has_in l g range.0 range.1))
      (λ (out : (g < l.first) ⊎ (l.first + length l.groups ≤ g)). out)
      (in_range l.first (length l.groups) g))

  word_back : (l : Option Lent) → o ≡ l → (x : ℕ) → physical.word_at_place (back_cells l m.cells) (with_lease d None (leases_of m.spots)) x
      ≡ physical.word_at_place m.cells (leases_of m.spots) x
  word_back None is x =
      ap (λ ls. physical.word_at_place m.cells ls x)
      (fun_ext
      (λ e. ⊎_elim
      (λ (same : e ≡ d). with_lease_is e d None (leases_of m.spots) same ∙ sym (ap (leases_of m.spots) same ∙ is))
      (λ (ne : e ≢ d). with_lease_other e d None (leases_of m.spots) ne)
      (cases_eq e d)))
  word_back (Some l) is x =
      ap (λ cs. physical.word_at_place cs (with_lease d None (leases_of m.spots)) x) (back-is m.cells l)
      ∙ word_of-back m.cells (leases_of m.spots) d l small (sound.inside d l is) is
      (λ g low high. sound.out d g (ap (λ k. has_group k g) is ∙ has_in l g low high))
      (λ e g ne low high. sound.alone d e g ne (ap (λ k. has_group k g) is ∙ has_in l g low high)) x

  pub land_words : (base size : ℕ) → own_words base size (landed d y m).cells (leases_of (landed d y m).spots) ≡ own_words base size m.cells (leases_of m.spots)
  land_words base size =
      ap (own_words base size (landed d y m).cells) leases_landed
      ∙ own_words_same base size m.cells (landed d y m).cells (leases_of m.spots) (with_lease d None (leases_of m.spots)) (word_back o refl)

  pub sound-land : IsSound (landed d y m)
  sound-land =
      record {
        spots = length-set m.spots d y ∙ sound.spots;
        whole = λ g ws is. ⊎_elim
            (λ (has : has_group o g ≡ true). let there = cells_in o refl g has in let e : there.0 ≡ ws = cc (sym there.1 ∙ is) in ap length (sym e) ∙ there.2)
            (λ (not : has_group o g ≡ false). sound.whole g ws (sym (cells_out o refl g not) ∙ is))
            (cases_Bool (has_group o g));
        full = λ e l is. ⊎_elim
            (λ (same : e ≡ d). cc (sym landed_at ∙ (ap (leases_of (landed d y m).spots) (sym same) ∙ is)))
            (λ (ne : e ≢ d). sound.full e l (sym (landed_other e ne) ∙ is))
            (cases_eq e d);
        inside = λ e l is. ⊎_elim
            (λ (same : e ≡ d). cc (sym landed_at ∙ (ap (leases_of (landed d y m).spots) (sym same) ∙ is)))
            (λ (ne : e ≢ d). omega (arith, sound.inside e l (sym (landed_other e ne) ∙ is), length-back o refl))
            (cases_eq e d);
        out = λ e g has. ⊎_elim
            (λ (same : e ≡ d). cc (sym (ap (λ k. has_group k g) (ap (leases_of (landed d y m).spots) same ∙ landed_at)) ∙ has))
            (λ (ne : e ≢ d).
            let had = ap (λ k. has_group k g) (sym (landed_other e ne)) ∙ has in
            let back : d ≢ e = λ i. ne (sym i) in
            cells_out o refl g (sound.alone e d g back had) ∙ sound.out e g had)
            (cases_eq e d);
        alone = λ e k g ne has. ⊎_elim
            (λ (same : e ≡ d). cc (sym (ap (λ i. has_group i g) (ap (leases_of (landed d y m).spots) same ∙ landed_at)) ∙ has))
            (λ (diff : e ≢ d).
            ⊎_elim
            (λ (is : k ≡ d). ap (λ i. has_group i g) (ap (leases_of (landed d y m).spots) is ∙ landed_at))
            (λ (ne' : k ≢ d). ap (λ i. has_group i g) (landed_other k ne') ∙ sound.alone e k g ne (ap (λ i. has_group i g) (sym (landed_other e diff)) ∙ has))
            (cases_eq k d))
            (cases_eq e d);
        held = λ g lt none. ⊎_elim
            (λ (has : has_group o g ≡ true). let there = cells_in o refl g has in cc (sym none ∙ there.1))
            (λ (not : has_group o g ≡ false).
            let found = sound.held g (omega (arith, length-back o refl)) (sym (cells_out o refl g not) ∙ none) in
            let diff : found.0 ≢ d = λ e. cc (sym (ap (λ k. has_group (leases_of m.spots k) g) e ∙ not) ∙ found.1) in
            (found.0, ap (λ k. has_group k g) (landed_other found.0 diff) ∙ found.1))
            (cases_Bool (has_group o g));
      }

-- the groups of a lease are out
pub back-lease : (m : Shared) (d : ℕ) (o : Option Lent) → IsSound m → leases_of m.spots d ≡ o → IsBack m.cells o
back-lease m d None sound is = tt
back-lease m d (Some l) sound is = record { inside = sound.inside d l is; out = λ g low high. sound.out d g (ap (λ k. has_group k g) is ∙ has_in l g low high) }
