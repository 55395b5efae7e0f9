-- Each group stays here, or in exactly one lease, as a program writes a word or begins a transfer.
use Rattle.std.proofs.Common.{◌≡◌, ◌≢◌, ℕ, ◌+◌, ◌/◌, ◌%◌, ◌<◌, ◌≤◌, ◌⊎◌, true, false, List, length, set, Option, Some, None, is_none, cond, refl, sym, ap, ◌∙◌}
use Rattle.std.proofs.Common.{subst, ⊎_elim, arith}
use Rattle.std.proofs.lemmas.Bool.{cases_Bool, cases_eq, cases_lt, false_from_ne_true}
use Rattle.std.proofs.lemmas.List.{get_or-set_same, get_or-set_other, length-set, get_or_past}
use Rattle.kdf_lockout.specs.Groups.{Lent, group_at, is_out, with_word, without_groups, lent_groups, words_in, AreWhole, AreFull}
use Rattle.kdf_transfer.specs.declared.order.TransferOrder.{TransferOrder}
use Rattle.kdf_transfer.specs.AtOnce.{has_area}
use Rattle.kdf_places.specs.Words.{has_group, with_lease}
use Rattle.kdf_transfer.specs.ByNumber.{device_count}
use Rattle.kdf_places.proofs.WordsHereAndOut.{in_range, with_lease_is, with_lease_other}
use Rattle.kdf_processor.specs.Effect.{Writes, Starts}
use Rattle.kdf_places.specs.Spots.{spot_at, lease_held, leases_of}
use Rattle.kdf_places.specs.Shared.{Shared, IsSound}
use Rattle.kdf_yard.specs.Fields.Parts.{Part}
use Rattle.kdf_lockout.specs.Groups.{touched}
use Rattle.kdf_places.specs.Transfers.{start_lease, start_spot, IsFreeArea}
use Rattle.kdf_yard.specs.Fields.Shared.{after_act}
use Rattle.kdf_places.proofs.GroupsKept.{here_apart, free_here, leases-set, without_in, without_out, has_in, in_has, lent_full, lent_range}
use Rattle.kdf_places.proofs.TransfersBegin.{length-start}

-- a word is written where its group is
pub sound-writes : (q : Part) (s : Shared) (a w : ℕ) → IsSound s → is_out s.cells ((q.base + a) / 32) ≡ false → IsSound (after_act q s (Writes a w))
sound-writes q s a w sound here =
    record {
      spots = sound.spots;
      whole = whole;
      full = sound.full;
      inside = λ d l is. subst (λ n. l.first + length l.groups ≤ n) (sym count) (sound.inside d l is);
      out = λ d g has. let ne : g ≢ g0 = λ e. cc (sym (ap is_none (ap (group_at s.cells) (sym e) ∙ sound.out d g has)) ∙ here) in get_or-set_other s.cells g0 g
          _ None ne ∙ sound.out d g has;
      alone = sound.alone;
      held = λ g lt none. ⊎_elim
          (λ (e : g ≡ g0). let inside : g0 < length s.cells =
          omega (arith, count) in cc (sym (ap (group_at (with_word s.cells (q.base + a) w)) e ∙ get_or-set_same s.cells g0 _ None inside) ∙ none))
          (λ (ne : g ≢ g0). sound.held g (omega (arith, count)) (sym (get_or-set_other s.cells g0 g _ None ne) ∙ none))
          (cases_eq g g0);
    }
  where
    g0 : ℕ
    g0 = (q.base + a) / 32

    count : length (with_word s.cells (q.base + a) w) ≡ length s.cells
    count = length-set s.cells g0 _

    some_of : (o : Option (List ℕ)) → is_none o ≡ false → o ≡ Some (words_in o)
    some_of None h = cc
    some_of (Some ws) h = refl

    past : (g : ℕ) → length s.cells ≤ g → (ws : List ℕ) → group_at s.cells g ≡ Some ws → ⊥
    past g le ws is = cc (sym (get_or_past s.cells g None le) ∙ is)

    whole : AreWhole (with_word s.cells (q.base + a) w)
    whole g ws is =
        ⊎_elim
        (λ (e : g ≡ g0).
        let there = some_of (group_at s.cells g0) here in
        ⊎_elim
        (λ (lt : g0 < length s.cells).
        let new : ws ≡ set (words_in (group_at s.cells g0)) ((q.base + a) % 32) w =
        cc (sym is ∙ ap (group_at (with_word s.cells (q.base + a) w)) e ∙ get_or-set_same s.cells g0 _ None lt) in
        ap length new ∙ length-set (words_in (group_at s.cells g0)) ((q.base + a) % 32) w ∙ sound.whole g0 _ there)
        (λ (le : length s.cells ≤ g0). absurd (past g0 le _ there))
        (cases_lt g0 (length s.cells)))
        (λ (ne : g ≢ g0). sound.whole g ws (sym (get_or-set_other s.cells g0 g _ None ne) ∙ is))
        (cases_eq g g0)

-- a transfer begins
module _ (s : Shared) (q : Part) (d : ℕ) (o : TransferOrder) (first last : ℕ) (sound : IsSound s) (small : d < device_count)
    (idle : (spot_at s.spots d).flight ≡ None) (free : has_area o ≡ true → IsFreeArea s.cells (q.base + first) (q.base + last)) where
  abbrev f : ℕ
  f = (q.base + first) / 32

  abbrev n : ℕ
  n = touched (q.base + first) (q.base + last)

  abbrev later : Shared
  later = after_act q s (Starts d o first last)

  abbrev lease : Option Lent
  lease = start_lease o (q.base + first) (q.base + last) s.cells

  fits : has_area o ≡ true → f + n ≤ length s.cells
  fits has = let h = free has in let rising = h.rising in let inside = h.inside in omega arith

  count : length later.cells ≡ length s.cells
  count = length-start o (q.base + first) (q.base + last) s.cells free

  leases_later : leases_of later.spots ≡ with_lease d lease (leases_of s.spots)
  leases_later = leases-set s.spots d (start_spot q.p o (q.base + first) (q.base + last) s.cells (spot_at s.spots d)) (let e = sound.spots in omega arith)

  at_d : leases_of later.spots d ≡ lease
  at_d = ap (λ ls. ls d) leases_later ∙ with_lease_is d d lease (leases_of s.spots) refl

  other : (e : ℕ) → e ≢ d → leases_of later.spots e ≡ leases_of s.spots e
  other e ne = ap (λ ls. ls e) leases_later ∙ with_lease_other e d lease (leases_of s.spots) ne

  -- the lease, where there is one
  lease_is : (l : Lent) → lease ≡ Some l → (has_area o ≡ true) × (l ≡ lent_groups s.cells f n)
  lease_is l is =
      ⊎_elim
      (λ (has : has_area o ≡ true). (has, cc (sym is ∙ ap (λ b. cond b (Some (lent_groups s.cells f n)) None) has)))
      (λ (not : has_area o ≡ false). cc (sym is ∙ ap (λ b. cond b (Some (lent_groups s.cells f n)) None) not))
      (cases_Bool (has_area o))

  lease_has : (g : ℕ) → has_group lease g ≡ true → (has_area o ≡ true) × (f ≤ g) × (g < f + n)
  lease_has g is =
      ⊎_elim
      (λ (has : has_area o ≡ true).
      let range = lent_range s.cells f n (fits has) in
      let low = in_has (lent_groups s.cells f n) g (sym (ap (λ b. has_group (cond b (Some (lent_groups s.cells f n)) None) g) has) ∙ is) in
      (has, omega (arith, range, low), omega (arith, range, low)))
      (λ (not : has_area o ≡ false). cc (sym (ap (λ b. has_group (cond b (Some (lent_groups s.cells f n)) None) g) not) ∙ is))
      (cases_Bool (has_area o))

  has_lease : has_area o ≡ true → (g : ℕ) → f ≤ g → g < f + n → has_group lease g ≡ true
  has_lease has g low high =
      let range = lent_range s.cells f n (fits has) in
      ap (λ b. has_group (cond b (Some (lent_groups s.cells f n)) None) g) has
      ∙ has_in (lent_groups s.cells f n) g (omega (arith, range)) (omega (arith, range))

  cells_in : has_area o ≡ true → (g : ℕ) → f ≤ g → g < f + n → group_at later.cells g ≡ None
  cells_in has g low high = ap (λ b. group_at (cond b (without_groups s.cells f n) s.cells) g) has ∙ without_in s.cells f n g (fits has) low high

  cells_out : (g : ℕ) → (has_area o ≡ true → (g < f) ⊎ (f + n ≤ g)) → group_at later.cells g ≡ group_at s.cells g
  cells_out g out =
      ⊎_elim
      (λ (has : has_area o ≡ true). ap (λ b. group_at (cond b (without_groups s.cells f n) s.cells) g) has ∙ without_out s.cells f n g (fits has) (out has))
      (λ (not : has_area o ≡ false). ap (λ b. group_at (cond b (without_groups s.cells f n) s.cells) g) not)
      (cases_Bool (has_area o))

  -- a group of the later store is one of the store
  cells_some : (g : ℕ) (ws : List ℕ) → group_at later.cells g ≡ Some ws → group_at s.cells g ≡ Some ws
  cells_some g ws is =
      sym (cells_out g (λ has. ⊎_elim
      (λ (range : (f ≤ g) × (g < f + n)). cc (sym (cells_in has g range.0 range.1) ∙ is))
      (λ (out : (g < f) ⊎ (f + n ≤ g)). out)
      (in_range f n g)))
      ∙ is

  cells_none : (g : ℕ) → group_at s.cells g ≡ None → group_at later.cells g ≡ None
  cells_none g none =
      cells_out g (λ has. ⊎_elim
      (λ (range : (f ≤ g) × (g < f + n)). let here = free_here s (q.base + first) (q.base + last) g (free has) range.0 range.1 in cc (sym here.1 ∙ none))
      (λ (out : (g < f) ⊎ (f + n ≤ g)). out)
      (in_range f n g))
      ∙ none

  -- the new lease has no group of another
  apart : (e g : ℕ) → has_group lease g ≡ true → has_group (leases_of s.spots e) g ≡ false
  apart e g is =
      let range = lease_has g is in
      let here = free_here s (q.base + first) (q.base + last) g (free range.0) range.1 range.2 in
      here_apart s e g here.0 sound here.1

  pub sound-starts : IsSound later
  sound-starts =
      record {
        spots = length-set s.spots d _ ∙ sound.spots;
        whole = λ g ws is. sound.whole g ws (cells_some g ws is);
        full = λ e l is. ⊎_elim
            (λ (same : e ≡ d).
            let l_is = lease_is l (sym at_d ∙ (ap (leases_of later.spots) (sym same) ∙ is)) in
            subst AreFull (sym l_is.1) (lent_full s.cells f n (fits l_is.0) sound.whole
            (λ g low high. free_here s (q.base + first) (q.base + last) g (free l_is.0) low high)))
            (λ (ne : e ≢ d). sound.full e l (sym (other e ne) ∙ is))
            (cases_eq e d);
        inside = λ e l is. ⊎_elim
            (λ (same : e ≡ d).
            let l_is = lease_is l (sym at_d ∙ (ap (leases_of later.spots) (sym same) ∙ is)) in
            let range = lent_range s.cells f n (fits l_is.0) in
            let all = fits l_is.0 in
            subst (λ (k : Lent). k.first + length k.groups ≤ length later.cells) (sym l_is.1) (omega (arith, range, count)))
            (λ (ne : e ≢ d). omega (arith, sound.inside e l (sym (other e ne) ∙ is), count))
            (cases_eq e d);
        out = λ e g has. ⊎_elim
            (λ (same : e ≡ d).
            let range = lease_has g (ap (λ k. has_group k g) (sym at_d) ∙ (ap (λ k. has_group (leases_of later.spots k) g) (sym same) ∙ has)) in
            cells_in range.0 g range.1 range.2)
            (λ (ne : e ≢ d). cells_none g (sound.out e g (ap (λ k. has_group k g) (sym (other e ne)) ∙ has)))
            (cases_eq e d);
        alone = λ e k g ne has. ⊎_elim
            (λ (same : e ≡ d).
            let other_k : k ≢ d = λ i. ne (i ∙ sym same) in
            ap (λ x. has_group x g) (other k other_k)
            ∙ apart k g (ap (λ x. has_group x g) (sym at_d) ∙ (ap (λ x. has_group (leases_of later.spots x) g) (sym same) ∙ has)))
            (λ (diff : e ≢ d).
            let had = ap (λ x. has_group x g) (sym (other e diff)) ∙ has in
            ⊎_elim
            (λ (is : k ≡ d).
            ap (λ x. has_group (leases_of later.spots x) g) is ∙ ap (λ x. has_group x g) at_d
            ∙ false_from_ne_true _ (λ (in' : has_group lease g ≡ true). cc (sym (apart e g in') ∙ had)))
            (λ (ne' : k ≢ d). ap (λ x. has_group x g) (other k ne') ∙ sound.alone e k g ne had)
            (cases_eq k d))
            (cases_eq e d);
        held = λ g lt none. ⊎_elim
            (λ (has : has_area o ≡ true).
            ⊎_elim
            (λ (range : (f ≤ g) × (g < f + n)). (d, ap (λ x. has_group x g) at_d ∙ has_lease has g range.0 range.1))
            (λ (out : (g < f) ⊎ (f + n ≤ g)). old g lt (sym (cells_out g (λ _. out)) ∙ none))
            (in_range f n g))
            (λ (not : has_area o ≡ false). old g lt (sym (cells_out g (λ has. cc (sym not ∙ has))) ∙ none))
            (cases_Bool (has_area o));
      }
    where
      old : (g : ℕ) → g < length later.cells → group_at s.cells g ≡ None → (e : ℕ) × (has_group (leases_of later.spots e) g ≡ true)
      old g lt none =
          let was = sound.held g (omega (arith, count)) none in
          let diff : was.0 ≢ d = λ e. cc (sym (ap (λ x. has_group x g) (ap (leases_of s.spots) e ∙ ap lease_held idle)) ∙ was.1) in
          (was.0, ap (λ x. has_group x g) (other was.0 diff) ∙ was.1)
