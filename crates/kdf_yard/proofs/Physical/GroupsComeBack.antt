-- Words move, and a transfer ends: the groups, and what is shown of the programs.
use Rattle.std.specs.Option.{option_map}
use Rattle.std.proofs.Common.{◌≡◌, ◌≢◌, ℕ, ◌+◌, ◌<◌, ◌≤◌, ◌⊎◌, Bool, true, false, List, length, get_or, set, take, drop, Option, Some, None, cond, refl, sym}
use Rattle.std.proofs.Common.{ap, ap₂, ◌∙◌, subst, ⊎_elim, arith}
use Rattle.std.proofs.lemmas.Bool.{cases_eq}
use Rattle.std.proofs.lemmas.List.{get_or-set_same, get_or-set_other, length-set, set-set, ext_get_or}
use Rattle.kdf_lockout.specs.Groups.{Lent, AreFull}
use Rattle.kdf_transfer.specs.AtOnce.{is_input}
use Rattle.kdf_transfer.specs.InFlight.{total_of, moves_of, put_words, lease_by, moved_by, ended_progress}
use Rattle.kdf_places.specs.Words.{own_words, has_group, with_lease}
use Rattle.kdf_transfer.specs.ByNumber.{device_count, by_number}
use Rattle.kdf_places.proofs.WordsHereAndOut.{with_lease_is, with_lease_other}
use Rattle.kdf_transfer.specs.Devices.{new_progress}
use Rattle.kdf_transfer.specs.AtOnce.{written}
use Rattle.kdf_places.specs.Spots.{Held, Spot, no_spot, spot_at, lease_held, leases_of}
use Rattle.kdf_places.specs.Shared.{Shared, IsSound}
use Rattle.kdf_yard.specs.Fields.Parts.{Part, has_device, own_progress, own_claims, own_stock}
use Rattle.kdf_places.specs.Transfers.{moved_spot, after_move, back_cells, last_lease, ended_by, ended_spot, after_end, flight_moves, IsBack}
use Rattle.kdf_yard.specs.Fields.Sound.{IsFlightOf}
use Rattle.kdf_yard.proofs.Physical.OrdersAct.{stock, claims, fixtures-set, progress_in, progress-set}
use Rattle.kdf_yard.specs.Fields.Stints.{left_in}
use Rattle.kdf_yard.proofs.Physical.WordsLand.{has-put, full-put, same-put, leases_later, move_words_own, move_words_other}
use Rattle.kdf_transfer.proofs.Numbers.{number_at, length-numbers}
use Rattle.kdf_places.proofs.GroupsComeBack.{landed, back-lease, length-back, land_words, sound-land}

abbrev by : Bool → List (ℕ × ℕ) → Option Lent → Option Lent
by b ms o = cond b (option_map (put_words ms) o) o

has-by : (b : Bool) (ms : List (ℕ × ℕ)) (o : Option Lent) (g : ℕ) → has_group (by b ms o) g ≡ has_group o g
has-by true ms None g = refl
has-by true ms (Some l) g = has-put ms l g
has-by false ms o g = refl

full-by : (b : Bool) (ms : List (ℕ × ℕ)) (o : Option Lent) (l' : Lent) → by b ms o ≡ Some l' → ((l : Lent) → o ≡ Some l → AreFull l) → AreFull l'
full-by true ms None l' is full = cc
full-by true ms (Some l) l' is full = let e : put_words ms l ≡ l' = cc in subst AreFull e (full-put ms l (full l refl))
full-by false ms o l' is full = full l' is

inside-by : (b : Bool) (ms : List (ℕ × ℕ)) (o : Option Lent) (l' : Lent) (n : ℕ) → by b ms o ≡ Some l'
    → ((l : Lent) → o ≡ Some l → l.first + length l.groups ≤ n) → l'.first + length l'.groups ≤ n
inside-by true ms None l' n is fits = cc
inside-by true ms (Some l) l' n is fits =
    let e : put_words ms l ≡ l' = cc in
    let same = same-put ms l in
    subst (λ (k : Lent). k.first + length k.groups ≤ n) e (omega (arith, same, fits l refl))
inside-by false ms o l' n is fits = fits l' is

-- words move in the flight on device d of program q
module _ (s : Shared) (q : Part) (d : ℕ) (h : Held) (n : ℕ) (sound : IsSound s) (small : d < device_count) (flies : (spot_at s.spots d).flight ≡ Some h)
    (is_of : IsFlightOf q d (spot_at s.spots d) h) where
  abbrev lease : Option Lent
  lease = lease_by n h.motion

  leases_are : leases_of (after_move d n s).spots ≡ with_lease d lease (leases_of s.spots)
  leases_are = leases_later s q d h n sound small flies is_of

  at_d : leases_of (after_move d n s).spots d ≡ lease
  at_d = ap (λ ls. ls d) leases_are ∙ with_lease_is d d lease (leases_of s.spots) refl

  other : (e : ℕ) → e ≢ d → leases_of (after_move d n s).spots e ≡ leases_of s.spots e
  other e ne = ap (λ ls. ls e) leases_are ∙ with_lease_other e d lease (leases_of s.spots) ne

  was : leases_of s.spots d ≡ h.motion.lease
  was = ap lease_held flies

  same_has : (e g : ℕ) → has_group (leases_of (after_move d n s).spots e) g ≡ has_group (leases_of s.spots e) g
  same_has e g =
      ⊎_elim
      (λ (same : e ≡ d).
      ap (λ k. has_group (leases_of (after_move d n s).spots k) g) same ∙ ap (λ o. has_group o g) at_d
      ∙ has-by (is_input h.motion.order) (take n (drop h.motion.moved (moves_of h.motion))) h.motion.lease g
      ∙ sym (ap (λ k. has_group (leases_of s.spots k) g) same ∙ ap (λ o. has_group o g) was))
      (λ (ne : e ≢ d). ap (λ o. has_group o g) (other e ne))
      (cases_eq e d)

  pub sound-move : IsSound (after_move d n s)
  sound-move =
      record {
        spots = length-set s.spots d _ ∙ sound.spots;
        whole = sound.whole;
        full = λ e l is. ⊎_elim
            (λ (same : e ≡ d).
            full-by (is_input h.motion.order) (take n (drop h.motion.moved (moves_of h.motion))) h.motion.lease l
            (sym at_d ∙ (ap (leases_of (after_move d n s).spots) (sym same) ∙ is)) (λ k had. sound.full d k (was ∙ had)))
            (λ (ne : e ≢ d). sound.full e l (sym (other e ne) ∙ is))
            (cases_eq e d);
        inside = λ e l is. ⊎_elim
            (λ (same : e ≡ d).
            inside-by (is_input h.motion.order) (take n (drop h.motion.moved (moves_of h.motion))) h.motion.lease l (length s.cells)
            (sym at_d ∙ (ap (leases_of (after_move d n s).spots) (sym same) ∙ is)) (λ k had. sound.inside d k (was ∙ had)))
            (λ (ne : e ≢ d). sound.inside e l (sym (other e ne) ∙ is))
            (cases_eq e d);
        out = λ e g has. sound.out e g (sym (same_has e g) ∙ has);
        alone = λ e k g ne has. same_has k g ∙ sound.alone e k g ne (sym (same_has e g) ∙ has);
        held = λ g lt none. let found = sound.held g lt none in (found.0, same_has found.0 g ∙ found.1);
      }

-- the devices by number, with another progress for one
progress-at : (q : Part) (spots : List Spot) (d : ℕ) (y : Spot) → d < length spots → d < device_count → has_device q d ≡ true
    → by_number (own_progress q (set spots d y)) ≡ set (by_number (own_progress q spots)) d y.progress
progress-at q spots d y lt small has =
    ext_get_or new_progress _ _
    (length-numbers (own_progress q (set spots d y)) ∙ sym (length-set (by_number (own_progress q spots)) d y.progress ∙ length-numbers (own_progress q spots)))
    (λ i within.
    let i_lt : i < device_count = omega (arith, length-numbers (own_progress q (set spots d y))) in
    number_at (own_progress q (set spots d y)) i new_progress i_lt
    ∙ ⊎_elim
    (λ (same : i ≡ d).
    let d_lt : d < length (by_number (own_progress q spots)) = omega (arith, length-numbers (own_progress q spots)) in
    ap (own_progress q (set spots d y)) same
    ∙ ap (progress_in q d) (get_or-set_same spots d y no_spot lt)
    ∙ ap (λ b. cond b y.progress (left_in q.stints d)) has
    ∙ sym (ap (λ j. get_or (set (by_number (own_progress q spots)) d y.progress) j new_progress) same
    ∙ get_or-set_same (by_number (own_progress q spots)) d y.progress new_progress d_lt))
    (λ (ne : i ≢ d).
    ap (progress_in q i) (get_or-set_other spots d i y no_spot ne)
    ∙ sym (get_or-set_other (by_number (own_progress q spots)) d i y.progress new_progress ne ∙ number_at (own_progress q spots) i new_progress i_lt))
    (cases_eq i d))

-- the transfer on device d of program q ends
module _ (s : Shared) (q : Part) (d : ℕ) (h : Held) (sound : IsSound s) (small : d < device_count) (flies : (spot_at s.spots d).flight ≡ Some h)
    (is_of : IsFlightOf q d (spot_at s.spots d) h) where
  abbrev n : ℕ
  n = total_of h.motion

  abbrev mid : Shared
  mid = after_move d n s

  abbrev y : Spot
  y = ended_spot (spot_at s.spots d)

  y_is : y ≡ ended_by (spot_at s.spots d) (Some h)
  y_is = ap (ended_by (spot_at s.spots d)) flies

  gone : lease_held y.flight ≡ None
  gone = ap (λ (z : Spot). lease_held z.flight) y_is

  in_spots : d < length s.spots
  in_spots = let e = sound.spots in omega arith

  last_is : last_lease (spot_at s.spots d).flight ≡ leases_of mid.spots d
  unfolding moved_by
  last_is = ap last_lease flies ∙ sym (ap (λ ls. ls d) (leases_later s q d h n sound small flies is_of)
      ∙ with_lease_is d d (lease_by n h.motion) (leases_of s.spots) refl)

  pub end_is : after_end d s ≡ landed d y mid
  end_is =
      ap₂ (λ l ss. let z : Shared = record { cells = back_cells l s.cells; spots = ss } in z) last_is
      (sym (set-set s.spots d (moved_spot n (spot_at s.spots d)) y))

  mid_sound : IsSound mid
  mid_sound = sound-move s q d h n sound small flies is_of

  pub sound-end : IsSound (after_end d s)
  sound-end = subst IsSound (sym end_is) (sound-land mid d y mid_sound small gone)

  words_end : (r : Part) → own_words r.base r.size (after_end d s).cells (leases_of (after_end d s).spots) ≡ own_words r.base r.size mid.cells
      (leases_of mid.spots)
  words_end r = ap (λ (z : Shared). own_words r.base r.size z.cells (leases_of z.spots)) end_is ∙ land_words mid d y mid_sound small gone r.base r.size

  y_fixture : y.fixture ≡ (spot_at s.spots d).fixture
  y_fixture = ap (λ (z : Spot). z.fixture) y_is

  -- what is shown of the program
  pub end_own : (m : ℕ) → own_stock q m (after_end d s) ≡ stock q (own_claims q s) m
      (written (flight_moves q.base n h.motion) (own_words q.base q.size s.cells (leases_of s.spots)))
      (set (by_number (own_progress q s.spots)) d (ended_progress h.motion))
  end_own m =
      ap₂ (λ fs ws. stock q (claims q (by_number fs)) m ws (by_number (own_progress q (after_end d s).spots)))
      (fixtures-set q s.spots d y in_spots (λ has. y_fixture))
      (words_end q ∙ move_words_own s q d h n sound small flies is_of)
      ∙ ap (stock q (own_claims q s) m (written (flight_moves q.base n h.motion) (own_words q.base q.size s.cells (leases_of s.spots))))
      (progress-at q s.spots d y in_spots small is_of.its ∙ ap (λ (z : Spot). set (by_number (own_progress q s.spots)) d z.progress) y_is)

  -- and of another
  pub end_other : (m : ℕ) (r : Part) → (q.base + q.size ≤ r.base) ⊎ (r.base + r.size ≤ q.base) → has_device r d ≡ false
      → own_stock r m (after_end d s) ≡ own_stock r m s
  end_other m r apart not =
      ap₂ (λ fs ws. stock r (claims r (by_number fs)) m ws (by_number (own_progress r (after_end d s).spots)))
      (fixtures-set r s.spots d y in_spots (λ has. y_fixture))
      (words_end r ∙ move_words_other s q d h n sound small flies is_of r apart)
      ∙ ap (λ ps. stock r (own_claims r s) m (own_words r.base r.size s.cells (leases_of s.spots)) (by_number ps))
      (progress-set r s.spots d y in_spots (λ has. cc (sym not ∙ has)))

  pub length-end : length (after_end d s).cells ≡ length s.cells
  length-end = ap (λ (z : Shared). length z.cells) end_is ∙ length-back mid d y mid_sound small gone (leases_of mid.spots d) refl

  -- the groups of the lease are out, before and after the words have moved
  pub back-end : IsBack s.cells (last_lease (spot_at s.spots d).flight)
  back-end = subst (IsBack s.cells) (sym last_is) (back-lease mid d (leases_of mid.spots d) mid_sound refl)
