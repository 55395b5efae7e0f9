-- Words move, and transfers end: what is shown of the programs, and the groups.
use Rattle.std.specs.Option.{option_map}
use Rattle.std.proofs.Common.{◌≡◌, ◌≢◌, ℕ, ◌+◌, ◌-◌, ◌/◌, ◌<◌, ◌≤◌, ◌⊎◌, inl, inr, true, false, List, [], ◌∷◌, length, take, drop, Option, Some, None, is_some}
use Rattle.std.proofs.Common.{cond, refl, sym, ap, ap₂, ◌∙◌, subst, ⊎_elim, arith}
use Rattle.std.proofs.Math.Path.{fun_ext}
use Rattle.std.proofs.lemmas.Bool.{cases_Bool, cases_eq, and_from, le-leb, lt-ltb}
use Rattle.std.proofs.lemmas.List.{length-set}
use Rattle.kdf_lockout.specs.Groups.{Lent, with_lent_word, AreFull}
use Rattle.kdf_transfer.specs.AtOnce.{is_input, has_area, addressed}
use Rattle.kdf_transfer.specs.InFlight.{Motion, Covers, words_in_flight, moves_of, put_words, lease_by, moved_by}
use Rattle.kdf_transfer.proofs.Areas.{input_has}
use Rattle.kdf_transfer.proofs.Words.{few_words}
use Rattle.kdf_places.specs.Words.{own_words, has_group, with_lease}
use Rattle.kdf_transfer.specs.ByNumber.{device_count, by_number}
use Rattle.kdf_places.proofs.WordsHereAndOut.{with_lease_is, with_lease_other}
use Rattle.kdf_transfer.specs.AtOnce.{written}
use Rattle.kdf_places.specs.Spots.{Held, Spot, spot_at, lease_held, leases_of}
use Rattle.kdf_places.specs.Shared.{Shared, IsSound}
use Rattle.kdf_yard.specs.Fields.Parts.{Part, own_fixture, own_progress, own_claims, own_stock}
use Rattle.kdf_places.specs.Transfers.{moved_held, moved_spot, after_move, flight_moves}
use Rattle.kdf_yard.specs.Fields.Sound.{IsFlightOf}
use Rattle.kdf_yard.proofs.Physical.OrdersAct.{stock, claims, fixtures-set, progress-set}
use Rattle.kdf_places.proofs.GroupsKept.{leases-set}
use Rattle.kdf_places.proofs.WordsPut.{shift, AreWithin, within-drop, within-take, within-addressed, shift-addressed, shift-drop, shift-take, has-with}
use Rattle.kdf_places.proofs.WordsPut.{full-with, IsLentAlone, HasAll, puts_own, puts_other}

-- a lease after some words
pub has-put : (ms : List (ℕ × ℕ)) (l : Lent) (g : ℕ) → has_group (Some (put_words ms l)) g ≡ has_group (Some l) g
has-put [] l g = refl
has-put (m ∷ ms) l g = has-put ms (with_lent_word l m.0 m.1) g ∙ has-with l m.0 m.1 g

pub full-put : (ms : List (ℕ × ℕ)) (l : Lent) → AreFull l → AreFull (put_words ms l)
full-put [] l full = full
full-put (m ∷ ms) l full = full-put ms (with_lent_word l m.0 m.1) (full-with l m.0 m.1 full)

pub same-put : (ms : List (ℕ × ℕ)) (l : Lent) → ((put_words ms l).first ≡ l.first) × (length (put_words ms l).groups ≡ length l.groups)
same-put [] l = (refl, refl)
same-put (m ∷ ms) l = let h = same-put ms (with_lent_word l m.0 m.1) in (h.0, h.1 ∙ length-set l.groups (m.0 / 32 - l.first) _)

-- what is known of the lease of a flight
pub lent_alone : (s : Shared) (d : ℕ) (l : Lent) → IsSound s → leases_of s.spots d ≡ Some l → IsLentAlone s.cells d (leases_of s.spots) l
lent_alone s d l sound is =
    record {
      lent = is;
      full = sound.full d l is;
      out = λ g has. sound.out d g (ap (λ x. has_group x g) is ∙ has);
      alone = λ e g ne has. sound.alone d e g ne (ap (λ x. has_group x g) is ∙ has);
    }

pub covers_all : (l : Lent) (first last : ℕ) → Covers (Some l) first last → HasAll l first last
covers_all l first last h place low high =
    let at = h.first_group in
    let count = h.count in
    let rising = h.rising in
    let a : l.first ≤ place / 32 = omega arith in
    let b : place / 32 < l.first + length l.groups = omega arith in
    and_from _ _ (le-leb l.first (place / 32) a) (lt-ltb (place / 32) (l.first + length l.groups) b)

some_there : {X : Type 0} (o : Option X) → is_some o ≡ true → (x : X) × (o ≡ Some x)
some_there None h = cc
some_there (Some x) h = (x, refl)

-- words move in the flight on device d of program q
module _ (s : Shared) (q : Part) (d : ℕ) (h : Held) (n : ℕ) (sound : IsSound s) (small : d < device_count) (flies : (spot_at s.spots d).flight ≡ Some h)
    (is_of : IsFlightOf q d (spot_at s.spots d) h) where
  abbrev t : Motion
  t = h.motion

  abbrev x : Spot
  x = spot_at s.spots d

  abbrev moves : List (ℕ × ℕ)
  moves = take n (drop t.moved (addressed t.order (t.first - q.base) (t.last - q.base) (words_in_flight t)))

  inside : d < length s.spots
  inside = let e = sound.spots in omega arith

  lease_now : leases_of s.spots d ≡ t.lease
  lease_now = ap lease_held flies

  lease_then : lease_held (moved_spot n x).flight ≡ lease_by n t
  unfolding moved_by
  lease_then = ap (λ o. lease_held (moved_held n o)) flies

  pub leases_later : leases_of (after_move d n s).spots ≡ with_lease d (lease_by n t) (leases_of s.spots)
  leases_later = leases-set s.spots d (moved_spot n x) inside ∙ ap (λ l. with_lease d l (leases_of s.spots)) lease_then

  few : length (words_in_flight t) ≤ t.last + 1 - t.first
  few = few_words t.order t.first t.last t.lease t.fixture t.progress

  -- the moves, as they are in the store
  moves_are : has_area t.order ≡ true → take n (drop t.moved (moves_of t)) ≡ shift q.base moves
  moves_are has =
      let covers = is_of.covers has in
      let rising = covers.rising in
      let low = is_of.low has in
      let f : q.base + (t.first - q.base) ≡ t.first = omega arith in
      let l : q.base + (t.last - q.base) ≡ t.last = omega arith in
      let enough : length (words_in_flight t) ≤ t.last - q.base + 1 = omega (arith, few) in
      ap₂ (λ a b. take n (drop t.moved (addressed t.order a b (words_in_flight t)))) (sym f) (sym l)
      ∙ ap (λ ms. take n (drop t.moved ms)) (shift-addressed t.order q.base (t.first - q.base) (t.last - q.base) (words_in_flight t) enough)
      ∙ ap (take n) (shift-drop q.base t.moved (addressed t.order (t.first - q.base) (t.last - q.base) (words_in_flight t)))
      ∙ shift-take q.base n (drop t.moved (addressed t.order (t.first - q.base) (t.last - q.base) (words_in_flight t)))

  moves_within : has_area t.order ≡ true → AreWithin (t.first - q.base) (t.last - q.base) moves
  moves_within has =
      let covers = is_of.covers has in
      let rising = covers.rising in
      let low = is_of.low has in
      let enough : length (words_in_flight t) ≤ t.last - q.base + 1 - (t.first - q.base) = omega (arith, few) in
      within-take n (t.first - q.base) (t.last - q.base) (drop t.moved (addressed t.order (t.first - q.base) (t.last - q.base) (words_in_flight t)))
      (within-drop t.moved (t.first - q.base) (t.last - q.base) (addressed t.order (t.first - q.base) (t.last - q.base) (words_in_flight t))
      (within-addressed t.order (t.first - q.base) (t.last - q.base) (words_in_flight t) enough (omega arith)))

  -- where it is an input
  module _ (is : is_input t.order ≡ true) where
    has : has_area t.order ≡ true
    has = input_has t.order is

    abbrev there : (l : Lent) × (t.lease ≡ Some l)
    there = some_there t.lease (is_of.lease ∙ has)

    abbrev l : Lent
    l = there.0

    later_lease : lease_by n t ≡ Some (put_words (shift q.base moves) l)
    later_lease =
        ap (λ b. cond b (option_map (put_words (take n (drop t.moved (moves_of t)))) t.lease) t.lease) is
        ∙ ap₂ (λ ms o. option_map (put_words ms) o) (moves_are has) there.1

    lent : IsLentAlone s.cells d (leases_of s.spots) l
    lent = lent_alone s d l sound (lease_now ∙ there.1)

    all : HasAll l (q.base + (t.first - q.base)) (q.base + (t.last - q.base))
    all place a b =
        let covers = is_of.covers has in
        let rising = covers.rising in
        let low = is_of.low has in
        covers_all l t.first t.last (subst (λ o. Covers o t.first t.last) there.1 covers) place (omega arith) (omega arith)

    pub input_own : own_words q.base q.size s.cells (leases_of (after_move d n s).spots) ≡ written moves (own_words q.base q.size s.cells (leases_of s.spots))
    input_own =
        ap (own_words q.base q.size s.cells) (leases_later ∙ ap (λ k. with_lease d k (leases_of s.spots)) later_lease)
        ∙ puts_own s.cells d q.base q.size (t.first - q.base) (t.last - q.base) moves l (leases_of s.spots) small lent all (moves_within has)

    pub input_other : (r : Part) → (q.base + q.size ≤ r.base) ⊎ (r.base + r.size ≤ q.base)
        → own_words r.base r.size s.cells (leases_of (after_move d n s).spots) ≡ own_words r.base r.size s.cells (leases_of s.spots)
    input_other r apart =
        let covers = is_of.covers has in
        let rising = covers.rising in
        let low = is_of.low has in
        let high = is_of.high has in
        ap (own_words r.base r.size s.cells) (leases_later ∙ ap (λ k. with_lease d k (leases_of s.spots)) later_lease)
        ∙ puts_other s.cells d q.base (t.first - q.base) (t.last - q.base) r.base r.size moves l (leases_of s.spots) small lent all (moves_within has)
        (⊎_elim (λ (a : q.base + q.size ≤ r.base). inl (omega arith)) (λ (b : r.base + r.size ≤ q.base). inr (omega arith)) apart)

  -- where it is none, the leases stay
  other_leases : is_input t.order ≡ false → leases_of (after_move d n s).spots ≡ leases_of s.spots
  other_leases not =
      leases_later
      ∙ ap (λ b. with_lease d (cond b (option_map (put_words (take n (drop t.moved (moves_of t)))) t.lease) t.lease) (leases_of s.spots)) not
      ∙ fun_ext
      (λ e. ⊎_elim
      (λ (same : e ≡ d). with_lease_is e d t.lease (leases_of s.spots) same ∙ sym (ap (leases_of s.spots) same ∙ lease_now))
      (λ (ne : e ≢ d). with_lease_other e d t.lease (leases_of s.spots) ne)
      (cases_eq e d))

  -- the words of the program, and of another
  pub move_words_own : own_words q.base q.size s.cells (leases_of (after_move d n s).spots) ≡ written (flight_moves q.base n t)
      (own_words q.base q.size s.cells (leases_of s.spots))
  move_words_own =
      ⊎_elim
      (λ (is : is_input t.order ≡ true). input_own is ∙ sym (ap (λ b. written (cond b moves []) (own_words q.base q.size s.cells (leases_of s.spots))) is))
      (λ (not : is_input t.order ≡ false). ap (own_words q.base q.size s.cells) (other_leases not)
      ∙ sym (ap (λ b. written (cond b moves []) (own_words q.base q.size s.cells (leases_of s.spots))) not))
      (cases_Bool (is_input t.order))

  pub move_words_other : (r : Part) → (q.base + q.size ≤ r.base) ⊎ (r.base + r.size ≤ q.base)
      → own_words r.base r.size s.cells (leases_of (after_move d n s).spots) ≡ own_words r.base r.size s.cells (leases_of s.spots)
  move_words_other r apart =
      ⊎_elim
      (λ (is : is_input t.order ≡ true). input_other is r apart)
      (λ (not : is_input t.order ≡ false). ap (own_words r.base r.size s.cells) (other_leases not))
      (cases_Bool (is_input t.order))

  same_fixtures : (r : Part) → own_fixture r (after_move d n s).spots ≡ own_fixture r s.spots
  same_fixtures r = fixtures-set r s.spots d (moved_spot n x) inside (λ has. refl)

  same_progress : (r : Part) → own_progress r (after_move d n s).spots ≡ own_progress r s.spots
  same_progress r = progress-set r s.spots d (moved_spot n x) inside (λ has. refl)

  -- what is shown of the program after n words
  pub moves_own : (m : ℕ) → own_stock q m (after_move d n s) ≡ stock q (own_claims q s) m
      (written (flight_moves q.base n t) (own_words q.base q.size s.cells (leases_of s.spots))) (by_number (own_progress q s.spots))
  moves_own m =
      ap₂ (λ fs ws. stock q (claims q (by_number fs)) m ws (by_number (own_progress q (after_move d n s).spots))) (same_fixtures q) move_words_own
      ∙ ap (λ ps. stock q (own_claims q s) m (written (flight_moves q.base n t) (own_words q.base q.size s.cells (leases_of s.spots))) (by_number ps))
      (same_progress q)

  -- and of another
  pub moves_other : (m : ℕ) (r : Part) → (q.base + q.size ≤ r.base) ⊎ (r.base + r.size ≤ q.base) → own_stock r m (after_move d n s) ≡ own_stock r m s
  moves_other m r apart =
      ap₂ (λ fs ws. stock r (claims r (by_number fs)) m ws (by_number (own_progress r (after_move d n s).spots))) (same_fixtures r) (move_words_other r apart)
      ∙ ap (λ ps. stock r (own_claims r s) m (own_words r.base r.size s.cells (leases_of s.spots)) (by_number ps)) (same_progress r)
