-- Words that move are written to what is seen.
use Rattle.std.proofs.Common.{◌≡◌, ◌≢◌, ℕ, zero, suc, ◌+◌, ◌<◌, ◌≤◌, min, true, false, ◌||◌, eqb, List, [], ◌∷◌, length, get_or, set, take, drop, Option, Some}
use Rattle.std.proofs.Common.{cond, refl, sym, ap, ◌∙◌, subst, ⊎_elim, arith}
use Rattle.std.proofs.Math.Path.{fun_ext}
use Rattle.std.specs.List.{list_any}
use Rattle.std.proofs.lemmas.Bool.{or_right, cases_Bool, cases_eq, cases_lt, eq-eqb, ne_eqb}
use Rattle.std.proofs.lemmas.List.{get_or-set_same, get_or-set_other, length-set, drop_more, drop_all, take_all}
use Rattle.kdf_transfer.specs.AtOnce.{is_input, written}
use Rattle.kdf_transfer.specs.Devices.{DeviceProgress}
use Rattle.kdf_processor.specs.Needs.{group_of}
use Rattle.kdf_processor.specs.State.{State, word_at, device_at}
use Rattle.kdf_processor.proofs.AreaLemmas.{written_apart}
use Rattle.kdf_transfer.specs.ByNumber.{device_count}
use Rattle.kdf_theory.specs.Flights.{Flight, move_count, arrivals, unmoved, touches, with_flight, moved_to, with_moved}
use Rattle.kdf_theory.specs.Seen.{covers, seen_word, seen_device, seen, with_store}
use Rattle.kdf_theory.specs.Flying.{InFlight, IfFlight, AreFlying}
use Rattle.kdf_theory.proofs.Seen.WholeTransfers.{AreDistinct, distinct_arrivals, arrives_has_area, arrives_below, arrives_touches, arrivals_input}
use Rattle.kdf_theory.proofs.Seen.WholeTransfers.{arrivals_none, completed_store}
use Rattle.kdf_theory.proofs.Seen.SeenStates.{same_states, seen_word_at, seen_device_at, seen_size, seen_number, covers_touches}
use Rattle.kdf_theory.proofs.Seen.OrdersSeen.{with_flight_is, with_flight_other, look, look_apart, seen_word_alike}

-- ---- words with their addresses, no address standing twice

-- the next of them: its address and the word
abbrev pub next_word : ℕ → Flight → ℕ × ℕ
next_word d f = get_or (arrivals d f) f.moved (0, 0)

-- none of those after a word goes to its address
distinct_rest : (ms : List (ℕ × ℕ)) (n : ℕ) → AreDistinct ms → n < length ms → list_any (λ x. eqb x.0 (get_or ms n (0, 0)).0) (drop (n + 1) ms) ≡ false
distinct_rest [] n distinct lt = absurd (omega arith)
distinct_rest (m ∷ ms) zero distinct lt = distinct.0
distinct_rest (m ∷ ms) (suc n) distinct lt =
    let e : suc n + 1 ≡ suc (n + 1) = omega arith in
    subst (λ k. list_any (λ x. eqb x.0 (get_or ms n (0, 0)).0) (drop k (m ∷ ms)) ≡ false) (sym e) (distinct_rest ms n distinct.1 (omega arith))

-- what is written to an address
written_there : (ms : List (ℕ × ℕ)) (store : List ℕ) (n : ℕ) → AreDistinct ms → n < length ms → (get_or ms n (0, 0)).0 < length store
    → get_or (written ms store) (get_or ms n (0, 0)).0 0 ≡ (get_or ms n (0, 0)).1
written_there [] store n distinct lt inside = absurd (omega arith)
written_there (m ∷ ms) store zero distinct lt inside = written_apart ms (set store m.0 m.1) m.0 distinct.0 ∙ get_or-set_same store m.0 m.1 0 inside
written_there (m ∷ ms) store (suc n) distinct lt inside = written_there ms (set store m.0 m.1) n distinct.1 (omega arith) (rw length-set inside)

-- some word goes to the address of each
there : (ms : List (ℕ × ℕ)) (n : ℕ) → n < length ms → list_any (λ x. eqb x.0 (get_or ms n (0, 0)).0) ms ≡ true
there [] n lt = absurd (omega arith)
there (m ∷ ms) zero lt = ap (λ b. b || list_any (λ x. eqb x.0 m.0) ms) (eq-eqb m.0 m.0 refl)
there (m ∷ ms) (suc n) lt = or_right _ _ (there ms n (omega arith))

-- ---- one word

-- a word that no other transfer touches, and this one doesn't cover, is seen as it is
seen_alone : (n d : ℕ) (flights : ℕ → Option Flight) (a w : ℕ) → ((e : ℕ) → e ≢ d → touches (flights e) (group_of a) ≡ false) → covers d (flights d) a ≡ false
    → seen_word n flights a w ≡ w
seen_alone zero d flights a w others this = refl
seen_alone (suc n) d flights a w others this =
    look_apart n (flights n) a _
    (⊎_elim (λ (same : n ≡ d). subst (λ x. covers x (flights x) a ≡ false) (sym same) this) (λ (ne : n ≢ d). covers_touches n (flights n) a (others n ne))
    (cases_eq n d))
    ∙ seen_alone n d flights a w others this

-- moving one more word writes it to what is seen
module _ (flights : ℕ → Option Flight) (s : State) (d : ℕ) (f : Flight) (this : flights d ≡ Some f) (flying : AreFlying flights s)
    (more : f.moved < length (arrivals d f)) where
  flight : InFlight s d f
  flight = subst (IfFlight s d) this (flying.each d)

  place : list_any (λ m. eqb m.0 (next_word d f).0) (arrivals d f) ≡ true
  place = there (arrivals d f) f.moved more

  inside : (next_word d f).0 < length s.stock.store
  inside = let high = arrives_below d f _ place in let within = (flight.area (arrives_has_area d f _ place)).inside in omega arith

  value : word_at s (next_word d f).0 ≡ (next_word d f).1
  value =
      flight.words (next_word d f).0 (arrives_touches d f _ place)
      ∙ ap (λ ws. get_or ws (next_word d f).0 0) (completed_store d f)
      ∙ written_there (arrivals d f) f.before.stock.store f.moved (distinct_arrivals d f) more (rw (← flight.size) inside)

  others : (e : ℕ) → e ≢ d → touches (with_moved d (f.moved + 1) f flights e) (group_of (next_word d f).0) ≡ false
  others e ne =
      ap (λ g. touches g (group_of (next_word d f).0)) (with_flight_other d e (Some (moved_to (f.moved + 1) f)) flights ne)
      ∙ flying.apart d e (group_of (next_word d f).0) (λ x. ne (sym x)) (ap (λ g. touches g (group_of (next_word d f).0)) this ∙ arrives_touches d f _ place)

  arrived : covers d (with_moved d (f.moved + 1) f flights d) (next_word d f).0 ≡ false
  arrived = ap (λ g. covers d g (next_word d f).0) (with_flight_is d d (Some (moved_to (f.moved + 1) f)) flights refl)
      ∙ distinct_rest (arrivals d f) f.moved (distinct_arrivals d f) more

  kept : (a : ℕ) → a ≢ (next_word d f).0 → covers d (Some (moved_to (f.moved + 1) f)) a ≡ covers d (Some f) a
  kept a ne =
      sym (ap (list_any (λ m. eqb m.0 a)) (drop_more (arrivals d f) f.moved (0, 0) more)
      ∙ ap (λ b. b || list_any (λ m. eqb m.0 a) (drop (f.moved + 1) (arrivals d f))) (ne_eqb (next_word d f).0 a (λ e. ne (sym e))))

  move_seen : seen (with_moved d (f.moved + 1) f flights) s ≡ with_store (seen flights s) (set (seen flights s).stock.store (next_word d f).0 (next_word d f).1)
  move_seen =
      same_states _ _ (record { registers = refl; claims = refl; spooled = refl; asked = refl; stints = refl })
      (seen_size (with_moved d (f.moved + 1) f flights) s ∙ sym (seen_size flights s)
      ∙ sym (length-set (seen flights s).stock.store (next_word d f).0 (next_word d f).1))
      (seen_number (with_moved d (f.moved + 1) f flights) s ∙ sym (seen_number flights s))
      (λ a lt.
      let within : a < length s.stock.store = omega (arith, seen_size (with_moved d (f.moved + 1) f flights) s) in
      seen_word_at (with_moved d (f.moved + 1) f flights) s a within ∙ word a within)
      (λ x lt.
      let within : x < length s.stock.devices = omega (arith, seen_number (with_moved d (f.moved + 1) f flights) s) in
      seen_device_at (with_moved d (f.moved + 1) f flights) s x within ∙ device x ∙ sym (seen_device_at flights s x within))
    where
      word : (a : ℕ) → a < length s.stock.store → seen_word device_count (with_moved d (f.moved + 1) f flights) a (word_at s a)
          ≡ get_or (set (seen flights s).stock.store (next_word d f).0 (next_word d f).1) a 0
      word a within =
          ⊎_elim
          (λ (same : a ≡ (next_word d f).0).
          let within' : (next_word d f).0 < length (seen flights s).stock.store = omega (arith, seen_size flights s, inside) in
          ap (λ b. seen_word device_count (with_moved d (f.moved + 1) f flights) b (word_at s b)) same
          ∙ seen_alone device_count d (with_moved d (f.moved + 1) f flights) (next_word d f).0 (word_at s (next_word d f).0) others arrived
          ∙ value
          ∙ sym (get_or-set_same (seen flights s).stock.store (next_word d f).0 (next_word d f).1 0 within')
          ∙ sym (ap (λ b. get_or (set (seen flights s).stock.store (next_word d f).0 (next_word d f).1) b 0) same))
          (λ (ne : a ≢ (next_word d f).0).
          seen_word_alike device_count (with_moved d (f.moved + 1) f flights) flights a (word_at s a)
          (λ e x. ⊎_elim
          (λ (at_d : e ≡ d).
          ap (λ g. look e g a x) (with_flight_is e d (Some (moved_to (f.moved + 1) f)) flights at_d)
          ∙ ap (λ b. cond b (word_at f.before a) x) (rw (← at_d) at (kept a ne))
          ∙ sym (ap (λ g. look e g a x) (ap flights at_d ∙ this)))
          (λ (ne' : e ≢ d). ap (λ g. look e g a x) (with_flight_other d e (Some (moved_to (f.moved + 1) f)) flights ne'))
          (cases_eq e d))
          ∙ sym (seen_word_at flights s a within)
          ∙ sym (get_or-set_other (seen flights s).stock.store (next_word d f).0 a (next_word d f).1 0 ne))
          (cases_eq a (next_word d f).0)

      device : (x : ℕ) → seen_device (with_moved d (f.moved + 1) f flights x) x (device_at s x) ≡ seen_device (flights x) x (device_at s x)
      device x =
          ⊎_elim
          (λ (at_d : x ≡ d).
          ap (λ g. seen_device g x (device_at s x)) (with_flight_is x d (Some (moved_to (f.moved + 1) f)) flights at_d)
          ∙ sym (ap (λ g. seen_device g x (device_at s x)) (ap flights at_d ∙ this)))
          (λ (ne : x ≢ d). ap (λ g. seen_device g x (device_at s x)) (with_flight_other d x (Some (moved_to (f.moved + 1) f)) flights ne))
          (cases_eq x d)

-- ---- transfers stay in flight whose words move

-- how many words were moved doesn't matter to where they are
flight_moved : (s : State) (d n : ℕ) (f : Flight) → n ≤ move_count d f → InFlight s d f → InFlight s d (moved_to n f)
flight_moved s d n f le h =
    record { claimed = h.claimed; fixture = h.fixture; size = h.size; area = h.area; moved = le; words = h.words; device = h.device }

pub flying_moved : (flights : ℕ → Option Flight) (s : State) (d n : ℕ) (f : Flight) → flights d ≡ Some f → n ≤ move_count d f → AreFlying flights s
    → AreFlying (with_moved d n f flights) s
flying_moved flights s d n f this le flying =
    record {
      sized = flying.sized;
      each = λ x.
          ⊎_elim
          (λ (same : x ≡ d).
          subst (IfFlight s x) (sym (with_flight_is x d (Some (moved_to n f)) flights same))
          (subst (λ y. InFlight s y (moved_to n f)) (sym same) (flight_moved s d n f le (subst (IfFlight s d) this (flying.each d)))))
          (λ (other : x ≢ d). subst (IfFlight s x) (sym (with_flight_other d x (Some (moved_to n f)) flights other)) (flying.each x))
          (cases_eq x d);
      apart = λ x y g ne is. same_touches y g ∙ flying.apart x y g ne (sym (same_touches x g) ∙ is);
    }
  where
    same_touches : (x g : ℕ) → touches (with_moved d n f flights x) g ≡ touches (flights x) g
    same_touches x g =
        ⊎_elim
        (λ (same : x ≡ d).
        ap (λ z. touches z g) (with_flight_is x d (Some (moved_to n f)) flights same)
        ∙ sym (ap (λ z. touches z g) (ap flights same ∙ this)))
        (λ (other : x ≢ d). ap (λ z. touches z g) (with_flight_other d x (Some (moved_to n f)) flights other))
        (cases_eq x d)

-- ---- many words

-- a transfer put in place of another on its device
with_flight_twice : (d : ℕ) (f g : Option Flight) (flights : ℕ → Option Flight) → with_flight d f (with_flight d g flights) ≡ with_flight d f flights
with_flight_twice d f g flights =
    fun_ext (λ x. ⊎_elim
    (λ (same : x ≡ d). with_flight_is x d f (with_flight d g flights) same ∙ sym (with_flight_is x d f flights same))
    (λ (other : x ≢ d). with_flight_other d x f (with_flight d g flights) other ∙ with_flight_other d x g flights other
    ∙ sym (with_flight_other d x f flights other))
    (cases_eq x d))

pub with_flight_itself : (d : ℕ) (f : Option Flight) (flights : ℕ → Option Flight) → flights d ≡ f → with_flight d f flights ≡ flights
with_flight_itself d f flights this =
    fun_ext (λ x. ⊎_elim
    (λ (same : x ≡ d). with_flight_is x d f flights same ∙ sym (ap flights same ∙ this))
    (λ (other : x ≢ d). with_flight_other d x f flights other)
    (cases_eq x d))

pub few_arrivals : (d : ℕ) (f : Flight) → length (arrivals d f) ≤ move_count d f
few_arrivals d f =
    ⊎_elim
    (λ (is : is_input f.order ≡ true). omega (arith, ap length (arrivals_input d f is)))
    (λ (not : is_input f.order ≡ false). omega (arith, ap length (arrivals_none d f not)))
    (cases_Bool (is_input f.order))

-- moving n more words that arrive, or those that are left
pub arrivals_seen : (n : ℕ) (flights : ℕ → Option Flight) (s : State) (d : ℕ) (f : Flight) → flights d ≡ Some f → AreFlying flights s
    → f.moved ≤ length (arrivals d f) → seen (with_moved d (min (f.moved + n) (length (arrivals d f))) f flights) s ≡ with_store (seen flights s)
    (written (take n (unmoved d f)) (seen flights s).stock.store)
arrivals_seen zero flights s d f this flying le =
    let e : min (f.moved + zero) (length (arrivals d f)) ≡ f.moved = omega arith in
    ap (λ k. seen (with_moved d k f flights) s) e ∙ ap (λ fs. seen fs s) (with_flight_itself d (Some f) flights this)
arrivals_seen (suc n) flights s d f this flying le =
    ⊎_elim
    (λ (more : f.moved < length (arrivals d f)).
    let e : min (f.moved + suc n) (length (arrivals d f)) ≡ min (f.moved + 1 + n) (length (arrivals d f)) = omega arith in
    let few : f.moved + 1 ≤ move_count d f = omega (arith, few_arrivals d f) in
    ap (λ k. seen (with_moved d k f flights) s) e
    ∙ ap (λ fs. seen fs s) (sym (with_flight_twice d (Some (moved_to (min (f.moved + 1 + n) (length (arrivals d f))) f)) (Some (moved_to (f.moved + 1) f))
    flights))
    ∙ arrivals_seen n (with_moved d (f.moved + 1) f flights) s d (moved_to (f.moved + 1) f) (with_flight_is d d (Some (moved_to (f.moved + 1) f)) flights refl)
    (flying_moved flights s d (f.moved + 1) f this few flying) (omega arith)
    ∙ ap (λ (t : State). with_store t (written (take n (drop (f.moved + 1) (arrivals d f))) t.stock.store)) (move_seen flights s d f this flying more)
    ∙ ap (λ ms. with_store (seen flights s) (written (take (suc n) ms) (seen flights s).stock.store)) (sym (drop_more (arrivals d f) f.moved (0, 0) more)))
    (λ (past : length (arrivals d f) ≤ f.moved).
    let e : min (f.moved + suc n) (length (arrivals d f)) ≡ f.moved = omega arith in
    ap (λ k. seen (with_moved d k f flights) s) e
    ∙ ap (λ fs. seen fs s) (with_flight_itself d (Some f) flights this)
    ∙ ap (λ ms. with_store (seen flights s) (written (take (suc n) ms) (seen flights s).stock.store)) (sym (drop_all f.moved (arrivals d f) past)))
    (cases_lt f.moved (length (arrivals d f)))

-- transfers that show the same
pub seen_alike : (fs gs : ℕ → Option Flight) (s : State) → ((a d x : ℕ) → look d (fs d) a x ≡ look d (gs d) a x)
    → ((d : ℕ) (p : DeviceProgress) → seen_device (fs d) d p ≡ seen_device (gs d) d p) → seen fs s ≡ seen gs s
seen_alike fs gs s words devices =
    same_states _ _ (record { registers = refl; claims = refl; spooled = refl; asked = refl; stints = refl })
    (seen_size fs s ∙ sym (seen_size gs s))
    (seen_number fs s ∙ sym (seen_number gs s))
    (λ a lt.
    let within : a < length s.stock.store = omega (arith, seen_size fs s) in
    seen_word_at fs s a within ∙ seen_word_alike device_count fs gs a (word_at s a) (words a) ∙ sym (seen_word_at gs s a within))
    (λ d lt.
    let within : d < length s.stock.devices = omega (arith, seen_number fs s) in
    seen_device_at fs s d within ∙ devices d (device_at s d) ∙ sym (seen_device_at gs s d within))

-- once all words have arrived, the count doesn't matter
stale : (flights : ℕ → Option Flight) (s : State) (d k : ℕ) (f : Flight) → flights d ≡ Some f → length (arrivals d f) ≤ f.moved → length (arrivals d f) ≤ k
    → seen (with_moved d k f flights) s ≡ seen flights s
stale flights s d k f this all more =
    seen_alike (with_moved d k f flights) flights s
    (λ a e x. ⊎_elim
    (λ (same : e ≡ d).
    ap (λ g. look e g a x) (with_flight_is e d (Some (moved_to k f)) flights same)
    ∙ look_apart e (Some (moved_to k f)) a x
    (subst (λ y. covers y (Some (moved_to k f)) a ≡ false) (sym same) (ap (list_any (λ m. eqb m.0 a)) (drop_all k (arrivals d f) more)))
    ∙ sym (ap (λ g. look e g a x) (ap flights same ∙ this)
    ∙ look_apart e (Some f) a x (subst (λ y. covers y (Some f) a ≡ false) (sym same) (ap (list_any (λ m. eqb m.0 a)) (drop_all f.moved (arrivals d f) all)))))
    (λ (other : e ≢ d). ap (λ g. look e g a x) (with_flight_other d e (Some (moved_to k f)) flights other))
    (cases_eq e d))
    (λ e p. ⊎_elim
    (λ (same : e ≡ d).
    ap (λ g. seen_device g e p) (with_flight_is e d (Some (moved_to k f)) flights same) ∙ sym (ap (λ g. seen_device g e p) (ap flights same ∙ this)))
    (λ (other : e ≢ d). ap (λ g. seen_device g e p) (with_flight_other d e (Some (moved_to k f)) flights other))
    (cases_eq e d))

-- moving n more words of a transfer of any order, or those that are left
pub moves_seen : (n : ℕ) (flights : ℕ → Option Flight) (s : State) (d : ℕ) (f : Flight) → flights d ≡ Some f → AreFlying flights s
    → seen (with_moved d (min (f.moved + n) (move_count d f)) f flights) s ≡ with_store (seen flights s)
    (written (take n (unmoved d f)) (seen flights s).stock.store)
moves_seen n flights s d f this flying =
    let here : InFlight s d f = subst (IfFlight s d) this (flying.each d) in
    let le = here.moved in
    ⊎_elim
    (λ (is : is_input f.order ≡ true).
    let total : move_count d f ≡ length (arrivals d f) = sym (ap length (arrivals_input d f is)) in
    ap (λ t. seen (with_moved d (min (f.moved + n) t) f flights) s) total ∙ arrivals_seen n flights s d f this flying (omega arith))
    (λ (not : is_input f.order ≡ false).
    let none = arrivals_none d f not in
    let no_words : length (arrivals d f) ≡ 0 = ap length none in
    stale flights s d (min (f.moved + n) (move_count d f)) f this (omega arith) (omega arith)
    ∙ ap (λ ms. with_store (seen flights s) (written ms (seen flights s).stock.store))
    (sym (ap (take n) (drop_all f.moved (arrivals d f) (omega arith)) ∙ take_all n [] (omega arith))))
    (cases_Bool (is_input f.order))
