-- The links of transfers with what the journal tells, as words move and transfers end.
use Rattle.std.proofs.Common.{◌≡◌, ◌≢◌, ℕ, zero, suc, ◌+◌, ◌-◌, ◌<◌, ◌≤◌, min, Bool, true, false, List, [], length, set, take, drop, Option, Some, None, cond}
use Rattle.std.proofs.Common.{refl, sym, ap, ap₂, ◌∙◌, subst, ⊎_elim, arith}
use Rattle.std.specs.Option.{option_map}
use Rattle.std.proofs.lemmas.Bool.{cases_Bool, cases_eq}
use Rattle.std.proofs.lemmas.List.{get_or-set_same, get_or-set_other, take_all, length-drop}
use Rattle.kdf_journal.specs.declared.entry.Entry.{Entry}
use Rattle.kdf_journal.specs.Counts.{answers}
use Rattle.kdf_journal.specs.Steps.{JournalStep, Moves, Ends, added}
use Rattle.kdf_transfer.specs.declared.order.TransferOrder.{TransferOrder}
use Rattle.kdf_transfer.specs.AtOnce.{is_input, is_output, has_area, given, offered, stopped, moved_words, finished, area_len, words_out, device_after}
use Rattle.kdf_transfer.specs.AtOnce.{addressed, order_words, written}
use Rattle.kdf_transfer.specs.Devices.{Fixture, DeviceProgress, new_progress}
use Rattle.kdf_transfer.specs.InFlight.{Motion, put_words, moves_of, all_words, area_words, words_in_flight, total_of, moved_by, ended_progress}
use Rattle.kdf_transfer.proofs.Addresses.{length-addressed}
use Rattle.kdf_word.specs.Characters.{codes_of_all}
use Rattle.kdf_processor.specs.Row.{transferred}
use Rattle.kdf_transfer.specs.Slots.{Slot}
use Rattle.kdf_processor.specs.State.{State, device_at, device_in}
use Rattle.kdf_theory.specs.Flights.{Flight, moves_on, all_moves, arrivals, move_count, unmoved, completed, moved_to, with_flight}
use Rattle.kdf_theory.specs.Seen.{seen, with_both, with_store}
use Rattle.kdf_theory.specs.ByJournal.{flights_of, further, own, seen_of}
use Rattle.kdf_places.specs.Spots.{Held, Spot, no_spot, spot_at}
use Rattle.kdf_yard.specs.Fields.Parts.{Part}
use Rattle.kdf_places.specs.Shared.{Shared}
use Rattle.kdf_places.specs.Transfers.{flight_moves, moved_held, moved_spot, after_move, ended_by, ended_spot, after_end}
use Rattle.kdf_yard.specs.Fields.Running.{moved_own, ended_own}
use Rattle.kdf_director.specs.Fields.Following.{IsLink, Linked, IsFollowing}
use Rattle.kdf_theory.proofs.Seen.OrdersSeen.{with_flight_is, with_flight_other}
use Rattle.kdf_theory.proofs.Seen.WholeTransfers.{arrivals_input, arrivals_none}
use Rattle.kdf_theory.proofs.Course.FlightsAdded.{flights-end, flights-move}
use Rattle.kdf_yard.proofs.Turns.FlightsMove.{chosen, passed}
use Rattle.kdf_theory.proofs.Course.FlightsOnCourse.{IsOnCourse}
use Rattle.kdf_theory.proofs.Course.OwnSteps.{own-same}
use Rattle.kdf_theory.proofs.Course.SeenJournals.{end-none, end-seen, move-none, move-seen}

-- ---- links

-- the flight of a transfer of the program's own
pub linked_own : (q : Part) (d : ℕ) (h : Held) (o : Option Flight) → h.p ≡ q.p → Linked q d (Some h) o → (f : Flight) × (o ≡ Some f) × IsLink q d h f
linked_own q d h None same link = absurd (link same)
linked_own q d h (Some f) same link = (f, refl, link)

-- another program's transfer
pub linked_other : (q : Part) (d : ℕ) (h : Held) (o : Option Flight) → h.p ≢ q.p → Linked q d (Some h) o → o ≡ None
linked_other q d h None ne link = refl
linked_other q d h (Some f) ne link = absurd (ne link.owner)

pub linked_none : (q : Part) (d : ℕ) (o : Option Flight) → Linked q d None o → o ≡ None
linked_none q d None link = refl
linked_none q d (Some f) link = absurd link

-- one spot is another
pub linked_set : (q : Part) (spots : List Spot) (d : ℕ) (x : Spot) (fs gs : ℕ → Option Flight) → d < length spots
    → ((e : ℕ) → Linked q e (spot_at spots e).flight (fs e)) → ((e : ℕ) → e ≢ d → gs e ≡ fs e) → Linked q d x.flight (gs d) → (e : ℕ)
    → Linked q e (spot_at (set spots d x) e).flight (gs e)
linked_set q spots d x fs gs lt old others this e =
    ⊎_elim
    (λ (same : e ≡ d).
    subst (λ k. Linked q k (spot_at (set spots d x) k).flight (gs k)) (sym same)
    (subst (λ (y : Spot). Linked q d y.flight (gs d)) (sym (get_or-set_same spots d x no_spot lt)) this))
    (λ (ne : e ≢ d).
    subst (λ (y : Spot). Linked q e y.flight (gs e)) (sym (get_or-set_other spots d e x no_spot ne))
    (subst (Linked q e (spot_at spots e).flight) (sym (others e ne)) (old e)))
    (cases_eq e d)

-- ---- the words of a transfer are those of its flight

-- what is offered over an area that is placed
offered_placed : (o : TransferOrder) (base first last : ℕ) (ws us : List ℕ) (x : Fixture) (p : DeviceProgress) → (is_input o ≡ false → ws ≡ us)
    → offered o (base + first) (base + last) ws x p ≡ offered o first last us x p
unfolding offered
offered_placed o base first last ws us x p same =
    let count : base + last + 1 - (base + first) ≡ last + 1 - first = omega arith in
    ap (λ n. cond (is_input o) (take n (given o x p)) (cond (is_output o) ws [])) count
    ∙ ⊎_elim
    (λ (is : is_input o ≡ true).
    ap (λ b. cond b (take (last + 1 - first) (given o x p)) (cond (is_output o) ws [])) is
    ∙ sym (ap (λ b. cond b (take (last + 1 - first) (given o x p)) (cond (is_output o) us [])) is))
    (λ (not : is_input o ≡ false). ap (λ zs. cond (is_input o) (take (last + 1 - first) (given o x p)) (cond (is_output o) zs [])) (same not))
    (cases_Bool (is_input o))

module _ (q : Part) (d : ℕ) (h : Held) (f : Flight) (link : IsLink q d h f) where
  abbrev m : Motion
  m = h.motion

  abbrev us : List ℕ
  us = order_words f.order f.first f.last f.before.stock.store

  abbrev ws : List ℕ
  ws = area_words m.order m.first m.last m.lease

  words_are : words_in_flight m ≡ moved_words f.order f.first f.last us m.fixture (device_at f.before d)
  unfolding all_words
  words_are =
      ap (λ o. moved_words o m.first m.last ws m.fixture m.progress) link.order
      ∙ ap₂ (λ a b. moved_words f.order a b ws m.fixture m.progress) link.first link.last
      ∙ ap (stopped f.order) (offered_placed f.order q.base f.first f.last ws us m.fixture m.progress link.words)
      ∙ ap (moved_words f.order f.first f.last us m.fixture) (sym link.progress)

  pub all_are : all_moves d f ≡ addressed f.order f.first f.last (words_in_flight m)
  all_are = ap (moves_on d f) link.fixture ∙ ap (addressed f.order f.first f.last) (sym words_are)

  pub count_is : move_count d f ≡ total_of m
  count_is = ap length all_are ∙ length-addressed f.order f.first f.last (words_in_flight m)

  pub moves_are : (n : ℕ) → flight_moves q.base n m ≡ take n (unmoved d f)
  moves_are n =
      let first = link.first in
      let last = link.last in
      let low : m.first - q.base ≡ f.first = omega arith in
      let high : m.last - q.base ≡ f.last = omega arith in
      ap (λ b. cond b (take n (drop m.moved (addressed m.order (m.first - q.base) (m.last - q.base) (words_in_flight m)))) []) (ap is_input link.order)
      ∙ ap₂ (λ x y. cond (is_input f.order) (take n (drop m.moved (addressed m.order x y (words_in_flight m)))) []) low high
      ∙ ap₂ (λ x o. cond (is_input f.order) (take n (drop x (addressed o f.first f.last (words_in_flight m)))) []) link.moved link.order
      ∙ ap (λ ms. cond (is_input f.order) (take n (drop f.moved ms)) []) (sym all_are)
      ∙ at_input (is_input f.order)
    where
      drop_none : (k : ℕ) → [] ≡ take n (drop k (let none : List (ℕ × ℕ) = [] in none))
      drop_none k = sym (take_all n (drop k []) (let e = length-drop k (let none : List (ℕ × ℕ) = [] in none) in omega arith) ∙ nil_drop k)
        where
          nil_drop : (k : ℕ) → drop k (let none : List (ℕ × ℕ) = [] in none) ≡ []
          nil_drop zero = refl
          nil_drop (suc k) = refl

      at_input : (b : Bool) → cond b (take n (drop f.moved (all_moves d f))) [] ≡ take n (drop f.moved (cond b (all_moves d f) []))
      at_input true = refl
      at_input false = drop_none f.moved

  pub rest_is : flight_moves q.base (total_of m) m ≡ unmoved d f
  rest_is =
      let count = count_is in
      moves_are (total_of m)
      ∙ take_all (total_of m) (unmoved d f) (⊎_elim
      (λ (is : is_input f.order ≡ true).
      let left : length (unmoved d f) ≤ length (all_moves d f) =
      (let e = ap length (arrivals_input d f is) in let l = length-drop f.moved (arrivals d f) in omega arith) in
      omega arith)
      (λ (not : is_input f.order ≡ false).
      let e = ap length (arrivals_none d f not) in
      let l = length-drop f.moved (arrivals d f) in
      omega arith)
      (cases_Bool (is_input f.order)))

  -- how the device stands after the transfer
  pub ended_is : ended_progress m ≡ device_in (completed d f) d
  ended_is =
      ap (λ o. device_after o m.first m.last ws m.fixture m.progress) link.order
      ∙ ap₂ (λ a b. device_after f.order a b ws m.fixture m.progress) link.first link.last
      ∙ ap₂ (λ n zs. finished f.order n (codes_of_all zs) m.fixture m.progress) len out
      ∙ ap (device_after f.order f.first f.last us m.fixture) (sym link.progress)
      ∙ sym (ap (λ x. device_in (transferred d f.order f.first f.last x f.before.stock) d) link.fixture
      ∙ get_or-set_same f.before.stock.devices d (device_after f.order f.first f.last us m.fixture (device_at f.before d)) new_progress link.there)
    where
      len : area_len f.order (q.base + f.first) (q.base + f.last) ≡ area_len f.order f.first f.last
      len = let count : q.base + f.last + 1 - (q.base + f.first) ≡ f.last + 1 - f.first = omega arith in ap (λ n. cond (has_area f.order) n 0) count

      out : words_out f.order ws ≡ words_out f.order us
      out =
          ⊎_elim
          (λ (is : is_input f.order ≡ true).
          ap (λ b. cond b [] (stopped f.order (cond (is_output f.order) ws []))) is
          ∙ sym (ap (λ b. cond b [] (stopped f.order (cond (is_output f.order) us []))) is))
          (λ (not : is_input f.order ≡ false). ap (words_out f.order) (link.words not))
          (cases_Bool (is_input f.order))

-- the link of a transfer after n words more
pub link_moved : (q : Part) (d n : ℕ) (h : Held) (f : Flight) → IsLink q d h f
    → IsLink q d (record { p = h.p; motion = moved_by n h.motion }) (moved_to (min (f.moved + n) (move_count d f)) f)
unfolding moved_by
link_moved q d n h f link =
    record {
      owner = link.owner;
      order = link.order;
      first = link.first;
      last = link.last;
      fixture = link.fixture;
      there = link.there;
      progress = link.progress;
      moved = ap₂ (λ x t. min (x + n) t) link.moved (sym (count_is q d h f link));
      words = λ not.
          ap (λ b. area_words h.motion.order h.motion.first h.motion.last
          (cond b (option_map (put_words (take n (drop h.motion.moved (moves_of h.motion)))) h.motion.lease) h.motion.lease)) (ap is_input link.order ∙ not)
          ∙ link.words not;
    }

-- ---- one program
module _ (slots : List Slot) (J : List Entry) (q : Part) (mine : State) (s : Shared) (d : ℕ) (asked : (own slots J q.p).stock.asked ≡ length (answers q.p J))
    (course : IsOnCourse slots J q.p) (fol : IsFollowing slots J q mine s) (lt : d < length s.spots) where
  abbrev fs : ℕ → Option Flight
  fs = flights_of slots J q.p

  -- the journal after a step that changes nothing of the program
  same_seen : (st : JournalStep) → own slots (added J st) q.p ≡ own slots J q.p → flights_of slots (added J st) q.p ≡ fs → mine ≡ seen_of slots (added J st) q.p
  same_seen st o f = fol.is_seen ∙ sym (ap₂ seen f o)

  -- where the transfer isn't the program's, or there is none
  keep : (st : JournalStep) (s' : Shared) (x : Spot) → own slots (added J st) q.p ≡ own slots J q.p → flights_of slots (added J st) q.p ≡ fs → fs d ≡ None
      → s'.spots ≡ set s.spots d x → Linked q d x.flight None → IsFollowing slots (added J st) q mine s'
  keep st s' x o f idle is this =
      record {
        is_seen = same_seen st o f;
        linked = subst (λ ss. (e : ℕ) → Linked q e (spot_at ss e).flight (flights_of slots (added J st) q.p e)) (sym is)
            (subst (λ gs. (e : ℕ) → Linked q e (spot_at (set s.spots d x) e).flight (gs e)) (sym f)
            (linked_set q s.spots d x fs fs lt fol.linked (λ e ne. refl) (subst (Linked q d x.flight) (sym idle) this)));
      }

  module _ (h : Held) (flies : (spot_at s.spots d).flight ≡ Some h) where
    link : Linked q d (Some h) (fs d)
    link = subst (λ o. Linked q d o (fs d)) flies (fol.linked d)

    module _ (f : Flight) (this : fs d ≡ Some f) (is : IsLink q d h f) where
      -- n words of it
      own_moved : (n : ℕ) → IsFollowing slots (added J (Moves d n)) q (with_store mine (written (flight_moves q.base n h.motion) mine.stock.store))
          (after_move d n s)
      own_moved n =
          record {
            is_seen =
                ap (λ (x : State). with_store x (written (flight_moves q.base n h.motion) x.stock.store)) fol.is_seen
                ∙ ap (λ ms. with_store (seen_of slots J q.p) (written ms (seen_of slots J q.p).stock.store)) (moves_are q d h f is n)
                ∙ sym (move-seen slots J q.p asked course d n f this);
            linked =
                subst (λ gs. (e : ℕ) → Linked q e (spot_at (after_move d n s).spots e).flight (gs e)) (sym then)
                (linked_set q s.spots d (moved_spot n (spot_at s.spots d)) fs (with_flight d (Some to) fs) lt fol.linked
                (λ e ne. with_flight_other d e (Some to) fs ne)
                (subst (λ o. Linked q d (moved_held n o) (with_flight d (Some to) fs d)) (sym flies)
                (subst (Linked q d (moved_held n (Some h))) (sym (with_flight_is d d (Some to) fs refl)) (link_moved q d n h f is))));
          }
        where
          to : Flight
          to = moved_to (min (f.moved + n) (move_count d f)) f

          then : flights_of slots (added J (Moves d n)) q.p ≡ with_flight d (Some to) fs
          then = flights-move slots J q.p asked course.past d n ∙ ap (λ g. with_flight d (further d n g) fs) this

      -- its end
      own_ended : IsFollowing slots (added J (Ends d)) q (with_both mine (written (flight_moves q.base (total_of h.motion) h.motion) mine.stock.store)
          (set mine.stock.devices d (ended_progress h.motion))) (after_end d s)
      own_ended =
          record {
            is_seen =
                ap (λ (x : State). with_both x (written (flight_moves q.base (total_of h.motion) h.motion) x.stock.store)
                (set x.stock.devices d (ended_progress h.motion))) fol.is_seen
                ∙ ap₂ (λ ms x. with_both (seen_of slots J q.p) (written ms (seen_of slots J q.p).stock.store) (set (seen_of slots J q.p).stock.devices d x))
                (rest_is q d h f is) (ended_is q d h f is)
                ∙ sym (end-seen slots J q.p asked course d f this);
            linked =
                subst (λ gs. (e : ℕ) → Linked q e (spot_at (after_end d s).spots e).flight (gs e)) (sym (flights-end slots J q.p asked course.past d))
                (linked_set q s.spots d (ended_spot (spot_at s.spots d)) fs (with_flight d None fs) lt fol.linked
                (λ e ne. with_flight_other d e None fs ne)
                (subst (λ o. Linked q d (ended_by (spot_at s.spots d) o).flight (with_flight d None fs d)) (sym flies)
                (subst (Linked q d None) (sym (with_flight_is d d None fs refl)) tt)));
          }

    -- another program's
    idle_other : h.p ≢ q.p → fs d ≡ None
    idle_other ne = linked_other q d h (fs d) ne link

  idle_none : (spot_at s.spots d).flight ≡ None → fs d ≡ None
  idle_none idle = linked_none q d (fs d) (subst (λ o. Linked q d o (fs d)) idle (fol.linked d))

  pub follow_move : (n : ℕ) → IsFollowing slots (added J (Moves d n)) q (moved_own q n (spot_at s.spots d).flight mine) (after_move d n s)
  follow_move n = by_flight (spot_at s.spots d).flight refl
    where
      same : own slots (added J (Moves d n)) q.p ≡ own slots J q.p
      same = own-same slots J (Moves d n) q.p refl refl

      by_flight : (o : Option Held) → (spot_at s.spots d).flight ≡ o
          → IsFollowing slots (added J (Moves d n)) q (moved_own q n (spot_at s.spots d).flight mine) (after_move d n s)
      by_flight None idle =
          subst (λ o. IsFollowing slots (added J (Moves d n)) q (moved_own q n o mine) (after_move d n s)) (sym idle)
          (keep (Moves d n) (after_move d n s) (moved_spot n (spot_at s.spots d)) same (move-none slots J q.p asked course d n (idle_none idle))
          (idle_none idle) refl (subst (λ o. Linked q d (moved_held n o) None) (sym idle) tt))
      by_flight (Some h) flies =
          subst (λ o. IsFollowing slots (added J (Moves d n)) q (moved_own q n o mine) (after_move d n s)) (sym flies)
          (⊎_elim
          (λ (same' : h.p ≡ q.p).
          let f = linked_own q d h (fs d) same' (link h flies) in
          subst (λ x. IsFollowing slots (added J (Moves d n)) q x (after_move d n s)) (sym (chosen h.p q.p _ mine same')) (own_moved h flies f.0 f.1 f.2 n))
          (λ (ne : h.p ≢ q.p).
          let idle = idle_other h flies ne in
          subst (λ x. IsFollowing slots (added J (Moves d n)) q x (after_move d n s)) (sym (passed h.p q.p _ mine ne))
          (keep (Moves d n) (after_move d n s) (moved_spot n (spot_at s.spots d)) same (move-none slots J q.p asked course d n idle) idle refl
          (subst (λ o. Linked q d (moved_held n o) None) (sym flies) ne)))
          (cases_eq h.p q.p))

  pub follow_end : IsFollowing slots (added J (Ends d)) q (ended_own q d (spot_at s.spots d).flight mine) (after_end d s)
  follow_end = by_flight (spot_at s.spots d).flight refl
    where
      same : own slots (added J (Ends d)) q.p ≡ own slots J q.p
      same = own-same slots J (Ends d) q.p refl refl

      by_flight : (o : Option Held) → (spot_at s.spots d).flight ≡ o → IsFollowing slots (added J (Ends d)) q (ended_own q d (spot_at s.spots d).flight mine)
          (after_end d s)
      by_flight None idle =
          subst (λ o. IsFollowing slots (added J (Ends d)) q (ended_own q d o mine) (after_end d s)) (sym idle)
          (keep (Ends d) (after_end d s) (ended_spot (spot_at s.spots d)) same (end-none slots J q.p asked course d (idle_none idle)) (idle_none idle) refl
          (subst (λ o. Linked q d (ended_by (spot_at s.spots d) o).flight None) (sym idle) (subst (λ o. Linked q d o None) (sym idle) tt)))
      by_flight (Some h) flies =
          subst (λ o. IsFollowing slots (added J (Ends d)) q (ended_own q d o mine) (after_end d s)) (sym flies)
          (⊎_elim
          (λ (same' : h.p ≡ q.p).
          let f = linked_own q d h (fs d) same' (link h flies) in
          subst (λ x. IsFollowing slots (added J (Ends d)) q x (after_end d s)) (sym (chosen h.p q.p _ mine same')) (own_ended h flies f.0 f.1 f.2))
          (λ (ne : h.p ≢ q.p).
          let idle = idle_other h flies ne in
          subst (λ x. IsFollowing slots (added J (Ends d)) q x (after_end d s)) (sym (passed h.p q.p _ mine ne))
          (keep (Ends d) (after_end d s) (ended_spot (spot_at s.spots d)) same (end-none slots J q.p asked course d idle) idle refl
          (subst (λ o. Linked q d (ended_by (spot_at s.spots d) o).flight None) (sym flies) tt)))
          (cases_eq h.p q.p))

-- a step of no order, that touches no transfer
pub follow_quiet : (slots : List Slot) (J : List Entry) (st : JournalStep) (q : Part) (mine : State) (s : Shared) → own slots (added J st) q.p ≡ own slots J q.p
    → flights_of slots (added J st) q.p ≡ flights_of slots J q.p → IsFollowing slots J q mine s → IsFollowing slots (added J st) q mine s
follow_quiet slots J st q mine s o f fol =
    record {
      is_seen = fol.is_seen ∙ sym (ap₂ seen f o);
      linked = subst (λ gs. (e : ℕ) → Linked q e (spot_at s.spots e).flight (gs e)) (sym f) fol.linked;
    }

-- what is told of a part is so of another with its number and window
pub follow_part : (slots : List Slot) (J : List Entry) (x x' : Part) (st : State) (s : Shared) → x'.p ≡ x.p → x'.base ≡ x.base → IsFollowing slots J x st s
    → IsFollowing slots J x' st s
follow_part slots J x x' st s e b follows =
    record {
      is_seen = follows.is_seen ∙ ap (seen_of slots J) (sym e);
      linked = λ d. subst (Linked x' d (spot_at s.spots d).flight) (ap (λ y. flights_of slots J y d) (sym e))
          (by_parts d (spot_at s.spots d).flight (flights_of slots J x.p d) (follows.linked d));
    }
  where
    by_parts : (d : ℕ) (o : Option Held) (f : Option Flight) → Linked x d o f → Linked x' d o f
    by_parts d None None link = tt
    by_parts d None (Some f) link = link
    by_parts d (Some h) None link = λ is. link (is ∙ e)
    by_parts d (Some h) (Some f) link =
        record {
          owner = link.owner ∙ sym e;
          order = link.order;
          first = (let a = link.first in omega arith);
          last = (let a = link.last in omega arith);
          fixture = link.fixture;
          there = link.there;
          progress = link.progress;
          moved = link.moved;
          words = link.words;
        }
