-- The looks that a watch for a place sees, and the numbers of own orders.
use Rattle.std.specs.List.{filter, range_with_len}
use Rattle.std.specs.Prelude.{sum_by}
use Rattle.std.proofs.Common.{◌≡◌, ℕ, zero, suc, ◌+◌, ◌≤◌, ◌<◌, List, [], ◌∷◌, ◌++◌, Bool, true, false, cond, ◌&&◌, eqb, inl, inr, refl, sym, ◌∙◌, ap, ap₂}
use Rattle.std.proofs.Common.{subst, arith, append_assoc, append-nil, length, length-append, map, add-zero}
use Rattle.std.proofs.lemmas.Bool.{cases_eq, eq-eqb, ne_eqb}
use Rattle.std.proofs.lemmas.List.FromFn.{filter_of_map_range_with_len_more}
use Rattle.kdf_journal.specs.declared.entry.Entry.{Entry}
use Rattle.kdf_journal.specs.Counts.{answers, ran}
use Rattle.kdf_journal.specs.Steps.{Note, JournalStep, Obeys, Holds, Waits, Moves, Ends, Sets, Swaps, added, journal_of, steps}
use Rattle.kdf_journal.proofs.Added.{ran_by, ran-added, answers_by, answers-added, answer_in_note}
use Rattle.kdf_journal.proofs.Steps.{steps-journal_of, steps-nil}
use Rattle.kdf_schedule.specs.declared.event.Event.{Event}
use Rattle.kdf_transfer.specs.Slots.{Slot}
use Rattle.kdf_processor.specs.State.{State}
use Rattle.kdf_processor.specs.Lone.{lone}
use Rattle.kdf_processor.proofs.LoneLemmas.{longer}
use Rattle.kdf_course.specs.Follows.{answered, call_of, EachLive}
use Rattle.kdf_theory.specs.Follows.{entries_in}
use Rattle.kdf_theory.specs.Legal.{EachMeets, IsLegal}
use Rattle.kdf_theory.specs.Next.{lone_dispatched}
use Rattle.kdf_theory.specs.Served.{IsTrueFor}
use Rattle.kdf_theory.specs.MachineView.{MachineView}
use Rattle.kdf_theory.proofs.Course.OneJournal.{true_for_nil}
use Rattle.kdf_theory.specs.Slots.{start}
use Rattle.kdf_theory.specs.ByJournal.{own, own_after}
use Rattle.kdf_theory.proofs.Course.LegalFacts.{legal_asked}
use Rattle.kdf_watch.specs.declared.cursor.Cursor.{Cursor}
use Rattle.kdf_watch.specs.declared.look.Look.{Look}
use Rattle.kdf_watch.specs.declared.stop.Stop.{Stop}
use Rattle.kdf_watch.specs.declared.stop.Stop.TheVariants.{Watched, Finished}
use Rattle.kdf_watch.specs.Cursors.{IsUpTo, calls_left}
use Rattle.kdf_watch.specs.Hits.{is_at}
use Rattle.kdf_watch.specs.Looks.{look_at, looks, looks_in}
use Rattle.kdf_watch.specs.Rules.{AreUnseen}
use Rattle.kdf_watch.specs.Stopped.{HasGone, HasSeen, HasStopped}
use Rattle.kdf_watch.specs.Stops.{stops_of}

abbrev hit : ℕ → ℕ → Look → List ℕ
hit k at look = cond (is_at k at look) (look.ran ∷ []) []

-- of looks that stand the last first, the numbers of those at program k that are at this place, rising
abbrev pub hits : ℕ → ℕ → List Look → List ℕ
hits k at [] = []
hits k at (look ∷ looks) = hits k at looks ++ hit k at look

-- the looks of all steps
abbrev pub all_looks : List Slot → List JournalStep → List Look
all_looks slots [] = []
all_looks slots (s ∷ P) = looks_in slots (journal_of (s ∷ P)) s ++ all_looks slots P

hits-append : (k at : ℕ) (xs ys : List Look) → hits k at (xs ++ ys) ≡ hits k at ys ++ hits k at xs
hits-append k at [] ys = sym (append-nil (hits k at ys))
hits-append k at (x ∷ xs) ys = ap (λ (ns : List ℕ). ns ++ hit k at x) (hits-append k at xs ys) ∙ append_assoc (hits k at ys) (hits k at xs) (hit k at x)

all-append : (slots : List Slot) (R P : List JournalStep) → all_looks slots (R ++ P) ≡ looks slots R P ++ all_looks slots P
all-append slots [] P = refl
all-append slots (s ∷ R) P =
    ap (λ (ls : List Look). looks_in slots (journal_of (s ∷ R ++ P)) s ++ ls) (all-append slots R P)
    ∙ sym (append_assoc (looks_in slots (journal_of (s ∷ R ++ P)) s) (looks slots R P) (all_looks slots P))

module _ (sees : Look → Bool → Type 0) (k at : ℕ) (tells : (look : Look) (b : Bool) → sees look b → b ≡ is_at k at look) where
  hits-unseen : (ls : List Look) → AreUnseen sees ls → hits k at ls ≡ []
  hits-unseen [] u = refl
  hits-unseen (l ∷ ls) u = ap₂ (λ (ns : List ℕ) (b : Bool). ns ++ cond b (l.ran ∷ []) []) (hits-unseen ls u.1) (sym (tells l false u.0))

  older : (slots : List Slot) (R P : List JournalStep) → AreUnseen sees (looks slots R P) → hits k at (all_looks slots (R ++ P)) ≡ hits k at (all_looks slots P)
  older slots R P u =
      ap (hits k at) (all-append slots R P)
      ∙ (hits-append k at (looks slots R P) (all_looks slots P) ∙ (ap (λ (ns : List ℕ). hits k at (all_looks slots P) ++ ns) (hits-unseen (looks slots R P) u)
      ∙ append-nil (hits k at (all_looks slots P))))

  module _ (old new : MachineView) (ns : List ℕ) (so_far : ns ≡ hits k at (all_looks old.slots (steps old.journal))) where
    pub gone_numbers : HasGone sees old new → ns ≡ hits k at (all_looks old.slots (steps new.journal))
    gone_numbers g = so_far ∙ sym (ap (λ (P : List JournalStep). hits k at (all_looks old.slots P)) g.is ∙ older old.slots g.later (steps old.journal) g.unseen)

    pub seen_numbers : (look : Look) → HasSeen sees old new look → ns ++ look.ran ∷ [] ≡ hits k at (all_looks old.slots (steps new.journal))
    seen_numbers look g =
        let there : look_at old.slots (journal_of (Obeys look.p g.note ∷ g.later ++ steps old.journal)) look.p ≡ look =
        ap (λ (P : List JournalStep). look_at old.slots (journal_of P) look.p) (sym g.is)
        ∙ (ap (λ (J : List Entry). look_at old.slots J look.p) g.form ∙ sym g.look_is) in
        let last : hit k at look ≡ look.ran ∷ [] = ap (λ (b : Bool). cond b (look.ran ∷ []) []) (sym (tells look true g.seen)) in
        ap₂ (λ (xs ys : List ℕ). xs ++ ys) (so_far ∙ sym (older old.slots g.later (steps old.journal) g.unseen)) (sym last)
        ∙ (ap (λ (x : Look). hits k at (all_looks old.slots (g.later ++ steps old.journal)) ++ hit k at x) (sym there)
        ∙ ap (λ (P : List JournalStep). hits k at (all_looks old.slots P)) (sym g.is))

-- a run that was stopped has fewer calls left
pub less_seen : (sees : Look → Bool → Type 0) (events : List Event) (c d : Cursor) (old new : MachineView) (look : Look) → IsUpTo events c old
    → IsUpTo events d new
    → HasSeen sees old new look → length (calls_left events d) < length (calls_left events c)
less_seen sees events c d old new look a b g =
    omega (
      arith,
      ap length a.follows.in_order,
      ap length b.follows.in_order,
      length-append (answered (steps old.journal)) (calls_left events c),
      length-append (answered (steps new.journal)) (calls_left events d),
      count (steps old.journal),
      count (steps new.journal),
      ap length g.is,
      length-append g.later (steps old.journal),
    )
  where
    count : (P : List JournalStep) → length (answered P) ≡ length P
    count [] = refl
    count (s ∷ P) = omega (arith, length-append (answered P) (call_of s ∷ []), count P)

-- ---- the numbers are those of own orders

-- what a program was after fewer orders stays, whatever is answered then
early : (slots : List Slot) (J : List Entry) (k n : ℕ) (B : List ℕ) → IsLegal slots J → n ≤ ran k J
    → lone (start slots k) (answers k J ++ B) n ≡ lone (start slots k) (answers k J) n
unfolding own
early slots J k n B l le = longer (start slots k) (answers k J) B (ran k J) (omega (arith, legal_asked slots J l k)) n le

-- the numbers from 1 to n that a test picks
abbrev picked : (ℕ → Bool) → ℕ → List ℕ
picked test n = filter test (range_with_len 1 n)

map_same : (xs : List ℕ) → map (λ (x : ℕ). x) xs ≡ xs
map_same [] = refl
map_same (x ∷ xs) = ap (λ (ys : List ℕ). x ∷ ys) (map_same xs)

-- one number more
picked-more : (test : ℕ → Bool) (n : ℕ) → picked test (n + 1) ≡ picked test n ++ cond (test (n + 1)) ((n + 1) ∷ []) []
picked-more test n =
    sym (ap (filter test) (map_same (range_with_len 1 (n + 1))))
    ∙ (filter_of_map_range_with_len_more test (λ (x : ℕ). x) 1 n (n + 1) (omega arith)
    ∙ ap (λ (ns : List ℕ). filter test ns ++ cond (test (n + 1)) ((n + 1) ∷ []) []) (map_same (range_with_len 1 n)))

picked-same : (f g : ℕ → Bool) (n : ℕ) → ((i : ℕ) → i ≤ n → f i ≡ g i) → picked f n ≡ picked g n
picked-same f g zero e = refl
picked-same f g (suc n) e =
    let one : suc n ≡ n + 1 = omega arith in
    ap (picked f) one
    ∙ (picked-more f n
    ∙ (ap₂ (λ (xs : List ℕ) (b : Bool). xs ++ cond b ((n + 1) ∷ []) []) (picked-same f g n (λ i le. e i (omega (arith, le)))) (e (n + 1) (omega arith))
    ∙ (sym (picked-more g n) ∙ ap (picked g) (sym one))))

-- a step in which program k doesn't obey
stops-same : (slots : List Slot) (J : List Entry) (s : JournalStep) (k at : ℕ) → ran_by k s ≡ 0 → answers_by k s ≡ []
    → stops_of slots (added J s) k at ≡ stops_of slots J k at
stops-same slots J s k at r a = rw (ran-added k J s, answers-added k J s, r, a, append-nil, add-zero) refl

-- and one in which it does
stops-obeys : (slots : List Slot) (J : List Entry) (k at : ℕ) (note : Note) → IsLegal slots J
    → stops_of slots (added J (Obeys k note)) k at ≡ stops_of slots J k at ++ hit k at (look_at slots (added J (Obeys k note)) k)
unfolding own
stops-obeys slots J k at note l =
    let same : eqb k k ≡ true = eq-eqb k k refl in
    let count : ran k (added J (Obeys k note)) ≡ ran k J + 1 = ran-added k J (Obeys k note) ∙ rw same refl in
    let answers_are : answers k (added J (Obeys k note)) ≡ answers k J ++ answer_in_note note = answers-added k J (Obeys k note) ∙ rw same refl in
    let test : ℕ → Bool = λ n. eqb (own_after slots (added J (Obeys k note)) k n).registers.at at in
    let before : picked test (ran k J) ≡ stops_of slots J k at =
    picked-same test (λ n. eqb (own_after slots J k n).registers.at at) (ran k J)
    (λ i le. ap (λ (x : State). eqb x.registers.at at) (ap (λ (A : List ℕ). lone (start slots k) A i) answers_are
    ∙ early slots J k i (answer_in_note note) l le)) in
    ap (picked test) count
    ∙ (picked-more test (ran k J)
    ∙ (ap (λ (ns : List ℕ). ns ++ cond (test (ran k J + 1)) ((ran k J + 1) ∷ []) []) before
    ∙ (ap (λ (n : ℕ). stops_of slots J k at ++ cond (test n) (n ∷ []) []) (sym count)
    ∙ ap (λ (b : Bool). stops_of slots J k at ++ cond (b && test (ran k (added J (Obeys k note)))) (ran k (added J (Obeys k note)) ∷ []) []) (sym same))))

counted_by : (slots : List Slot) (J : List Entry) (s : JournalStep) (k at : ℕ) → IsLegal slots J
    → stops_of slots (added J s) k at ≡ stops_of slots J k at ++ hits k at (looks_in slots (added J s) s)
counted_by slots J (Obeys p note) k at l = elim (cases_eq p k) [
  | inl same ↦ rw same (stops-obeys slots J k at note l)
  | inr differ ↦
      let other : eqb p k ≡ false = ne_eqb p k differ in
      stops-same slots J (Obeys p note) k at (rw other refl) (rw other refl)
      ∙ sym (ap (λ (b : Bool). stops_of slots J k at ++ cond (b && eqb (look_at slots (added J (Obeys p note)) p).at at)
      ((look_at slots (added J (Obeys p note)) p).ran ∷ []) []) other ∙ append-nil (stops_of slots J k at))
]
counted_by slots J (Holds p by) k at l = stops-same slots J (Holds p by) k at refl refl ∙ sym (append-nil (stops_of slots J k at))
counted_by slots J Waits k at l = stops-same slots J Waits k at refl refl ∙ sym (append-nil (stops_of slots J k at))
counted_by slots J (Moves d n) k at l = stops-same slots J (Moves d n) k at refl refl ∙ sym (append-nil (stops_of slots J k at))
counted_by slots J (Ends d) k at l = stops-same slots J (Ends d) k at refl refl ∙ sym (append-nil (stops_of slots J k at))
counted_by slots J (Sets t) k at l = stops-same slots J (Sets t) k at refl refl ∙ sym (append-nil (stops_of slots J k at))
counted_by slots J (Swaps p q) k at l = stops-same slots J (Swaps p q) k at refl refl ∙ sym (append-nil (stops_of slots J k at))

legal_of : (slots : List Slot) (P : List JournalStep) → EachMeets slots P → IsLegal slots (journal_of P)
legal_of slots P m = record { in_form = ap journal_of (steps-journal_of P); each = subst (EachMeets slots) (sym (steps-journal_of P)) m }

counted_over : (slots : List Slot) (P : List JournalStep) (k at : ℕ) → EachMeets slots P → hits k at (all_looks slots P) ≡ stops_of slots (journal_of P) k at
counted_over slots [] k at m = refl
counted_over slots (s ∷ P) k at m =
    hits-append k at (looks_in slots (journal_of (s ∷ P)) s) (all_looks slots P)
    ∙ (ap (λ (ns : List ℕ). ns ++ hits k at (looks_in slots (journal_of (s ∷ P)) s)) (counted_over slots P k at m.0)
    ∙ sym (counted_by slots (journal_of P) s k at (legal_of slots P m.0)))

pub counted : (slots : List Slot) (J : List Entry) (k at : ℕ) → IsLegal slots J → hits k at (all_looks slots (steps J)) ≡ stops_of slots J k at
counted slots J k at l = counted_over slots (steps J) k at l.each ∙ ap (λ (K : List Entry). stops_of slots K k at) l.in_form

-- ---- before the first event

pub at_first : (events : List Event) (m : MachineView) → m.journal ≡ [] → sum_by entries_in events ≤ m.room → IsUpTo events (record { event = 0; calls = 0 }) m
at_first events m fresh room = record {
  place = omega arith;
  within = omega arith;
  follows = record {
    in_order = ap (λ (P : List JournalStep). answered P ++ calls_left events (record { event = 0; calls = 0 })) none;
    lived = subst (EachLive (lone_dispatched m.slots)) (sym none) tt;
  };
  room = room;
}
  where
    none : steps m.journal ≡ []
    none = ap steps fresh ∙ steps-nil

pub true_first : (answers : ℕ → ℕ → Type 0) (slots : List Slot) (J : List Entry) → J ≡ [] → IsTrueFor answers slots J
true_first answers slots J fresh = subst (IsTrueFor answers slots) (sym fresh) (true_for_nil answers slots)

pub first_numbers : (slots : List Slot) (J : List Entry) (k at : ℕ) → J ≡ [] → hits k at (all_looks slots (steps J)) ≡ []
first_numbers slots J k at fresh = ap (λ (P : List JournalStep). hits k at (all_looks slots P)) (ap steps fresh ∙ steps-nil)

-- a run that no look stopped is at its end
pub finished_of : (sees : Look → Bool → Type 0) (events : List Event) (old new : MachineView) (stop : Stop) → HasStopped sees events old new stop
    → ((look : Look) → stop ≡ Watched look → ⊥) → HasStopped sees events old new Finished
finished_of sees events old new (Watched look) h other = absurd (other look refl)
finished_of sees events old new Finished h other = h
