-- Each program goes on following the journal.
use Rattle.std.proofs.Common.{◌≡◌, ◌≢◌, ℕ, ◌<◌, List, [], ◌++◌, length, Option, Some, None, is_some, cond, refl, sym, ap, ap₂, ◌∙◌, subst, ⊎_elim, arith}
use Rattle.std.proofs.Math.Path.{fun_ext}
use Rattle.std.proofs.lemmas.Bool.{cases_eq, eq-eqb, ne_eqb}
use Rattle.std.proofs.lemmas.List.{append-nil, get_or-set_same, get_or-set_other}
use Rattle.kdf_journal.specs.declared.need.Need.{Need}
use Rattle.kdf_journal.specs.declared.entry.Entry.{Entry}
use Rattle.kdf_journal.specs.Counts.{answers, pending}
use Rattle.kdf_journal.specs.Steps.{JournalStep, Holds, Waits, Moves, Ends, Sets, Swaps, added}
use Rattle.kdf_journal.proofs.Added.{answers_by, answers-added, pending_by, pending-added, ran_by, moved_by}
use Rattle.kdf_journal.specs.Counts.{moved_if}
use Rattle.kdf_transfer.specs.Slots.{Slot}
use Rattle.kdf_transfer.specs.ByNumber.{device_count}
use Rattle.kdf_theory.specs.Legal.{IsLegal}
use Rattle.kdf_theory.specs.Seen.{seen}
use Rattle.kdf_theory.specs.Slots.{AreSlots}
use Rattle.kdf_theory.specs.ByJournal.{own, seen_of}
use Rattle.kdf_places.specs.Spots.{Held, Spot, no_spot, spot_at}
use Rattle.kdf_yard.specs.Fields.Parts.{Part, Seat, Reach}
use Rattle.kdf_places.specs.Shared.{Shared}
use Rattle.kdf_places.specs.Transfers.{after_move, moved_held, moved_spot, after_end, ended_spot, ended_by}
use Rattle.kdf_yard.specs.Fields.Running.{seat_at, part_at, own_state, IsRunning}
use Rattle.kdf_director.specs.Fields.Following.{IsFollowing, AreFollowing, asked_at}
use Rattle.kdf_yard.proofs.Turns.FlightsMove.{flown_own, ended_state}
use Rattle.kdf_theory.proofs.Course.LegalFacts.{legal_asked}
use Rattle.kdf_director.proofs.Linking.TransfersLinked.{follow_move, follow_end, follow_quiet}
use Rattle.kdf_theory.proofs.Course.FlightsOnCourse.{IsOnCourse, flights-quiet, legal-course}
use Rattle.kdf_theory.proofs.Course.OwnSteps.{own-same}

-- a step that answers none leaves the answers
pub answers_same : (q : ℕ) (J : List Entry) (st : JournalStep) → answers_by q st ≡ [] → answers q (added J st) ≡ answers q J
answers_same q J st silent = answers-added q J st ∙ ap (λ vs. answers q J ++ vs) silent ∙ append-nil (answers q J)

moved_some : (n : ℕ) (o : Option Held) → is_some (moved_held n o) ≡ is_some o
moved_some n None = refl
moved_some n (Some h) = refl

ended_none : (x : Spot) (o : Option Held) → x.flight ≡ o → (ended_by x o).flight ≡ None
ended_none x None idle = idle
ended_none x (Some h) flies = refl

module _ (slots : List Slot) (J : List Entry) (reaches : List Reach) (seats : List Seat) (s : Shared) (are : AreSlots slots) (legal : IsLegal slots J)
    (run : IsRunning reaches seats s) (old : AreFollowing slots J reaches seats s) where
  abbrev q : ℕ → Part
  q i = part_at reaches seats i

  asked : (p : ℕ) → (own slots J p).stock.asked ≡ length (answers p J)
  asked p = legal_asked slots J legal p

  course : (p : ℕ) → IsOnCourse slots J p
  course p = legal-course slots J are legal p

  same_asked : (i : ℕ) (st : JournalStep) → answers_by (seat_at seats i).p st ≡ [] → asked_at seats (added J st) i ≡ asked_at seats J i
  same_asked i st silent = ap length (answers_same (seat_at seats i).p J st silent)

  -- words move, and a transfer ends
  module _ (d : ℕ) (small : d < device_count) where
    inside : d < length s.spots
    inside = let e = run.sound.spots in omega arith

    pub flown_follows : (n : ℕ) → AreFollowing slots (added J (Moves d n)) reaches seats (after_move d n s)
    flown_follows n =
        record {
          each = λ i lt.
              subst (λ k. IsFollowing slots (added J (Moves d n)) (q i) (own_state reaches seats (after_move d n s) k i) (after_move d n s))
              (sym (same_asked i (Moves d n) refl))
              (subst (λ x. IsFollowing slots (added J (Moves d n)) (q i) x (after_move d n s))
              (sym (flown_own reaches seats s d run small n (asked_at seats J i) i lt))
              (follow_move slots J (q i) (own_state reaches seats s (asked_at seats J i) i) s d (asked (q i).p) (course (q i).p) (old.each i lt) inside n));
          busy = λ e.
              ⊎_elim
              (λ (same : e ≡ d).
              ap (λ k. is_some (spot_at (after_move d n s).spots k).flight) same
              ∙ ap (λ (x : Spot). is_some x.flight) (get_or-set_same s.spots d (moved_spot n (spot_at s.spots d)) no_spot inside)
              ∙ moved_some n (spot_at s.spots d).flight
              ∙ old.busy d
              ∙ ap (λ k. is_some (pending k J)) (sym same))
              (λ (ne : e ≢ d). ap (λ (x : Spot). is_some x.flight) (get_or-set_other s.spots d e (moved_spot n (spot_at s.spots d)) no_spot ne) ∙ old.busy e)
              (cases_eq e d)
              ∙ sym (ap is_some (pending-added e J (Moves d n)));
        }

    pub ended_follows : AreFollowing slots (added J (Ends d)) reaches seats (after_end d s)
    ended_follows =
        record {
          each = λ i lt.
              subst (λ k. IsFollowing slots (added J (Ends d)) (q i) (own_state reaches seats (after_end d s) k i) (after_end d s))
              (sym (same_asked i (Ends d) refl))
              (subst (λ x. IsFollowing slots (added J (Ends d)) (q i) x (after_end d s))
              (sym (ended_state reaches seats s d run small (asked_at seats J i) i lt))
              (follow_end slots J (q i) (own_state reaches seats s (asked_at seats J i) i) s d (asked (q i).p) (course (q i).p) (old.each i lt) inside));
          busy = λ e.
              ⊎_elim
              (λ (same : e ≡ d).
              ap (λ k. is_some (spot_at (after_end d s).spots k).flight) same
              ∙ ap (λ (x : Spot). is_some x.flight) (get_or-set_same s.spots d (ended_spot (spot_at s.spots d)) no_spot inside)
              ∙ ap is_some (ended_none (spot_at s.spots d) (spot_at s.spots d).flight refl)
              ∙ sym (ap (λ b. is_some (cond b None (pending e J))) (eq-eqb d e (sym same))))
              (λ (ne : e ≢ d).
              ap (λ (x : Spot). is_some x.flight) (get_or-set_other s.spots d e (ended_spot (spot_at s.spots d)) no_spot ne)
              ∙ old.busy e
              ∙ sym (ap (λ b. is_some (cond b None (pending e J))) (ne_eqb d e (λ x. ne (sym x)))))
              (cases_eq e d)
              ∙ sym (ap is_some (pending-added e J (Ends d)));
        }

  -- a step of no order, that touches no transfer
  quiet_follows : (st : JournalStep) → ((p : ℕ) → ran_by p st ≡ 0) → ((p : ℕ) → answers_by p st ≡ []) → ((d : ℕ) → pending_by d (pending d J) st ≡ pending d J)
      → ((d : ℕ) → moved_by d (moved_if d J) st ≡ moved_if d J) → AreFollowing slots (added J st) reaches seats s
  quiet_follows st none silent same words =
      record {
        each = λ i lt.
            subst (λ k. IsFollowing slots (added J st) (q i) (own_state reaches seats s k i) s) (sym (same_asked i st (silent (seat_at seats i).p)))
            (follow_quiet slots J st (q i) (own_state reaches seats s (asked_at seats J i) i) s
            (own-same slots J st (q i).p (none (q i).p) (silent (q i).p))
            (fun_ext (flights-quiet slots J st (q i).p (asked (q i).p) same words (course (q i).p)))
            (old.each i lt));
        busy = λ d. old.busy d ∙ sym (ap is_some (pending-added d J st ∙ same d));
      }

  -- what is seen then is what was seen
  quiet_seen : (st : JournalStep) → ((p : ℕ) → ran_by p st ≡ 0) → ((p : ℕ) → answers_by p st ≡ []) → ((d : ℕ) → pending_by d (pending d J) st ≡ pending d J)
      → ((d : ℕ) → moved_by d (moved_if d J) st ≡ moved_if d J) → (p : ℕ) → seen_of slots (added J st) p ≡ seen_of slots J p
  quiet_seen st none silent same words p =
      ap₂ seen (fun_ext (flights-quiet slots J st p (asked p) same words (course p))) (own-same slots J st p (none p) (silent p))

  pub held_seen : (p : ℕ) (by : Need) (k : ℕ) → seen_of slots (added J (Holds p by)) k ≡ seen_of slots J k
  held_seen p by = quiet_seen (Holds p by) (λ _. refl) (λ _. refl) (λ d. refl) (λ d. refl)

  pub waited_seen : (k : ℕ) → seen_of slots (added J Waits) k ≡ seen_of slots J k
  waited_seen = quiet_seen Waits (λ _. refl) (λ _. refl) (λ d. refl) (λ d. refl)

  pub held_follows : (p : ℕ) (by : Need) → AreFollowing slots (added J (Holds p by)) reaches seats s
  held_follows p by = quiet_follows (Holds p by) (λ _. refl) (λ _. refl) (λ d. refl) (λ d. refl)

  pub waited_follows : AreFollowing slots (added J Waits) reaches seats s
  waited_follows = quiet_follows Waits (λ _. refl) (λ _. refl) (λ d. refl) (λ d. refl)

  pub set_follows : (t : ℕ) → AreFollowing slots (added J (Sets t)) reaches seats s
  set_follows t = quiet_follows (Sets t) (λ _. refl) (λ _. refl) (λ d. refl) (λ d. refl)

  pub exchanged_follows : (p q : ℕ) → AreFollowing slots (added J (Swaps p q)) reaches seats s
  exchanged_follows p q = quiet_follows (Swaps p q) (λ _. refl) (λ _. refl) (λ d. refl) (λ d. refl)
