-- What one step more of a journal makes of the transfers that are in flight.
use Rattle.std.proofs.Common.{◌≡◌, ◌≢◌, ℕ, ◌+◌, ◌-◌, ◌≤◌, min, List, [], ◌∷◌, length, Option, Some, None, is_some, Bool, true, false, cond, eqb, refl, sym, ◌∙◌}
use Rattle.std.proofs.Common.{ap, ap₂, ⊎_elim, arith}
use Rattle.std.specs.Prelude.{fold, unwrap_or}
use Rattle.std.specs.Option.{option_map}
use Rattle.std.proofs.Math.Nat.{zero-min}
use Rattle.std.proofs.Math.Path.{fun_ext}
use Rattle.std.proofs.lemmas.Bool.{cases_Bool, cases_eq, eq-eqb, ne_eqb}
use Rattle.kdf_transfer.specs.declared.order.TransferOrder.{TransferOrder}
use Rattle.kdf_processor.specs.declared.registers.Registers.{Registers}
use Rattle.kdf_processor.specs.Effect.{Question, Effect, Failing, Starting, Asking, FreeOf, Returning}
use Rattle.kdf_processor.specs.Lone.{lone}
use Rattle.kdf_processor.specs.Needs.{next_effect}
use Rattle.kdf_processor.specs.Row.{done_by}
use Rattle.kdf_transfer.specs.Slots.{Slot}
use Rattle.kdf_processor.specs.State.{State}
use Rattle.kdf_processor.proofs.LoneLemmas.{longer}
use Rattle.kdf_journal.specs.declared.entry.Entry.{Entry}
use Rattle.kdf_journal.specs.declared.entry.Entry.TheVariants.{Start, Move, End}
use Rattle.kdf_journal.specs.Counts.{ran, answers, pending_after, pending, moved_after, moved_if, moved}
use Rattle.kdf_journal.specs.Steps.{Note, JournalStep, Obeys, Moves, Ends, added}
use Rattle.kdf_journal.proofs.Added.{answers_by, answers-added, pending_by, pending-added, moved_by, moved_if-added}
use Rattle.kdf_theory.specs.Flights.{Flight, beginning, flights_after, move_count, moved_to, with_flight}
use Rattle.kdf_theory.specs.Legal.{note_of_outcome}
use Rattle.kdf_theory.specs.Slots.{start}
use Rattle.kdf_theory.specs.ByJournal.{own_after, own, called_for, flight_by, flight_from, flight_of, flights_of, further}
use Rattle.kdf_theory.proofs.Seen.OrdersSeen.{with_flight_is, with_flight_other}

-- ---- words are counted exactly where there is a transfer

one_of : (b : Bool) (n : ℕ) (x : ℕ × ℕ) (m : Option ℕ) (o : Option (ℕ × ℕ)) → is_some m ≡ is_some o → is_some (cond b (Some n) m) ≡ is_some (cond b (Some x) o)
one_of true n x m o same = refl
one_of false n x m o same = same

none_of : (b : Bool) (m : Option ℕ) (o : Option (ℕ × ℕ)) → is_some m ≡ is_some o → is_some (cond b None m) ≡ is_some (cond b None o)
none_of true m o same = refl
none_of false m o same = same

more_of : (b : Bool) (n : ℕ) (m : Option ℕ) → is_some (cond b (option_map (λ words. words + n) m) m) ≡ is_some m
more_of true n None = refl
more_of true n (Some words) = refl
more_of false n m = refl

counted_one : (d : ℕ) (m : Option ℕ) (o : Option (ℕ × ℕ)) (e : Entry) → is_some m ≡ is_some o → is_some (moved_after d m e) ≡ is_some (pending_after d o e)
counted_one d m o (Start p e k) same = one_of (eqb e d) 0 (p, k) m o same
counted_one d m o (Move e n) same = more_of (eqb e d) n m ∙ same
counted_one d m o (End e) same = none_of (eqb e d) m o same
counted_one d m o e same = same

counted_all : (d : ℕ) (es : List Entry) (m : Option ℕ) (o : Option (ℕ × ℕ)) → is_some m ≡ is_some o
    → is_some (fold (moved_after d) m es) ≡ is_some (fold (pending_after d) o es)
counted_all d [] m o same = same
counted_all d (e ∷ es) m o same = counted_all d es (moved_after d m e) (pending_after d o e) (counted_one d m o e same)

counted : (d : ℕ) (J : List Entry) → is_some (moved_if d J) ≡ is_some (pending d J)
counted d J = counted_all d J None None refl

sum_of : (n : ℕ) (m : Option ℕ) → is_some m ≡ true → unwrap_or (option_map (λ words. words + n) m) 0 ≡ unwrap_or m 0 + n
sum_of n None is = cc
sum_of n (Some words) is = refl

-- ---- what was stays

-- the orders that began the transfers of program p are among the n first of it
abbrev pub IsPast : ℕ → ℕ → Option (ℕ × ℕ) → Type 0
IsPast p n None = Unit {0}
IsPast p n (Some begun) = eqb begun.0 p ≡ true → begun.1 ≤ n

-- what a program was after an earlier order stays
pub earlier : (slots : List Slot) (J : List Entry) (s : JournalStep) (p k : ℕ) → (own slots J p).stock.asked ≡ length (answers p J) → k ≤ ran p J
    → own_after slots (added J s) p k ≡ own_after slots J p k
unfolding own
earlier slots J s p k asked le =
    ap (λ (xs : List ℕ). lone (start slots p) xs k) (answers-added p J s)
    ∙ longer (start slots p) (answers p J) (answers_by p s) (ran p J) (omega (arith, asked)) k le

-- with the same lone states and as many words called for, the transfer of a device is the same
flight-same : (slots : List Slot) (J K : List Entry) (p d : ℕ) (o : Option (ℕ × ℕ)) → IsPast p (ran p J) o
    → ((k : ℕ) → k ≤ ran p J → own_after slots K p k ≡ own_after slots J p k) → moved d K ≡ moved d J → flight_of slots K p d o ≡ flight_of slots J p d o
flight-same slots J K p d None past kept words = refl
flight-same slots J K p d (Some begun) past kept words =
    ⊎_elim
    (λ (mine : eqb begun.0 p ≡ true).
    let most : begun.1 ≤ ran p J = past mine in
    ap₂ (λ (n : ℕ) (s : State). cond (eqb begun.0 p) (flight_by n d s (next_effect s)) None) words (kept (begun.1 - 1) (omega arith)))
    (λ (other : eqb begun.0 p ≡ false). rw other refl)
    (cases_Bool (eqb begun.0 p))

-- ---- a step that doesn't run program p, or begins no transfer
module _ (slots : List Slot) (J : List Entry) (p : ℕ) (asked : (own slots J p).stock.asked ≡ length (answers p J))
    (past : (d : ℕ) → IsPast p (ran p J) (pending d J)) where
  pub flight-stays : (s : JournalStep) (d : ℕ) → pending_by d (pending d J) s ≡ pending d J → moved_by d (moved_if d J) s ≡ moved_if d J
      → flights_of slots (added J s) p d ≡ flights_of slots J p d
  unfolding flights_of
  flight-stays s d same words =
      ap (flight_of slots (added J s) p d) (pending-added d J s ∙ same)
      ∙ flight-same slots J (added J s) p d (pending d J) (past d) (λ k le. earlier slots J s p k asked le)
      (ap (λ (m : Option ℕ). unwrap_or m 0) (moved_if-added d J s ∙ words))

  -- a device without a transfer has none
  pub none-there : (d : ℕ) → pending d J ≡ None → flights_of slots J p d ≡ None
  unfolding flights_of
  none-there d none = ap (flight_of slots J p d) none

  -- an end takes a transfer away
  ended : (e d : ℕ) → d ≡ e → flights_of slots (added J (Ends e)) p d ≡ None
  unfolding flights_of
  ended e d same =
      ap (flight_of slots (added J (Ends e)) p d) (pending-added d J (Ends e) ∙ ap (λ (b : Bool). cond b None (pending d J)) (eq-eqb e d (sym same)))

  pub flights-end : (e : ℕ) → flights_of slots (added J (Ends e)) p ≡ with_flight e None (flights_of slots J p)
  flights-end e = fun_ext (λ d. ⊎_elim
      (λ (same : d ≡ e). ended e d same ∙ sym (with_flight_is d e None (flights_of slots J p) same))
      (λ (ne : d ≢ e).
      let apart : eqb e d ≡ false = ne_eqb e d (λ x. ne (sym x)) in
      flight-stays (Ends e) d (ap (λ (b : Bool). cond b None (pending d J)) apart) (ap (λ (b : Bool). cond b None (moved_if d J)) apart)
      ∙ sym (with_flight_other e d None (flights_of slots J p) ne))
      (cases_eq d e))

-- ---- more words of a transfer are called for

-- a transfer after m and then n words were called for
called_twice : (m n d : ℕ) (f : Flight) → called_for (m + n) d f ≡ called_for ((called_for m d f).moved + n) d f
called_twice m n d f =
    let same : min (m + n) (move_count d f) ≡ min (min m (move_count d f) + n) (move_count d f) = omega arith in
    ap (λ (k : ℕ). moved_to k f) same

further_by : (m n d : ℕ) (s : State) (e : Effect) → flight_by (m + n) d s e ≡ further d n (flight_by m d s e)
further_by m n d s (Starting x o first last after) = ap (λ (f : Flight). Some f) (called_twice m n d (beginning o first last s))
further_by m n d s (Failing kind) = refl
further_by m n d s e = refl

module _ (slots : List Slot) (J : List Entry) (p : ℕ) (asked : (own slots J p).stock.asked ≡ length (answers p J))
    (past : (d : ℕ) → IsPast p (ran p J) (pending d J)) where
  moved_more : (d n : ℕ) → is_some (pending d J) ≡ true → moved d (added J (Moves d n)) ≡ moved d J + n
  moved_more d n is =
      ap (λ (m : Option ℕ). unwrap_or m 0) (moved_if-added d J (Moves d n)
      ∙ ap (λ (b : Bool). cond b (option_map (λ words. words + n) (moved_if d J)) (moved_if d J)) (eq-eqb d d refl))
      ∙ sum_of n (moved_if d J) (counted d J ∙ is)

  further_of : (d n : ℕ) (o : Option (ℕ × ℕ)) → IsPast p (ran p J) o → (is_some o ≡ true → moved d (added J (Moves d n)) ≡ moved d J + n)
      → flight_of slots (added J (Moves d n)) p d o ≡ further d n (flight_of slots J p d o)
  further_of d n None past words = refl
  further_of d n (Some begun) past words =
      ⊎_elim
      (λ (mine : eqb begun.0 p ≡ true).
      let most : begun.1 ≤ ran p J = past mine in
      ap₂ (λ (m : ℕ) (s : State). cond (eqb begun.0 p) (flight_by m d s (next_effect s)) None) (words refl)
      (earlier slots J (Moves d n) p (begun.1 - 1) asked (omega arith))
      ∙ ap (λ (b : Bool). cond b (flight_by (moved d J + n) d (own_after slots J p (begun.1 - 1)) (next_effect (own_after slots J p (begun.1 - 1)))) None) mine
      ∙ further_by (moved d J) n d (own_after slots J p (begun.1 - 1)) (next_effect (own_after slots J p (begun.1 - 1)))
      ∙ sym (ap (λ (b : Bool). further d n (cond b (flight_from slots J p d begun.1) None)) mine))
      (λ (other : eqb begun.0 p ≡ false). rw other refl)
      (cases_Bool (eqb begun.0 p))

  further-there : (d n : ℕ) → flights_of slots (added J (Moves d n)) p d ≡ further d n (flights_of slots J p d)
  unfolding flights_of
  further-there d n =
      ap (flight_of slots (added J (Moves d n)) p d) (pending-added d J (Moves d n))
      ∙ further_of d n (pending d J) (past d) (moved_more d n)

  -- words of a transfer are called for
  pub flights-move : (e n : ℕ) → flights_of slots (added J (Moves e n)) p ≡ with_flight e (further e n (flights_of slots J p e)) (flights_of slots J p)
  flights-move e n = fun_ext (λ d. ⊎_elim
      (λ (same : d ≡ e).
      ap (flights_of slots (added J (Moves e n)) p) same
      ∙ further-there e n
      ∙ sym (with_flight_is d e (further e n (flights_of slots J p e)) (flights_of slots J p) same))
      (λ (ne : d ≢ e).
      let apart : eqb e d ≡ false = ne_eqb e d (λ x. ne (sym x)) in
      flight-stays slots J p asked past (Moves e n) d refl (ap (λ (b : Bool). cond b (option_map (λ words. words + n) (moved_if d J)) (moved_if d J)) apart)
      ∙ sym (with_flight_other e d (further e n (flights_of slots J p e)) (flights_of slots J p) ne))
      (cases_eq d e))

-- ---- an order

-- an order of a program that began a transfer
abbrev pub begun_at : ℕ → ℕ → Option (ℕ × ℕ)
begun_at p k = Some (p, k)

-- the transfer of device x after an effect, which own order k of program p had
abbrev pub pending_behind : ℕ → ℕ → ℕ → Option (ℕ × ℕ) → Effect → Option (ℕ × ℕ)
pending_behind p k x o (Starting d order first last after) = cond (eqb d x) (begun_at p k) o
pending_behind p k x o e = o

pub pending-obeys : (p x : ℕ) (o : Option (ℕ × ℕ)) (answer : Question → ℕ) (e : Effect) (s : State)
    → pending_by x o (Obeys p (note_of_outcome (done_by answer e s))) ≡ pending_behind p (s.registers.ran + 1) x o e
pending-obeys p x o answer (Failing kind) s = refl
pending-obeys p x o answer (Asking (FreeOf kind) after) s = refl
pending-obeys p x o answer (Returning true d after) s = refl
pending-obeys p x o answer (Returning false d after) s = refl
pending-obeys p x o answer e s = refl

-- and the words that were called for
abbrev moved_behind : ℕ → Option ℕ → Effect → Option ℕ
moved_behind x m (Starting d order first last after) = cond (eqb d x) (Some 0) m
moved_behind x m e = m

moved-obeys : (p x : ℕ) (m : Option ℕ) (answer : Question → ℕ) (e : Effect) (s : State) → moved_by x m (Obeys p (note_of_outcome (done_by answer e s)))
    ≡ moved_behind x m e
moved-obeys p x m answer (Failing kind) s = refl
moved-obeys p x m answer (Asking (FreeOf kind) after) s = refl
moved-obeys p x m answer (Returning true d after) s = refl
moved-obeys p x m answer (Returning false d after) s = refl
moved-obeys p x m answer e s = refl

module _ (slots : List Slot) (J : List Entry) (p : ℕ) (answer : Question → ℕ) (asked : (own slots J p).stock.asked ≡ length (answers p J))
    (past : (d : ℕ) → IsPast p (ran p J) (pending d J)) (count : (own slots J p).registers.ran ≡ ran p J) where
  abbrev noted : Effect → Note
  noted e = note_of_outcome (done_by answer e (own slots J p))

  -- the next order met the state that the program has
  met : (e : Effect) → own_after slots (added J (Obeys p (noted e))) p ((own slots J p).registers.ran + 1 - 1) ≡ own slots J p
  unfolding own
  met e =
      let this : (lone (start slots p) (answers p J) (ran p J)).registers.ran + 1 - 1 ≡ ran p J = omega (arith, count) in
      ap (own_after slots (added J (Obeys p (noted e))) p) this ∙ earlier slots J (Obeys p (noted e)) p (ran p J) asked (omega arith)

  began : (d x : ℕ) (o : TransferOrder) (first last : ℕ) (after : Registers) → next_effect (own slots J p) ≡ Starting d o first last after → x ≡ d
      → flights_of slots (added J (Obeys p (noted (Starting d o first last after)))) p x ≡ Some (beginning o first last (own slots J p))
  unfolding flights_of
  began d x o first last after is same =
      let K : List Entry = added J (Obeys p (noted (Starting d o first last after))) in
      let k : ℕ = (own slots J p).registers.ran + 1 in
      let this : eqb d x ≡ true = eq-eqb d x (sym same) in
      let there : pending x K ≡ begun_at p k = pending-added x J (Obeys p (noted (Starting d o first last after)))
      ∙ ap (λ (b : Bool). cond b (begun_at p k) (pending x J)) this in
      let none : moved x K ≡ 0 = ap (λ (m : Option ℕ). unwrap_or m 0) (moved_if-added x J (Obeys p (noted (Starting d o first last after)))
      ∙ ap (λ (b : Bool). cond b (Some 0) (moved_if x J)) this) in
      ap (flight_of slots K p x) there
      ∙ ap (λ (b : Bool). cond b (flight_from slots K p x k) None) (eq-eqb p p refl)
      ∙ ap₂ (λ (m : ℕ) (s : State). flight_by m x s (next_effect s)) none (met (Starting d o first last after))
      ∙ ap (flight_by 0 x (own slots J p)) is
      ∙ ap (λ (m : ℕ). Some (moved_to m (beginning o first last (own slots J p)))) (zero-min (move_count x (beginning o first last (own slots J p))))

  went : (e : Effect) → next_effect (own slots J p) ≡ e → (x : ℕ) → flights_of slots (added J (Obeys p (noted e))) p x ≡ flights_after (flights_of slots J p)
      (own slots J p) e x
  went (Starting d o first last after) is x =
      ⊎_elim
      (λ (same : x ≡ d).
      began d x o first last after is same
      ∙ sym (with_flight_is x d (Some (beginning o first last (own slots J p))) (flights_of slots J p) same))
      (λ (ne : x ≢ d).
      let apart : eqb d x ≡ false = ne_eqb d x (λ y. ne (sym y)) in
      flight-stays slots J p asked past (Obeys p (noted (Starting d o first last after))) x
      (ap (λ (b : Bool). cond b (begun_at p ((own slots J p).registers.ran + 1)) (pending x J)) apart)
      (ap (λ (b : Bool). cond b (Some 0) (moved_if x J)) apart)
      ∙ sym (with_flight_other d x (Some (beginning o first last (own slots J p))) (flights_of slots J p) ne))
      (cases_eq x d)
  went (Failing kind) is x = flight-stays slots J p asked past (Obeys p (noted (Failing kind))) x refl refl
  went (Asking (FreeOf kind) after) is x = flight-stays slots J p asked past (Obeys p (noted (Asking (FreeOf kind) after))) x refl refl
  went (Returning true d after) is x = flight-stays slots J p asked past (Obeys p (noted (Returning true d after))) x refl refl
  went (Returning false d after) is x = flight-stays slots J p asked past (Obeys p (noted (Returning false d after))) x refl refl
  went (Asking question after) is x = flight-stays slots J p asked past (Obeys p (noted (Asking question after))) x refl refl
  went e is x = flight-stays slots J p asked past (Obeys p (noted e)) x refl refl

  -- an order that begins a transfer makes it one of those in flight, and no other changes them
  pub flights-obey : flights_of slots (added J (Obeys p (noted (next_effect (own slots J p))))) p ≡ flights_after (flights_of slots J p) (own slots J p)
      (next_effect (own slots J p))
  flights-obey = fun_ext (went (next_effect (own slots J p)) refl)

-- ---- what a transfer is
some_is : (f g : Flight) → Some f ≡ Some g → f ≡ g
some_is f g e = cc

told_by : (n d : ℕ) (s : State) (e : Effect) (f : Flight) → flight_by n d s e ≡ Some f → (f.before ≡ s) × (f.moved ≡ min n (move_count d f))
told_by n d s (Starting x o first last after) f is =
    let same : called_for n d (beginning o first last s) ≡ f = some_is (called_for n d (beginning o first last s)) f is in (
      sym (ap (λ (g : Flight). g.before) same),
      sym (ap (λ (g : Flight). g.moved) same) ∙ ap (λ (g : Flight). min n (move_count d g)) same,
    )
told_by n d s e f is = cc

told_if : (slots : List Slot) (J : List Entry) (p d k : ℕ) (b : Bool) (f : Flight) → cond b (flight_from slots J p d k) None ≡ Some f
    → (f.before ≡ own_after slots J p (k - 1)) × (f.moved ≡ min (moved d J) (move_count d f))
told_if slots J p d k true f is = told_by (moved d J) d (own_after slots J p (k - 1)) (next_effect (own_after slots J p (k - 1))) f is
told_if slots J p d k false f is = cc

-- it met the lone state that its order met, and has moved as many words as were called for, at most all
pub flight-told : (slots : List Slot) (J : List Entry) (p d k : ℕ) (f : Flight) → pending d J ≡ Some (p, k) → flights_of slots J p d ≡ Some f
    → (f.before ≡ own_after slots J p (k - 1)) × (f.moved ≡ min (moved d J) (move_count d f))
unfolding flights_of
flight-told slots J p d k f at is = told_if slots J p d k (eqb p p) f (sym (ap (flight_of slots J p d) at) ∙ is)
