-- Journals that are judged alike, at this moment and after each step more, go on alike.
use Rattle.std.proofs.Common.{◌≡◌, ℕ, ◌-◌, ◌<◌, ◌≤◌, ◌^◌, List, [], ◌∷◌, ◌++◌, Option, Some, None, is_some, Bool, true, false, cond, ◌||◌, ◌&&◌, not, eqb, ◌⊎◌}
use Rattle.std.proofs.Common.{inl, inr, refl, sym, ◌∙◌, ap, ap₂, subst, append_assoc}
use Rattle.std.specs.Prelude.{find, unwrap_or}
use Rattle.std.specs.List.{filter, range_with_len, list_any}
use Rattle.std.proofs.Math.Path.{fun_ext}
use Rattle.std.proofs.lemmas.Bool.{true≢false}
use Rattle.kdf_journal.specs.declared.entry.Entry.{Entry}
use Rattle.kdf_journal.specs.declared.kind.Kind.{Kind}
use Rattle.kdf_journal.specs.Counts.{answers, clock, holder, last_hold, moved_if, over, pending, priorities, ran, slot_numbers, taker, unless_over}
use Rattle.kdf_journal.specs.Steps.{Note, Answered, Took, Gave, JournalStep, Obeys, Holds, Waits, Moves, Ends, Sets, Swaps, added, journal_of, steps}
use Rattle.kdf_journal.proofs.Added.{ends_by, over-added, taker-added, taker_by}
use Rattle.kdf_journal.proofs.Steps.{steps-journal_of}
use Rattle.kdf_schedule.specs.declared.event.Event.{Event}
use Rattle.kdf_schedule.specs.Calls.{Call, calls_made}
use Rattle.kdf_schedule.proofs.Schedules.{calls_made-append}
use Rattle.kdf_journal.specs.declared.need.Need.{Need}
use Rattle.kdf_journal.specs.declared.need.Need.TheVariants.{Group, Device, Pool}
use Rattle.kdf_processor.specs.Effect.{Question, IsBusy, IsOut, Time, FreeOf, OfService, Effect, Asking}
use Rattle.kdf_processor.specs.Lone.{lone}
use Rattle.kdf_processor.specs.Needs.{next_effect}
use Rattle.kdf_processor.specs.State.{State, pool_kind_at}
use Rattle.kdf_transfer.specs.ByNumber.{device_count}
use Rattle.kdf_transfer.specs.Devices.{is_kind}
use Rattle.kdf_transfer.specs.Slots.{Slot}
use Rattle.kdf_course.specs.Follows.{answered, EachLive, Reaches}
use Rattle.kdf_course.specs.Legal as course
use Rattle.kdf_course.specs.World as any
use Rattle.kdf_course.proofs.Fronts.{fronts_same}
use Rattle.kdf_course.proofs.Reaching.{answered-append, whole-on}
use Rattle.kdf_course.proofs.Steps.{legal-journal_of}
use Rattle.kdf_theory.specs.ByJournal.{flight_by, flight_from, flight_of, flights_of, free_after, is_of, is_pending_after, lone_world, mine_after, own}
use Rattle.kdf_theory.specs.Flights.{Flight}
use Rattle.kdf_theory.specs.Legal.{any_answer, note_of, EachMeets, IsAnswer, Meets}
use Rattle.kdf_theory.specs.Next.{dispatched, lone_dispatched, there_in}
use Rattle.kdf_theory.specs.Seen.{touched_below}
use Rattle.kdf_theory.specs.Served.{is_served, is_true_for, IsJournalFor}
use Rattle.kdf_theory.specs.Slots.{start}
use Rattle.kdf_theory.specs.True.{known}
use Rattle.kdf_theory.specs.World.{World}
use Rattle.kdf_theory.proofs.Course.OneJournal.{resumed_for}

-- ---- the holders of the pool's devices with a step more

-- the holder of a device after a step that neither takes it nor gives it back
abbrev holder_by : JournalStep → Option ℕ → Option ℕ
holder_by s None = None
holder_by s (Some p) = cond (ends_by p s) None (Some p)

by_over : (s : JournalStep) (p : ℕ) (a b : Bool) → ends_by p s ≡ a → cond (a || b) None (Some p) ≡ holder_by s (cond b None (Some p))
by_over s p true true e = refl
by_over s p true false e = sym (ap (λ (x : Bool). cond x None (Some p)) e)
by_over s p false true e = refl
by_over s p false false e = sym (ap (λ (x : Bool). cond x None (Some p)) e)

unless_added : (J : List Entry) (s : JournalStep) (o : Option ℕ) → unless_over (added J s) o ≡ holder_by s (unless_over J o)
unless_added J s None = refl
unless_added J s (Some p) = ap (λ (b : Bool). cond b None (Some p)) (over-added p J s) ∙ by_over s p (ends_by p s) (over p J) refl

module _ (J K : List Entry) (s : JournalStep) (ended : (p : ℕ) → over p J ≡ over p K) where
  pub ended_added : (p : ℕ) → over p (added J s) ≡ over p (added K s)
  ended_added p = over-added p J s ∙ ap (λ (b : Bool). ends_by p s || b) (ended p) ∙ sym (over-added p K s)

  stays : (o u : Option ℕ) → unless_over J o ≡ unless_over K u → unless_over (added J s) o ≡ unless_over (added K s) u
  stays o u same = unless_added J s o ∙ ap (holder_by s) same ∙ sym (unless_added K s u)

  new_one : (o : Option ℕ) → unless_over (added J s) o ≡ unless_over (added K s) o
  new_one None = refl
  new_one (Some p) = ap (λ (b : Bool). cond b None (Some p)) (ended_added p)

  changed : (b : Bool) (new o u : Option ℕ) → unless_over J o ≡ unless_over K u → unless_over (added J s) (cond b new o) ≡ unless_over (added K s)
      (cond b new u)
  changed true new o u same = new_one new
  changed false new o u same = stays o u same

by_step : (J K : List Entry) (s : JournalStep) → ((p : ℕ) → over p J ≡ over p K) → (d : ℕ) (o u : Option ℕ) → unless_over J o ≡ unless_over K u
    → unless_over (added J s) (taker_by d o s) ≡ unless_over (added K s) (taker_by d u s)
by_step J K (Obeys p (Took e)) ended d o u same = changed J K (Obeys p (Took e)) ended (eqb e d) (Some p) o u same
by_step J K (Obeys p (Gave e)) ended d o u same = changed J K (Obeys p (Gave e)) ended (eqb e d) None o u same
by_step J K s ended d o u same = stays J K s ended o u same

pub lent_added : (J K : List Entry) (s : JournalStep) → ((p : ℕ) → over p J ≡ over p K) → (d : ℕ) → holder d J ≡ holder d K
    → holder d (added J s) ≡ holder d (added K s)
lent_added J K s ended d same =
    ap (unless_over (added J s)) (taker-added d J s)
    ∙ by_step J K s ended d (taker d J) (taker d K) same
    ∙ sym (ap (unless_over (added K s)) (taker-added d K s))

-- ---- what journals are judged by

abbrev make : (ℕ → State) → (ℕ → Need → Bool) → (ℕ → List ℕ) → (ℕ → Kind → Option ℕ) → World
make states pending mine free = record { state = states; pending = pending; mine = mine; free = free }

module _ (slots : List Slot) (J K : List Entry) where
  pub own_alike : (p : ℕ) → ran p J ≡ ran p K → answers p J ≡ answers p K → own slots J p ≡ own slots K p
  unfolding own
  own_alike p orders answered = ap₂ (λ (vs : List ℕ) (n : ℕ). lone (start slots p) vs n) answered orders

  module _ (p d : ℕ) (answered : answers p J ≡ answers p K) (called : moved_if d J ≡ moved_if d K) where
    from_alike : (k : ℕ) → flight_from slots J p d k ≡ flight_from slots K p d k
    from_alike k =
        ap₂ (λ (n : ℕ) (s : State). flight_by n d s (next_effect s)) (ap (λ (m : Option ℕ). unwrap_or m 0) called)
        (ap (λ (vs : List ℕ). lone (start slots p) vs (k - 1)) answered)

    of_alike : (o : Option (ℕ × ℕ)) → flight_of slots J p d o ≡ flight_of slots K p d o
    of_alike None = refl
    of_alike (Some begun) = ap (λ (f : Option Flight). cond (eqb begun.0 p) f None) (from_alike begun.1)

    pub flight_alike : pending d J ≡ pending d K → flights_of slots J p d ≡ flights_of slots K p d
    unfolding flights_of
    flight_alike flying = ap (flight_of slots J p d) flying ∙ of_alike (pending d K)

  pub mine_alike : (p : ℕ) → ((d : ℕ) → pending d J ≡ pending d K) → mine_after J p ≡ mine_after K p
  unfolding mine_after
  mine_alike p flying = ap (λ (test : ℕ → Bool). filter test (range_with_len 0 device_count)) (fun_ext (λ d. ap (is_of p) (flying d)))

  pub free_alike : (p : ℕ) → ((d : ℕ) → holder d J ≡ holder d K) → (kind : Kind) → free_after slots J p kind ≡ free_after slots K p kind
  unfolding free_after
  free_alike p lent kind =
      ap (λ (test : ℕ → Bool). find test (range_with_len 0 device_count))
      (fun_ext (λ d. ap (λ (h : Option ℕ). is_kind kind (pool_kind_at (start slots p).stock.claims d) && not (is_some h)) (lent d)))

  pending_alike : (p : ℕ) → ((d : ℕ) → flights_of slots J p d ≡ flights_of slots K p d) → ((d : ℕ) → pending d J ≡ pending d K)
      → ((d : ℕ) → holder d J ≡ holder d K) → (n : Need) → is_pending_after slots J p n ≡ is_pending_after slots K p n
  pending_alike p flights flying lent (Group g) = ap (λ (fs : ℕ → Option Flight). touched_below device_count fs g) (fun_ext flights)
  pending_alike p flights flying lent (Device d) = ap is_some (flying d)
  pending_alike p flights flying lent (Pool kind) = ap (λ (o : Option ℕ). not (is_some o)) (free_alike p lent kind)

  pub world_alike : ((p : ℕ) → own slots J p ≡ own slots K p) → ((p d : ℕ) → flights_of slots J p d ≡ flights_of slots K p d)
      → ((d : ℕ) → pending d J ≡ pending d K) → ((d : ℕ) → holder d J ≡ holder d K) → lone_world slots J ≡ lone_world slots K
  world_alike states flights flying lent =
      ap₂ (λ (s : ℕ → State) (b : ℕ → Need → Bool). make s b (mine_after J) (free_after slots J))
      (fun_ext states) (fun_ext (λ p. fun_ext (pending_alike p (flights p) flying lent)))
      ∙ ap₂ (λ (m : ℕ → List ℕ) (f : ℕ → Kind → Option ℕ). make (own slots K) (is_pending_after slots K) m f)
      (fun_ext (λ p. mine_alike p flying)) (fun_ext (λ p. fun_ext (free_alike p lent)))

-- the journals are judged alike
pub record IsJudged (slots : List Slot) (J K : List Entry) : Type 0 where
  pub world : lone_world slots J ≡ lone_world slots K
  pub ended : (p : ℕ) → over p J ≡ over p K
  pub hold : (p : ℕ) → last_hold p J ≡ last_hold p K
  pub time : clock J ≡ clock K
  pub order : priorities J ≡ priorities K

pub live_alike : (there : ℕ → Bool) (J K : List Entry) → ((p : ℕ) → over p J ≡ over p K) → any.any_live there J ≡ any.any_live there K
unfolding any.any_live any.lives
live_alike there J K ended = ap (λ (f : ℕ → Bool). list_any f slot_numbers) (fun_ext (λ p. ap (λ (b : Bool). there p && not b) (ended p)))

next_alike : (w : any.Dispatch) (J K : List Entry) → ((p : ℕ) → over p J ≡ over p K) → ((p : ℕ) → last_hold p J ≡ last_hold p K) → priorities J ≡ priorities K
    → any.next w J ≡ any.next w K
unfolding any.next any.can_go any.lives
next_alike w J K ended hold order =
    ap₂ find (fun_ext (λ p. ap₂ (λ (b : Bool) (o : Option Need). (w.there p && not b) && not (any.stands w p o)) (ended p) (hold p))) order

module _ (slots : List Slot) (J K : List Entry) (is : IsJudged slots J K) where
  pub own_is : (p : ℕ) → own slots J p ≡ own slots K p
  own_is p = ap (λ (w : World). w.state p) is.world

  next_is : any.next (lone_dispatched slots J) J ≡ any.next (lone_dispatched slots K) K
  next_is = ap (λ (w : World). any.next (dispatched slots w) J) is.world ∙ next_alike (lone_dispatched slots K) J K is.ended is.hold is.order

  held_is : (p : ℕ) → (lone_dispatched slots J).held p ≡ (lone_dispatched slots K).held p
  held_is p = ap (λ (w : World). (dispatched slots w).held p) is.world

  -- a step that meets the rules after the one does so after the other
  pub meets_alike : (a b : ℕ → Note → Type 0) → ((p : ℕ) (n : Note) → a p n → b p n) → (s : JournalStep) → course.Meets (lone_dispatched slots J) a J s
      → course.Meets (lone_dispatched slots K) b K s
  meets_alike a b within (Obeys p n) m = (sym next_is ∙ m.0, sym (held_is p) ∙ m.1, within p n m.2)
  meets_alike a b within (Holds p by) m = (sym next_is ∙ m.0, sym (held_is p) ∙ m.1)
  meets_alike a b within Waits m = (sym (live_alike (there_in slots) J K is.ended) ∙ m.0, sym next_is ∙ m.1)
  meets_alike a b within (Moves d n) m = m
  meets_alike a b within (Ends d) m = m
  meets_alike a b within (Sets t) m = subst (λ (u : ℕ). u ≤ t) is.time m
  meets_alike a b within (Swaps p q) m = m

  any_alike : (p : ℕ) (n : Note) → any_answer slots J p n → any_answer slots K p n
  any_alike p n m = (m.0, m.1 ∙ ap (λ (s : State). note_of s (λ _. m.0)) (own_is p))

  pub truly_alike : (heard : ℕ) (s : JournalStep) → Meets (lone_world slots J) slots J heard s → Meets (lone_world slots K) slots K heard s
  truly_alike heard s m =
      meets_alike _ _
      (λ p n e. e ∙ ap₂ (λ (w : World) (t : ℕ). note_of (w.state p) (known (w.pending p) t (w.free p) heard)) is.world is.time)
      s m

  pub legally_alike : (s : JournalStep) → course.Meets (lone_dispatched slots J) (any_answer slots J) J s
      → course.Meets (lone_dispatched slots K) (any_answer slots K) K s
  legally_alike s m = meets_alike (any_answer slots J) (any_answer slots K) any_alike s m

  module _ (service : ℕ → ℕ → Type 0) (p : ℕ) where
    truth_alike : (v : ℕ) (q : Question) → v ≡ known ((lone_world slots J).pending p) (clock J) ((lone_world slots J).free p) v q
        → v ≡ known ((lone_world slots K).pending p) (clock K) ((lone_world slots K).free p) v q
    truth_alike v q e = e ∙ ap₂ (λ (w : World) (t : ℕ). known (w.pending p) t (w.free p) v q) is.world is.time

    answer_alike : (e : Effect) (v : ℕ) → IsAnswer e (is_served service slots J p) v → IsAnswer e (is_served service slots K p) v
    answer_alike (Asking (IsBusy d) after) v m = truth_alike v (IsBusy d) m
    answer_alike (Asking (IsOut first last) after) v m = truth_alike v (IsOut first last) m
    answer_alike (Asking Time after) v m = truth_alike v Time m
    answer_alike (Asking (FreeOf kind) after) v m = truth_alike v (FreeOf kind) m
    answer_alike (Asking (OfService word) after) v m = m
    answer_alike e v m = tt

    told_alike : (v : ℕ) → IsAnswer (next_effect (own slots J p)) (is_served service slots J p) v
        → IsAnswer (next_effect (own slots K p)) (is_served service slots K p) v
    told_alike v m = answer_alike (next_effect (own slots K p)) v (subst (λ (s : State). IsAnswer (next_effect s) (is_served service slots J p) v) (own_is p) m)

    note_alike : (n : Note) → is_true_for service slots J p n → is_true_for service slots K p n
    note_alike (Answered v) m = told_alike v m
    note_alike (Took d) m = told_alike d m
    note_alike n m = tt

  pub noted_alike : (service : ℕ → ℕ → Type 0) (s : JournalStep) → course.Noted (is_true_for service slots J) s → course.Noted (is_true_for service slots K) s
  noted_alike service (Obeys p n) m = note_alike service p n m
  noted_alike service s m = tt

-- ---- the same steps more

live_before : (W : List Entry → any.Dispatch) (s : JournalStep) (Q P : List JournalStep) → EachLive W ((s ∷ Q) ++ P)
    → any.any_live (W (journal_of P)).there (journal_of P)
    ≡ true
live_before W s [] P l = l.1
live_before W s (t ∷ Q) P l = live_before W t Q P l.0

-- a relation that each step keeps, and by which journals are judged alike
module _ (slots : List Slot) (Alike : List Entry → List Entry → Type 0)
    (keeps : (J K : List Entry) (s : JournalStep) → Alike J K → Alike (added J s) (added K s))
    (judged : (J K : List Entry) → Alike J K → IsJudged slots J K) where
  abbrev W : List Entry → any.Dispatch
  W = lone_dispatched slots

  pub alike_on : (Q P R : List JournalStep) → Alike (journal_of P) (journal_of R) → Alike (journal_of (Q ++ P)) (journal_of (Q ++ R))
  alike_on [] P R a = a
  alike_on (s ∷ Q) P R a = keeps (journal_of (Q ++ P)) (journal_of (Q ++ R)) s (alike_on Q P R a)

  module _ (P R : List JournalStep) (a : Alike (journal_of P) (journal_of R)) where
    judged_on : (Q : List JournalStep) → IsJudged slots (journal_of (Q ++ P)) (journal_of (Q ++ R))
    judged_on Q = judged (journal_of (Q ++ P)) (journal_of (Q ++ R)) (alike_on Q P R a)

    meets_on : (Q : List JournalStep) → EachMeets slots (Q ++ P) → EachMeets slots R → EachMeets slots (Q ++ R)
    meets_on [] m r = r
    meets_on (s ∷ Q) m r = (meets_on Q m.0 r, legally_alike slots (journal_of (Q ++ P)) (journal_of (Q ++ R)) (judged_on Q) s m.1)

    noted_on : (service : ℕ → ℕ → Type 0) (Q : List JournalStep) → course.EachNoted (is_true_for service slots) (Q ++ P)
        → course.EachNoted (is_true_for service slots) R → course.EachNoted (is_true_for service slots) (Q ++ R)
    noted_on service [] m r = r
    noted_on service (s ∷ Q) m r = (noted_on service Q m.0 r, noted_alike slots (journal_of (Q ++ P)) (journal_of (Q ++ R)) (judged_on Q) service s m.1)

    live_on : (Q : List JournalStep) → any.any_live (there_in slots) (journal_of (Q ++ P)) ≡ any.any_live (there_in slots) (journal_of (Q ++ R))
    live_on Q = live_alike (there_in slots) (journal_of (Q ++ P)) (journal_of (Q ++ R)) (judged_on Q).ended

    lived_on : (Q : List JournalStep) → EachLive W (Q ++ P) → EachLive W R → EachLive W (Q ++ R)
    lived_on [] l r = r
    lived_on (s ∷ Q) l r = (lived_on Q l.0 r, sym (live_on Q) ∙ l.1)

    -- the calls that take the one further take the other as far
    reaches_on : (Q : List JournalStep) (cs left : List Call) → answered Q ++ left ≡ cs → EachLive W (Q ++ P)
        → (left ≡ []) ⊎ (any.any_live (there_in slots) (journal_of (Q ++ P)) ≡ false) → Reaches W R cs (Q ++ R)
    reaches_on Q cs left order lived end = record {
      more = Q;
      goes_on = refl;
      left = left;
      in_order = order;
      lived = lived_on Q lived;
      at_end = ends end;
    }
      where
        ends : (left ≡ []) ⊎ (any.any_live (there_in slots) (journal_of (Q ++ P)) ≡ false)
            → (left ≡ []) ⊎ (any.any_live (there_in slots) (journal_of (Q ++ R)) ≡ false)
        ends (inl none) = inl none
        ends (inr dead) = inr (sym (live_on Q) ∙ dead)

    -- where the rest of the calls before it is known
    by_rest : (Q : List JournalStep) (cs rest left : List Call) → (rest ≡ []) ⊎ (any.any_live (there_in slots) (journal_of P) ≡ false)
        → answered Q ++ left ≡ rest ++ cs → EachLive W (Q ++ P) → (left ≡ []) ⊎ (any.any_live (there_in slots) (journal_of (Q ++ P)) ≡ false)
        → Reaches W R cs (Q ++ R)
    by_rest Q cs rest left (inl none) order lived end = reaches_on Q cs left (order ∙ ap (λ (xs : List Call). xs ++ cs) none) lived end
    by_rest [] cs rest left (inr dead) order lived end = reaches_on [] cs cs refl lived (inr dead)
    by_rest (s ∷ Q) cs rest left (inr dead) order lived end = absurd (true≢false (sym (live_before W s Q P lived) ∙ dead))

  module _ (service : ℕ → ℕ → Type 0) (one : (n a b : ℕ) → n < 2 ^ 48 → service n a → service n b → a ≡ b) (events others further : List Event)
      (J K L : List Entry) (j : IsJournalFor service slots events J) (k : IsJournalFor service slots others K)
      (l : IsJournalFor service slots (events ++ further) L) (a : Alike J K) where
    longer : (Q : List JournalStep) × (steps L ≡ Q ++ steps J)
    longer = resumed_for service slots one events further J L j l

    abbrev Q : List JournalStep
    Q = longer.0

    abbrev M : List Entry
    M = journal_of (Q ++ steps K)

    here : Alike (journal_of (steps J)) (journal_of (steps K))
    here = subst (λ (X : List Entry). Alike X (journal_of (steps K))) (sym j.legal.in_form) (subst (Alike J) (sym k.legal.in_form) a)

    is_l : journal_of (Q ++ steps J) ≡ L
    is_l = ap journal_of (sym longer.1) ∙ l.legal.in_form

    steps_m : steps M ≡ Q ++ steps K
    steps_m = steps-journal_of (Q ++ steps K)

    order : answered Q ++ l.whole.left ≡ j.whole.left ++ calls_made further
    order =
        (fronts_same (answered (steps J)) (answered (steps J)) (answered Q ++ l.whole.left) (j.whole.left ++ calls_made further) refl
        (sym (append_assoc (answered (steps J)) (answered Q) l.whole.left)
        ∙ ap (λ (xs : List Call). xs ++ l.whole.left) (sym (answered-append Q (steps J)) ∙ ap answered (sym longer.1))
        ∙ l.whole.follows.in_order
        ∙ calls_made-append events further
        ∙ ap (λ (xs : List Call). xs ++ calls_made further) (sym j.whole.follows.in_order)
        ∙ append_assoc (answered (steps J)) j.whole.left (calls_made further))).1

    reach : Reaches W (steps K) (calls_made further) (Q ++ steps K)
    reach =
        by_rest (steps J) (steps K) here Q (calls_made further) j.whole.left l.whole.left
        (subst (λ (X : List Entry). (j.whole.left ≡ []) ⊎ (any.any_live (there_in slots) X ≡ false)) (sym j.legal.in_form) j.whole.at_end)
        order
        (subst (EachLive W) longer.1 l.whole.follows.lived)
        (subst (λ (X : List Entry). (l.whole.left ≡ []) ⊎ (any.any_live (there_in slots) X ≡ false)) (sym is_l) l.whole.at_end)

    pub future : (S : List JournalStep) × (steps L ≡ S ++ steps J) × IsJournalFor service slots (others ++ further) (journal_of (S ++ steps K))
        × Alike L (journal_of (S ++ steps K))
    future = (
      Q,
      longer.1,
      record {
        legal = legal-journal_of W (any_answer slots) (Q ++ steps K)
            (meets_on (steps J) (steps K) here Q (subst (EachMeets slots) longer.1 l.legal.each) k.legal.each);
        truly = subst (course.EachNoted (is_true_for service slots)) (sym steps_m)
            (noted_on (steps J) (steps K) here service Q (subst (course.EachNoted (is_true_for service slots)) longer.1 l.truly) k.truly);
        whole = rw calls_made-append (whole-on W (calls_made others) (calls_made further) K M k.legal.in_form (ap journal_of steps_m) k.whole
            (subst (Reaches W (steps K) (calls_made further)) (sym steps_m) reach));
      },
      subst (λ (X : List Entry). Alike X M) is_l (alike_on Q (steps J) (steps K) here),
    )
