-- Of two legal journals that answer the same calls the shorter one is a front of the longer one, where at most one note is
-- admitted.
use Rattle.std.proofs.Common.{◌≡◌, ◌≢◌, ℕ, ◌≤◌, ◌<◌, List, [], ◌∷◌, ◌++◌, Some, true, false, ◌⊎◌, inl, inr, refl, sym, ◌∙◌, ap, subst, arith, append_assoc}
use Rattle.std.proofs.Common.{length, length-append, ⊎_elim}
use Rattle.std.proofs.lemmas.Bool.{cases_lt, cases_eq, false≢true}
use Rattle.kdf_journal.specs.declared.entry.Entry.{Entry}
use Rattle.kdf_journal.specs.Steps.{Note, Quiet, JournalStep, Obeys, Holds, Waits, Moves, Ends, Sets, Swaps, journal_of, steps}
use Rattle.kdf_schedule.specs.declared.event.Event.{Event}
use Rattle.kdf_schedule.specs.Calls.{Call, calls_made}
use Rattle.kdf_schedule.proofs.Schedules.{calls_made-append}
use Rattle.kdf_course.specs.World.{Dispatch, any_live}
use Rattle.kdf_course.specs.Legal.{Meets, EachMeets, IsLegal, IsOne, Noted}
use Rattle.kdf_course.specs.Course.{step_at}
use Rattle.kdf_course.specs.Follows.{call_of, answered, EachLive, Follows, IsWhole, IsJournal}

-- a step that meets the rules is the one that its call makes, with its note
pub determined : (w : Dispatch) (admits : ℕ → Note → Type 0) (note : ℕ → Note) (J : List Entry) (s : JournalStep) → Meets w admits J s
    → Noted (λ p n. n ≡ note p) s
    → s ≡ step_at w note J (call_of s)
determined w admits note J (Obeys p n) m is = rw (m.0, m.1) (ap (λ (x : Note). Obeys p x) is)
determined w admits note J (Holds p by) m is = rw (m.0, m.1) refl
determined w admits note J Waits m is = rw m.1
determined w admits note J (Moves d n) m is = refl
determined w admits note J (Ends d) m is = refl
determined w admits note J (Sets t) m is = refl
determined w admits note J (Swaps p q) m is = refl

-- the note of a step, or another where it has none
abbrev note_in : JournalStep → Note → Note
note_in (Obeys p n) other = n
note_in s other = other

noted-in : (s : JournalStep) (other : Note) → Noted (λ p n. n ≡ note_in s other) s
noted-in (Obeys p n) other = refl
noted-in (Holds p by) other = tt
noted-in Waits other = tt
noted-in (Moves d n) other = tt
noted-in (Ends d) other = tt
noted-in (Sets t) other = tt
noted-in (Swaps p q) other = tt

some_same : (p q : ℕ) → Some p ≡ Some q → p ≡ q
some_same p q e = cc

noted-like : (w : Dispatch) (admits : ℕ → Note → Type 0) (one : (p : ℕ) (n m : Note) → admits p n → admits p m → n ≡ m) (J : List Entry) (s t : JournalStep)
    → Meets w admits J s → Meets w admits J t → Noted (λ p n. n ≡ note_in s (note_in t Quiet)) t
noted-like w admits one J (Obeys p n) (Obeys q m) a b =
    let same : p ≡ q = some_same p q (sym a.0 ∙ b.0) in
    one q m n b.2 (subst (λ (r : ℕ). admits r n) same a.2)
noted-like w admits one J (Holds p by) (Obeys q m) a b = refl
noted-like w admits one J Waits (Obeys q m) a b = refl
noted-like w admits one J (Moves d k) (Obeys q m) a b = refl
noted-like w admits one J (Ends d) (Obeys q m) a b = refl
noted-like w admits one J (Sets u) (Obeys q m) a b = refl
noted-like w admits one J (Swaps r k) (Obeys q m) a b = refl
noted-like w admits one J s (Holds p by) a b = tt
noted-like w admits one J s Waits a b = tt
noted-like w admits one J s (Moves d n) a b = tt
noted-like w admits one J s (Ends d) a b = tt
noted-like w admits one J s (Sets t) a b = tt
noted-like w admits one J s (Swaps p q) a b = tt

-- two steps that meet the rules at one journal and answer one call are one
pub one_step : (w : Dispatch) (admits : ℕ → Note → Type 0) (one : (p : ℕ) (n m : Note) → admits p n → admits p m → n ≡ m) (J : List Entry) (s t : JournalStep)
    → Meets w admits J s → Meets w admits J t → call_of s ≡ call_of t → s ≡ t
one_step w admits one J s t a b same =
    let note : ℕ → Note = λ _. note_in s (note_in t Quiet) in
    determined w admits note J s a (noted-in s (note_in t Quiet))
    ∙ ap (step_at w note J) same
    ∙ sym (determined w admits note J t b (noted-like w admits one J s t a b))

-- ---- lists of calls

heads_same : (a b : Call) (xs ys : List Call) → a ∷ xs ≡ b ∷ ys → (a ≡ b) × (xs ≡ ys)
heads_same a b xs ys e = (cc, cc)

pub fronts_same : (xs ys us vs : List Call) → length xs ≡ length ys → xs ++ us ≡ ys ++ vs → (xs ≡ ys) × (us ≡ vs)
fronts_same [] [] us vs n e = (refl, e)
fronts_same [] (y ∷ ys) us vs n e = absurd (omega (arith, n))
fronts_same (x ∷ xs) [] us vs n e = absurd (omega (arith, n))
fronts_same (x ∷ xs) (y ∷ ys) us vs n e =
    let parts = heads_same x y (xs ++ us) (ys ++ vs) e in
    let rest = fronts_same xs ys us vs (omega (arith, n)) parts.1 in
    (cc (parts.0, rest.0), rest.1)

pub length-answered : (P : List JournalStep) → length (answered P) ≡ length P
length-answered [] = refl
length-answered (s ∷ P) = omega (arith, length-append (answered P) (call_of s ∷ []), length-answered P)

-- ---- steps one after another
module _ (W : List Entry → Dispatch) (admits : List Entry → ℕ → Note → Type 0) (one : IsOne admits) where
  -- as many steps that answer the same calls are the same
  pub same_steps : (P Q : List JournalStep) (us vs : List Call) → EachMeets W admits P → EachMeets W admits Q → length P ≡ length Q
      → answered P ++ us ≡ answered Q ++ vs → P ≡ Q
  same_steps [] [] us vs a b n e = refl
  same_steps [] (t ∷ Q) us vs a b n e = absurd (omega (arith, n))
  same_steps (s ∷ P) [] us vs a b n e = absurd (omega (arith, n))
  same_steps (s ∷ P) (t ∷ Q) us vs a b n e =
      let calls : answered P ++ (call_of s ∷ us) ≡ answered Q ++ (call_of t ∷ vs) = sym (append_assoc (answered P) (call_of s ∷ []) us) ∙ e
      ∙ append_assoc (answered Q) (call_of t ∷ []) vs in
      let many : length (answered P) ≡ length (answered Q) = omega (arith, n, length-answered P, length-answered Q) in
      let parts = fronts_same (answered P) (answered Q) (call_of s ∷ us) (call_of t ∷ vs) many calls in
      let before : P ≡ Q = same_steps P Q (call_of s ∷ us) (call_of t ∷ vs) a.0 b.0 (omega (arith, n)) calls in
      let here : Meets (W (journal_of Q)) (admits (journal_of Q)) (journal_of Q) s =
      subst (λ (R : List JournalStep). Meets (W (journal_of R)) (admits (journal_of R)) (journal_of R) s) before a.1 in
      let last : s ≡ t = one_step (W (journal_of Q)) (admits (journal_of Q)) (one (journal_of Q)) (journal_of Q) s t here b.1
      (heads_same (call_of s) (call_of t) us vs parts.1).0 in
      ap (λ (x : JournalStep). x ∷ P) last ∙ ap (λ (R : List JournalStep). t ∷ R) before

  -- the fewer are a front of the more
  pub fronts : (P Q : List JournalStep) (us vs : List Call) → EachMeets W admits P → EachMeets W admits Q → length P ≤ length Q
      → answered P ++ us ≡ answered Q ++ vs
      → (R : List JournalStep) × (Q ≡ R ++ P)
  fronts P [] us vs a b le e = ([], sym (same_steps P [] us vs a b (omega (arith, le)) e))
  fronts P (t ∷ Q) us vs a b le e =
      ⊎_elim
      (λ (same : length P ≡ length (t ∷ Q)). ([], sym (same_steps P (t ∷ Q) us vs a b same e)))
      (λ (ne : length P ≢ length (t ∷ Q)).
      let rest = fronts P Q us (call_of t ∷ vs) a b.0 (omega (arith, le, ne)) (e ∙ append_assoc (answered Q) (call_of t ∷ []) vs) in
      (t ∷ rest.0, ap (λ (R : List JournalStep). t ∷ R) rest.1))
      (cases_eq (length P) (length (t ∷ Q)))

-- ---- journals

front_live : (W : List Entry → Dispatch) (R P : List JournalStep) → EachLive W (R ++ P) → length P < length (R ++ P)
    → any_live (W (journal_of P)).there (journal_of P) ≡ true
front_live W [] P l lt = absurd (omega (arith, lt))
front_live W (s ∷ []) P l lt = l.1
front_live W (s ∷ (t ∷ R)) P l lt = front_live W (t ∷ R) P l.0 (let e = length-append R P in omega (arith, e))

module _ (W : List Entry → Dispatch) (admits : List Entry → ℕ → Note → Type 0) (one : IsOne admits) (calls : List Call) (J K : List Entry)
    (j : IsLegal W admits J) (k : IsLegal W admits K) where
  -- no legal journal that follows the calls is longer than a whole one
  pub whole_longest : (left : List Call) → Follows W calls left J → IsWhole W calls K → length (steps J) ≤ length (steps K)
  whole_longest left f w =
      ⊎_elim
      (λ (gt : length (steps K) < length (steps J)).
      let r = fronts W admits one (steps K) (steps J) w.left left k.each j.each (omega (arith, gt)) (w.follows.in_order ∙ sym f.in_order) in
      absurd (by_end r.0 r.1 gt w.at_end))
      (λ (le : length (steps J) ≤ length (steps K)). le)
      (cases_lt (length (steps K)) (length (steps J)))
    where
      by_end : (R : List JournalStep) → steps J ≡ R ++ steps K → length (steps K) < length (steps J) → (w.left ≡ []) ⊎ (any_live (W K).there K ≡ false) → ⊥
      by_end R e gt (inl none) =
          omega (
            arith,
            gt,
            length-answered (steps J),
            length-answered (steps K),
            ap length none,
            ap length f.in_order,
            ap length w.follows.in_order,
            length-append (answered (steps J)) left,
            length-append (answered (steps K)) w.left,
          )
      by_end R e gt (inr dead) =
          let live : any_live (W (journal_of (steps K))).there (journal_of (steps K)) ≡ true = front_live W R (steps K) (subst (EachLive W) e f.lived)
          (omega (arith, gt, ap length e)) in
          false≢true (sym dead ∙ subst (λ (L : List Entry). any_live (W L).there L ≡ true) k.in_form live)

  -- so it is a front of that
  pub front_of : (left : List Call) → Follows W calls left J → IsWhole W calls K → (Q : List JournalStep) × (steps K ≡ Q ++ steps J)
  front_of left f w = fronts W admits one (steps J) (steps K) left w.left j.each k.each (whole_longest left f w) (f.in_order ∙ sym w.follows.in_order)

pub one_journal_lem : (W : List Entry → Dispatch) (admits : List Entry → ℕ → Note → Type 0) (events : List Event) (J K : List Entry) → IsOne admits
    → IsJournal W admits events J → IsJournal W admits events K → J ≡ K
one_journal_lem W admits events J K one j k =
    let cs : List Call = calls_made events in
    let le = whole_longest W admits one cs J K j.legal k.legal j.whole.left j.whole.follows k.whole in
    let ge = whole_longest W admits one cs K J k.legal j.legal k.whole.left k.whole.follows j.whole in
    let same : steps J ≡ steps K = same_steps W admits one (steps J) (steps K) j.whole.left k.whole.left j.legal.each k.legal.each (omega (arith, le, ge))
    (j.whole.follows.in_order ∙ sym k.whole.follows.in_order) in
    sym j.legal.in_form ∙ ap journal_of same ∙ k.legal.in_form

pub stopped_lem : (W : List Entry → Dispatch) (admits : List Entry → ℕ → Note → Type 0) (events : List Event) (left : List Call) (J K : List Entry)
    → IsOne admits
    → IsLegal W admits J → Follows W (calls_made events) left J → IsJournal W admits events K → (Q : List JournalStep) × (steps K ≡ Q ++ steps J)
stopped_lem W admits events left J K one j f k = front_of W admits one (calls_made events) J K j k.legal left f k.whole

pub resumed_lem : (W : List Entry → Dispatch) (admits : List Entry → ℕ → Note → Type 0) (events further : List Event) (J K : List Entry) → IsOne admits
    → IsJournal W admits events J → IsJournal W admits (events ++ further) K → (Q : List JournalStep) × (steps K ≡ Q ++ steps J)
resumed_lem W admits events further J K one j k =
    stopped_lem W admits (events ++ further) (j.whole.left ++ calls_made further) J K one j.legal
    (record {
      in_order = sym (append_assoc (answered (steps J)) j.whole.left (calls_made further))
          ∙ (ap (λ (cs : List Call). cs ++ calls_made further) j.whole.follows.in_order ∙ sym (calls_made-append events further));
      lived = j.whole.follows.lived;
    }) k
