-- A journal that is cut is one under the schedule that is cut, whatever is admitted.
use Rattle.std.proofs.Common.{◌≡◌, ℕ, ◌-◌, ◌≤◌, ◌<◌, List, [], ◌∷◌, ◌++◌, false, ◌⊎◌, inl, inr, refl, sym, ◌∙◌, ap, subst, arith, append_assoc, take, drop}
use Rattle.std.proofs.Common.{length, ⊎_elim}
use Rattle.std.proofs.lemmas.Bool.{cases_lt}
use Rattle.std.proofs.lemmas.List.{append-nil, length-drop, take-append-drop}
use Rattle.kdf_journal.specs.declared.entry.Entry.{Entry}
use Rattle.kdf_journal.specs.Steps.{Note, JournalStep, journal_of, steps}
use Rattle.kdf_journal.proofs.Steps.{steps-journal_of}
use Rattle.kdf_schedule.specs.declared.event.Event.{Event}
use Rattle.kdf_schedule.specs.Calls.{Call, calls_made}
use Rattle.kdf_course.specs.World.{Dispatch, any_live}
use Rattle.kdf_course.specs.Legal.{EachMeets, EachNoted, IsLegal}
use Rattle.kdf_course.specs.Follows.{answered, EachLive, IsWhole, IsJournal}
use Rattle.kdf_course.specs.Cut.{oldest, cut}
use Rattle.kdf_course.proofs.Fronts.{fronts_same, length-answered}
use Rattle.kdf_course.proofs.Reaching.{answered-append}
use Rattle.kdf_course.proofs.Steps.{legal-journal_of}

-- older steps met the rules
meets-older : (W : List Entry → Dispatch) (admits : List Entry → ℕ → Note → Type 0) (Q P : List JournalStep) → EachMeets W admits (Q ++ P)
    → EachMeets W admits P
meets-older W admits [] P m = m
meets-older W admits (s ∷ Q) P m = meets-older W admits Q P m.0

-- and their notes were admitted
noted-older : (admits : List Entry → ℕ → Note → Type 0) (Q P : List JournalStep) → EachNoted admits (Q ++ P) → EachNoted admits P
noted-older admits [] P n = n
noted-older admits (s ∷ Q) P n = noted-older admits Q P n.0

-- and a program was live before each of them
lived-older : (W : List Entry → Dispatch) (Q P : List JournalStep) → EachLive W (Q ++ P) → EachLive W P
lived-older W [] P l = l
lived-older W (s ∷ Q) P l = lived-older W Q P l.0

module _ (n : ℕ) (P : List JournalStep) where
  abbrev newer : List JournalStep
  newer = take (length P - n) P

  parts : newer ++ oldest n P ≡ P
  parts = take-append-drop (length P - n) P

  count : length (oldest n P) ≡ length P - (length P - n)
  count = length-drop (length P - n) P

  pub oldest-meets : (W : List Entry → Dispatch) (admits : List Entry → ℕ → Note → Type 0) → EachMeets W admits P → EachMeets W admits (oldest n P)
  oldest-meets W admits m = meets-older W admits newer (oldest n P) (subst (EachMeets W admits) (sym parts) m)

  pub oldest-noted : (admits : List Entry → ℕ → Note → Type 0) → EachNoted admits P → EachNoted admits (oldest n P)
  oldest-noted admits e = noted-older admits newer (oldest n P) (subst (EachNoted admits) (sym parts) e)

  oldest-lived : (W : List Entry → Dispatch) → EachLive W P → EachLive W (oldest n P)
  oldest-lived W l = lived-older W newer (oldest n P) (subst (EachLive W) (sym parts) l)

  oldest-answered : (cs : List Call) × (answered P ≡ answered (oldest n P) ++ cs)
  oldest-answered = (answered newer, ap answered (sym parts) ∙ answered-append newer (oldest n P))

  oldest-all : length P ≤ n → oldest n P ≡ P
  oldest-all le =
      let e : length P - n ≡ 0 = omega (arith, le) in
      ap (λ (k : ℕ). drop k P) e

pub legal-cut : (W : List Entry → Dispatch) (admits : List Entry → ℕ → Note → Type 0) (n : ℕ) (J : List Entry) → IsLegal W admits J → IsLegal W admits (cut n J)
legal-cut W admits n J l = legal-journal_of W admits (oldest n (steps J)) (oldest-meets n (steps J) W admits l.each)

pub noted-cut : (admits : List Entry → ℕ → Note → Type 0) (n : ℕ) (J : List Entry) → EachNoted admits (steps J) → EachNoted admits (steps (cut n J))
noted-cut admits n J e = subst (EachNoted admits) (sym (steps-journal_of (oldest n (steps J)))) (oldest-noted n (steps J) admits e)

-- the calls that are left of the first ones, where all of the steps answer no more
left_of : (xs : List Call) (left first rest : List Call) → xs ++ left ≡ first ++ rest → length xs ≤ length first
    → (more : List Call) × ((xs ++ more ≡ first) × (left ≡ more ++ rest))
left_of [] left first rest e le = (first, (refl, e))
left_of (x ∷ xs) left [] rest e le = absurd (omega (arith, le))
left_of (x ∷ xs) left (y ∷ first) rest e le =
    let tail : xs ++ left ≡ first ++ rest = cc e in
    let head : x ≡ y = cc e in
    let r = left_of xs left first rest tail (omega (arith, le)) in
    (r.0, ((cc (head, r.1.0)), r.1.1))

none_before : (xs ys : List Call) → xs ++ ys ≡ [] → xs ≡ []
none_before [] ys e = refl
none_before (x ∷ xs) ys e = cc

module _ (W : List Entry → Dispatch) (first rest : List Call) (J : List Entry) (form : journal_of (steps J) ≡ J) (w : IsWhole W (first ++ rest) J) where
  abbrev P : List JournalStep
  P = oldest (length first) (steps J)

  lived : EachLive W (steps (journal_of P))
  lived = subst (EachLive W) (sym (steps-journal_of P)) (oldest-lived (length first) (steps J) W w.follows.lived)

  -- all of the journal is kept
  all_kept : length (steps J) ≤ length first → IsWhole W first (cut (length first) J)
  all_kept le =
      let same : P ≡ steps J = oldest-all (length first) (steps J) le in
      let r = left_of (answered (steps J)) w.left first rest w.follows.in_order (omega (arith, le, length-answered (steps J))) in
      record {
        left = r.0;
        follows = record { in_order = ap (λ (R : List JournalStep). answered R ++ r.0) (steps-journal_of P ∙ same) ∙ r.1.0; lived = lived };
        at_end = by_end r.0 r.1.1 w.at_end;
      }
    where
      by_end : (more : List Call) → w.left ≡ more ++ rest → (w.left ≡ []) ⊎ (any_live (W J).there J ≡ false)
          → (more ≡ []) ⊎ (any_live (W (journal_of P)).there (journal_of P) ≡ false)
      by_end more e (inl none) = inl (none_before more rest (sym e ∙ none))
      by_end more e (inr dead) =
          let same : journal_of P ≡ J = ap journal_of (oldest-all (length first) (steps J) le) ∙ form in
          inr (subst (λ (K : List Entry). any_live (W K).there K ≡ false) (sym same) dead)

  -- or just the steps that answer the first calls
  first_kept : length first < length (steps J) → IsWhole W first (cut (length first) J)
  first_kept lt =
      let a = oldest-answered (length first) (steps J) in
      let n : length (answered P) ≡ length first = omega (arith, lt, length-answered P, count (length first) (steps J)) in
      let e : answered P ++ (a.0 ++ w.left) ≡ first ++ rest = sym (append_assoc (answered P) a.0 w.left) ∙ ap (λ (cs : List Call). cs ++ w.left) (sym a.1)
      ∙ w.follows.in_order in
      record {
        left = [];
        follows = record {
          in_order = append-nil (answered (steps (journal_of P))) ∙ ap answered (steps-journal_of P)
              ∙ (fronts_same (answered P) first (a.0 ++ w.left) rest n e).0;
          lived = lived;
        };
        at_end = inl refl;
      }

  pub whole-cut : IsWhole W first (cut (length first) J)
  whole-cut =
      ⊎_elim
      (λ (lt : length first < length (steps J)). first_kept lt)
      (λ (le : length (steps J) ≤ length first). all_kept le)
      (cases_lt (length first) (length (steps J)))

pub journal-cut : (W : List Entry → Dispatch) (admits : List Entry → ℕ → Note → Type 0) (events earlier : List Event) (later : List Call) (J : List Entry)
    → IsJournal W admits events J → calls_made events ≡ calls_made earlier ++ later → IsJournal W admits earlier (cut (length (calls_made earlier)) J)
journal-cut W admits events earlier later J j is = record {
  legal = legal-cut W admits (length (calls_made earlier)) J j.legal;
  whole = whole-cut W (calls_made earlier) later J j.legal.in_form (subst (λ (cs : List Call). IsWhole W cs J) is j.whole);
}
