-- The steps of the course answer the calls, and a legal and whole journal has the steps of the course, where a function says
-- the notes.
use Rattle.std.proofs.Common.{◌≡◌, ℕ, List, [], ◌∷◌, ◌++◌, Option, Some, None, Bool, true, false, cond, ◌⊎◌, inl, inr, refl, sym, ◌∙◌, ap, ap₂, append_assoc}
use Rattle.kdf_journal.specs.declared.need.Need.{Need}
use Rattle.kdf_journal.specs.declared.entry.Entry.{Entry}
use Rattle.kdf_journal.specs.Steps.{Note, JournalStep, journal_of, steps}
use Rattle.kdf_schedule.specs.Calls.{Call, AnOrder, AMove, AnEnd, AClock, ASwap}
use Rattle.kdf_course.specs.World.{Dispatch, next, any_live}
use Rattle.kdf_course.specs.Legal.{EachMeets, IsLegal, EachNoted, is_note}
use Rattle.kdf_course.specs.Course.{turn_step, turn_step_of, step_at, step_after, course}
use Rattle.kdf_course.specs.Follows.{call_of, answered, EachLive, IsWhole, Reaches}
use Rattle.kdf_course.proofs.Fronts.{determined}
use Rattle.kdf_course.proofs.Reaching.{answered-append, reach-nil}
use Rattle.kdf_course.proofs.Steps.{legal-noted}

call_of-turn : (note : ℕ → Note) (p : ℕ) (o : Option Need) → call_of (turn_step note p o) ≡ AnOrder
call_of-turn note p None = refl
call_of-turn note p (Some by) = refl

call_of-turn_of : (w : Dispatch) (note : ℕ → Note) (o : Option ℕ) → call_of (turn_step_of w note o) ≡ AnOrder
call_of-turn_of w note None = refl
call_of-turn_of w note (Some p) = call_of-turn note p (w.held p)

pub call_of-step_at : (w : Dispatch) (note : ℕ → Note) (J : List Entry) (c : Call) → call_of (step_at w note J c) ≡ c
call_of-step_at w note J AnOrder = call_of-turn_of w note (next w J)
call_of-step_at w note J (AMove d n) = refl
call_of-step_at w note J (AnEnd d) = refl
call_of-step_at w note J (AClock t) = refl
call_of-step_at w note J (ASwap p q) = refl

-- the steps of the course answer the calls
pub reaches : (W : List Entry → Dispatch) (note : List Entry → ℕ → Note) (P : List JournalStep) (cs : List Call) → Reaches W P cs (course W note P cs)
reaches W note P [] = reach-nil W P
reaches W note P (c ∷ cs) = go (any_live (W (journal_of P)).there (journal_of P)) refl (reaches W note (step_after W note (journal_of P) c ∷ P) cs)
  where
    go : (b : Bool) → any_live (W (journal_of P)).there (journal_of P) ≡ b
        → Reaches W (step_after W note (journal_of P) c ∷ P) cs (course W note (step_after W note (journal_of P) c ∷ P) cs)
        → Reaches W P (c ∷ cs) (cond b (course W note (step_after W note (journal_of P) c ∷ P) cs) P)
    go true e r = record {
      more = r.more ++ (step_after W note (journal_of P) c ∷ []);
      goes_on = r.goes_on ∙ sym (append_assoc r.more (step_after W note (journal_of P) c ∷ []) P);
      left = r.left;
      in_order =
          ap (λ (xs : List Call). xs ++ r.left) (answered-append r.more (step_after W note (journal_of P) c ∷ []))
          ∙ ap₂ (λ (x : Call) (xs : List Call). x ∷ xs) (call_of-step_at (W (journal_of P)) (note (journal_of P)) (journal_of P) c) r.in_order;
      lived = λ l. r.lived (l, e);
      at_end = r.at_end;
    }
    go false e r = record { more = []; goes_on = refl; left = c ∷ cs; in_order = refl; lived = λ l. l; at_end = inr e }

pub course-answered : (W : List Entry → Dispatch) (admits : List Entry → ℕ → Note → Type 0) (note : List Entry → ℕ → Note) (P : List JournalStep)
    (left : List Call)
    → EachMeets W admits P → EachNoted (is_note note) P → EachLive W P → course W note [] (answered P ++ left) ≡ course W note P left
course-answered W admits note [] left m is l = refl
course-answered W admits note (s ∷ P) left m is l =
    rw (
      append_assoc,
      course-answered W admits note P (call_of s ∷ left) m.0 is.0 l.0,
      l.1,
      ← determined (W (journal_of P)) (admits (journal_of P))
          (note (journal_of P)) (journal_of P) s m.1 is.1,
    )

course-done : (W : List Entry → Dispatch) (note : List Entry → ℕ → Note) (P : List JournalStep) (left : List Call)
    → (left ≡ []) ⊎ (any_live (W (journal_of P)).there (journal_of P) ≡ false) → course W note P left ≡ P
course-done W note P [] done = refl
course-done W note P (c ∷ left) (inl e) = cc
course-done W note P (c ∷ left) (inr dead) = rw dead

-- a legal and whole journal with these notes has the steps of the course
pub course-whole : (W : List Entry → Dispatch) (admits : List Entry → ℕ → Note → Type 0) (note : List Entry → ℕ → Note) (calls : List Call) (J : List Entry)
    → IsLegal W admits J → EachNoted (is_note note) (steps J) → IsWhole W calls J → steps J ≡ course W note [] calls
course-whole W admits note calls J l is w =
    let e : course W note [] (answered (steps J) ++ w.left) ≡ course W note (steps J) w.left =
    course-answered W admits note (steps J) w.left l.each is w.follows.lived in
    let d : course W note (steps J) w.left ≡ steps J = course-done W note (steps J) w.left (rw l.in_form w.at_end) in
    sym (ap (λ (cs : List Call). course W note [] cs) (sym w.follows.in_order) ∙ (e ∙ d))

pub course_lem : (W : List Entry → Dispatch) (note : List Entry → ℕ → Note) (calls : List Call) (J : List Entry) → IsLegal W (is_note note) J
    → IsWhole W calls J
    → steps J ≡ course W note [] calls
course_lem W note calls J l w = course-whole W (is_note note) note calls J l (legal-noted W (is_note note) J l) w
