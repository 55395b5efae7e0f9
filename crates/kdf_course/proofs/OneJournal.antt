-- Under a schedule that doesn't set the clock back and exchanges slots alone, there is a journal.
use Rattle.std.proofs.Common.{◌≡◌, ℕ, zero, suc, ◌<◌, ◌≤◌, List, [], ◌∷◌, ◌++◌, Option, Some, None, Bool, true, false, cond, refl, sym, ◌∙◌, ap, subst}
use Rattle.std.specs.Prelude.{replicate}
use Rattle.kdf_journal.specs.declared.need.Need.{Need}
use Rattle.kdf_journal.specs.declared.entry.Entry.{Entry}
use Rattle.kdf_journal.specs.Counts.{clock}
use Rattle.kdf_journal.specs.Steps.{Note, JournalStep, journal_of}
use Rattle.kdf_journal.proofs.Added.{clock_by, clock-added}
use Rattle.kdf_journal.proofs.Steps.{steps-journal_of}
use Rattle.kdf_schedule.specs.declared.event.Event.{Event}
use Rattle.kdf_schedule.specs.declared.event.Event.TheVariants.{Orders, Move, End, Clock, Swap}
use Rattle.kdf_schedule.specs.Calls.{Call, AnOrder, AMove, AnEnd, AClock, ASwap, calls_of, calls_made}
use Rattle.kdf_schedule.proofs.Schedules.{calls_made-append, calls_made-one, calls_made-nil}
use Rattle.kdf_course.specs.World.{Dispatch, next, any_live}
use Rattle.kdf_course.specs.Legal.{Meets, EachMeets}
use Rattle.kdf_course.specs.Course.{turn_step, turn_step_of, step_at, step_after, course}
use Rattle.kdf_course.specs.Follows.{IsJournal, IsRising, Reaches}
use Rattle.kdf_course.proofs.Courses.{reaches}
use Rattle.kdf_course.proofs.Reaching.{reach-whole}
use Rattle.kdf_course.proofs.Steps.{legal-journal_of}

-- where the time is t, no call sets it back, and each exchange is one of two slots
abbrev pub CallsRise : ℕ → List Call → Type 0
CallsRise t [] = Unit {0}
CallsRise t (AClock u ∷ cs) = (t ≤ u) × CallsRise u cs
CallsRise t (ASwap p q ∷ cs) = (p < 4) × (q < 4) × CallsRise t cs
CallsRise t (c ∷ cs) = CallsRise t cs

pub orders-rise : (t n : ℕ) (cs : List Call) → CallsRise t cs → CallsRise t (replicate n AnOrder ++ cs)
orders-rise t zero cs rises = rises
orders-rise t (suc n) cs rises = orders-rise t n cs rises

pub calls-after : (e : Event) (es : List Event) → calls_made (e ∷ es) ≡ calls_of e ++ calls_made es
calls-after e es = calls_made-append (e ∷ []) es ∙ ap (λ (cs : List Call). cs ++ calls_made es) (calls_made-one e)

-- the calls of such events are such calls
pub calls-rise : (t : ℕ) (es : List Event) → IsRising t es → CallsRise t (calls_made es)
calls-rise t [] rises = rw calls_made-nil tt
calls-rise t (Orders n ∷ es) rises = rw calls-after (orders-rise t n (calls_made es) (calls-rise t es rises))
calls-rise t (Move d n ∷ es) rises = rw calls-after (calls-rise t es rises)
calls-rise t (End d ∷ es) rises = rw calls-after (calls-rise t es rises)
calls-rise t (Clock u ∷ es) rises = rw calls-after (rises.0, calls-rise u es rises.1)
calls-rise t (Swap p q ∷ es) rises = rw calls-after (rises.0, rises.1, calls-rise t es rises.2)

module _ (w : Dispatch) (admits : ℕ → Note → Type 0) (note : ℕ → Note) (some : (p : ℕ) → admits p (note p)) (J : List Entry) where
  meets-turn : (p : ℕ) (o : Option Need) → next w J ≡ Some p → w.held p ≡ o → Meets w admits J (turn_step note p o)
  meets-turn p None n need = (n, need, some p)
  meets-turn p (Some by) n need = (n, need)

  meets-turn_of : (o : Option ℕ) → any_live w.there J ≡ true → next w J ≡ o → Meets w admits J (turn_step_of w note o)
  meets-turn_of None live n = (live, n)
  meets-turn_of (Some p) live n = meets-turn p (w.held p) n refl

  -- the step of such a call meets the rules, where a program is live
  pub meets-step : (c : Call) (cs : List Call) → any_live w.there J ≡ true → CallsRise (clock J) (c ∷ cs) → Meets w admits J (step_at w note J c)
  meets-step AnOrder cs live rises = meets-turn_of (next w J) live refl
  meets-step (AMove d n) cs live rises = tt
  meets-step (AnEnd d) cs live rises = tt
  meets-step (AClock t) cs live rises = rises.0
  meets-step (ASwap p q) cs live rises = (rises.0, rises.1)

same_time-turn : (t : ℕ) (note : ℕ → Note) (p : ℕ) (o : Option Need) → clock_by t (turn_step note p o) ≡ t
same_time-turn t note p None = refl
same_time-turn t note p (Some by) = refl

same_time : (t : ℕ) (w : Dispatch) (note : ℕ → Note) (o : Option ℕ) → clock_by t (turn_step_of w note o) ≡ t
same_time t w note None = refl
same_time t w note (Some p) = same_time-turn t note p (w.held p)

-- and so do the calls after it
pub rises-on : (w : Dispatch) (note : ℕ → Note) (J : List Entry) (t : ℕ) (c : Call) (cs : List Call) → CallsRise t (c ∷ cs)
    → CallsRise (clock_by t (step_at w note J c)) cs
rises-on w note J t AnOrder cs rises = subst (λ (u : ℕ). CallsRise u cs) (sym (same_time t w note (next w J))) rises
rises-on w note J t (AMove d n) cs rises = rises
rises-on w note J t (AnEnd d) cs rises = rises
rises-on w note J t (AClock u) cs rises = rises.1
rises-on w note J t (ASwap p q) cs rises = rises.2

module _ (W : List Entry → Dispatch) (admits : List Entry → ℕ → Note → Type 0) (note : List Entry → ℕ → Note) (some : (J : List Entry) (p : ℕ)
    → admits J p (note J p)) where
  -- each step of the course meets the rules
  course-meets : (P : List JournalStep) (cs : List Call) → CallsRise (clock (journal_of P)) cs → EachMeets W admits P → EachMeets W admits (course W note P cs)
  course-meets P [] rises m = m
  course-meets P (c ∷ cs) rises m =
      let s : JournalStep = step_after W note (journal_of P) c in
      let on : CallsRise (clock (journal_of (s ∷ P))) cs = subst (λ (u : ℕ). CallsRise u cs) (sym (clock-added (journal_of P) s))
      (rises-on (W (journal_of P)) (note (journal_of P)) (journal_of P) (clock (journal_of P)) c cs rises) in
      go (any_live (W (journal_of P)).there (journal_of P)) refl
      (λ live. course-meets (s ∷ P) cs on (
        m,
        meets-step (W (journal_of P)) (admits (journal_of P)) (note (journal_of P)) (some (journal_of P))
            (journal_of P) c cs live rises,
      ))
    where
      go : (b : Bool) → any_live (W (journal_of P)).there (journal_of P) ≡ b
          → (any_live (W (journal_of P)).there (journal_of P) ≡ true → EachMeets W admits (course W note (step_after W note (journal_of P) c ∷ P) cs))
          → EachMeets W admits (cond b (course W note (step_after W note (journal_of P) c ∷ P) cs) P)
      go true e rest = rest e
      go false e rest = m

  pub a_journal_lem : (events : List Event) → IsRising 0 events → (J : List Entry) × IsJournal W admits events J
  a_journal_lem events rises =
      let P : List JournalStep = course W note [] (calls_made events) in
      let r : Reaches W [] (calls_made events) P = reaches W note [] (calls_made events) in (
        journal_of P,
        record {
          legal = legal-journal_of W admits P (course-meets [] (calls_made events) (calls-rise 0 events rises) tt);
          whole = reach-whole W (calls_made events) (journal_of P) (ap journal_of (steps-journal_of P))
              (subst (Reaches W [] (calls_made events)) (sym (steps-journal_of P)) r);
        },
      )
