-- What it is for a journal to answer a schedule.
use Rattle.std.specs.Prelude.{◌≡◌, ℕ, ◌<◌, ◌≤◌, List, [], ◌∷◌, ◌++◌, ◌⊎◌, true, false}
use Rattle.kdf_journal.specs.declared.entry.Entry.{Entry}
use Rattle.kdf_journal.specs.Steps.{Note, JournalStep, Obeys, Holds, Waits, Moves, Ends, Sets, Swaps, journal_of, steps}
use Rattle.kdf_schedule.specs.declared.event.Event.{Event}
use Rattle.kdf_schedule.specs.declared.event.Event.TheVariants.{Clock, Swap}
use Rattle.kdf_schedule.specs.Calls.{Call, AnOrder, AMove, AnEnd, AClock, ASwap, calls_made}
use Rattle.kdf_course.specs.World.{Dispatch, any_live}
use Rattle.kdf_course.specs.Legal.{IsLegal}

-- the call that a step answers
abbrev pub call_of : JournalStep → Call
call_of (Obeys p note) = AnOrder
call_of (Holds p by) = AnOrder
call_of Waits = AnOrder
call_of (Moves d n) = AMove d n
call_of (Ends d) = AnEnd d
call_of (Sets t) = AClock t
call_of (Swaps p q) = ASwap p q

-- the calls that the steps answer, the oldest first
abbrev pub answered : List JournalStep → List Call
answered [] = []
answered (s ∷ P) = answered P ++ call_of s ∷ []

-- a program was live before each step
abbrev pub EachLive : (List Entry → Dispatch) → List JournalStep → Type 0
EachLive W [] = Unit {0}
EachLive W (s ∷ P) = EachLive W P × (any_live (W (journal_of P)).there (journal_of P) ≡ true)

-- The steps Q go on from the steps P: more of them answer these calls, from the first, and only the last ones are left, where
-- no program is live any more; and a program was live before each step that is new.
pub record Reaches (W : List Entry → Dispatch) (P : List JournalStep) (cs : List Call) (Q : List JournalStep) : Type 0 where
  pub more : List JournalStep
  pub goes_on : Q ≡ more ++ P
  pub left : List Call
  pub in_order : answered more ++ left ≡ cs
  pub lived : EachLive W P → EachLive W Q
  pub at_end : (left ≡ []) ⊎ (any_live (W (journal_of Q)).there (journal_of Q) ≡ false)

-- the journal answers the calls one for one, from the first, and only the last ones are left
pub record Follows (W : List Entry → Dispatch) (calls left : List Call) (J : List Entry) : Type 0 where
  pub in_order : answered (steps J) ++ left ≡ calls
  pub lived : EachLive W (steps J)

-- the journal follows the calls, and it stops only at the schedule's end, or where no program is live
pub record IsWhole (W : List Entry → Dispatch) (calls : List Call) (J : List Entry) : Type 0 where
  pub left : List Call
  pub follows : Follows W calls left J
  pub at_end : (left ≡ []) ⊎ (any_live (W J).there J ≡ false)

-- the journal is one under the schedule
pub record IsJournal (W : List Entry → Dispatch) (admits : List Entry → ℕ → Note → Type 0) (events : List Event) (J : List Entry) : Type 0 where
  pub legal : IsLegal W admits J
  pub whole : IsWhole W (calls_made events) J

-- where the time is t, no event sets it back, and each exchange is one of two slots
abbrev pub IsRising : ℕ → List Event → Type 0
IsRising t [] = Unit {0}
IsRising t (Clock u ∷ es) = (t ≤ u) × IsRising u es
IsRising t (Swap p q ∷ es) = (p < 4) × (q < 4) × IsRising t es
IsRising t (e ∷ es) = IsRising t es
