-- What the try of one order does: to one program, and to all.
use Rattle.std.specs.Prelude.{◌≡◌, ◌≢◌, ◌<◌, ℕ, List, [], length, Option}
use Rattle.kdf_processor.specs.Ahead.{act_word}
use Rattle.kdf_processor.specs.declared.step.Step.{Step}
use Rattle.kdf_processor.specs.Outcome.{Outcome, outcome}
use Rattle.kdf_theory.specs.Seen.{tried}
use Rattle.kdf_yard.specs.declared.moment.Moment.{Moment}
use Rattle.kdf_yard.specs.declared.remark.Remark.{Remark}
use Rattle.kdf_yard.specs.Fields.Remarks.{note_of}
use Rattle.kdf_theory.specs.Holders.{held_by}
use Rattle.kdf_yard.specs.Fields.Parts.{Part, Seat, Reach, borrower, part_in, part_after, asked_after}
use Rattle.kdf_places.specs.Shared.{Shared}
use Rattle.kdf_yard.specs.Fields.Running.{seat_at, part_at, own_state, outcome_at, reach_at}
use Rattle.kdf_yard.specs.Fields.Settled.{Both, both_of, holder_left, settled}
use Rattle.kdf_yard.specs.Fields.Shared.{Setting, is_taken_by, moment, setting, view, after_act}
use Rattle.kdf_places.specs.Spots.{spot_at}
use Rattle.std.specs.Prelude.{unwrap_or}
use Rattle.kdf_theory.specs.Asked.{HasAsked}

-- what the next order of a program comes to
abbrev pub outcome_over : Seat → Reach → Setting → Shared → Outcome
outcome_over seat reach t s = outcome (view (part_in seat reach) t s) seat.registers

-- what a program is told at a moment, where these are the holders
abbrev pub told : Seat → (held : ℕ → Option ℕ) → Moment → Setting
told seat held m = setting (is_taken_by seat.claimed held) m

-- the word of which its next order asks the service, if it does: what an order asks depends on no answer, so any moment
-- tells it, and any holders
abbrev pub word_over : Seat → Reach → Shared → Option ℕ
word_over seat reach s = act_word (outcome_over seat reach (told seat (held_by []) (moment 0 0)) s).act

-- the program after an outcome
abbrev pub seat_after : Part → Shared → Outcome → Seat
seat_after q s o =
    record {
      p = q.p;
      registers = o.registers;
      claimed = (part_after q s o.act).claimed;
      spooled = (part_after q s o.act).spooled;
      stints = (part_after q s o.act).stints;
    }

-- what a program and what is shared are after an outcome
abbrev pub both_after : Part → Shared → Outcome → Both
both_after q s o = both_of (seat_after q s o) (after_act q s o.act)

-- a program tried its next order over what is shared, where these are the holders
pub record HasTried (reach : Reach) (held : ℕ → Option ℕ) (m : Moment) (before : Seat) (s : Shared)
    (after : Seat) (left : Shared) (ended : Step) (noted : Remark) : Type 0 where
  pub step : ended ≡ (outcome_over before reach (told before held m) s).step
  pub note : noted ≡ note_of (outcome_over before reach (told before held m) s).act
  pub program : after ≡ seat_after (part_in before reach) s (outcome_over before reach (told before held m) s)
  pub shared : left ≡ after_act (part_in before reach) s (outcome_over before reach (told before held m) s).act

-- it did so, and if it is over then, it gave up the devices that it had from the pool
pub record HasRun (reach : Reach) (held : ℕ → Option ℕ) (m : Moment) (before : Seat) (s : Shared)
    (after : Seat) (left : Shared) (ended : Step) (noted : Remark) : Type 0 where
  pub step : ended ≡ (outcome_over before reach (told before held m) s).step
  pub note : noted ≡ note_of (outcome_over before reach (told before held m) s).act
  pub both : both_of after left
      ≡ settled (both_after (part_in before reach) s (outcome_over before reach (told before held m) s))

-- Program i of all tried its next order: its own state is that of its row, where a transfer only begins, and every
-- other's is as it was. A transfer is there where one was or began, and who has each device of the pool is as the note
-- tells.
pub record HasTurned (reaches : List Reach) (m : Moment) (i : ℕ) (before : List Seat) (s : Shared)
    (after : List Seat) (left : Shared) (ended : Step) (noted : Remark) : Type 0 where
  pub step : (asked : ℕ) → ended ≡ (outcome_at reaches before s m asked i).step
  pub note : (asked : ℕ) → noted ≡ note_of (outcome_at reaches before s m asked i).act
  pub own : (asked : ℕ) →
      own_state reaches after left (asked_after asked (outcome_at reaches before s m asked i).act) i
      ≡ tried (outcome_at reaches before s m asked i) (own_state reaches before s asked i)
  pub others : (asked j : ℕ) → j < length before → j ≢ i
      → own_state reaches after left asked j ≡ own_state reaches before s asked j
  pub flights : (asked d : ℕ) → (spot_at left.spots d).flight
      ≡ (spot_at (after_act (part_at reaches before i) s (outcome_at reaches before s m asked i).act).spots d).flight
  pub holders : (d : ℕ) → borrower after d ≡ holder_left (seat_at before i).p ended noted d (borrower before d)
  pub count : length after ≡ length before
  pub numbers : (j : ℕ) → (seat_at after j).p ≡ (seat_at before j).p

-- program i of all tried its next order at this time, at which the service was heard where the order asked it
pub record HasTriedAt (answers : ℕ → ℕ → Type 0) (reaches : List Reach) (time i : ℕ) (before : List Seat) (s : Shared)
    (after : List Seat) (left : Shared) (ended : Step) (noted : Remark) : Type 0 where
  pub heard : Option ℕ
  pub asked : HasAsked answers (word_over (seat_at before i) (reach_at reaches i) s) heard
  pub turned : HasTurned reaches (moment time (unwrap_or heard 0)) i before s after left ended noted
