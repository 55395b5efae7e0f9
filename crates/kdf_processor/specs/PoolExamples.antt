-- Programs with a pool on which OUT 5 and OUT 6 are worked.
use Rattle.std.specs.Prelude.{ℕ, List, [], ◌∷◌, ◌++◌, Bool, true, false, Option, Some, None, replicate, slice_set}
use Rattle.kdf_syllable.specs.declared.order.Order.TheVariants as order
use Rattle.kdf_qstore.specs.declared.triple.Triple.{Triple}
use Rattle.kdf_qstore.specs.Triples.{triple_at}
use Rattle.kdf_journal.specs.declared.kind.Kind.{Kind}
use Rattle.kdf_journal.specs.declared.kind.Kind.TheVariants.{Tp, Lp}
use Rattle.kdf_transfer.specs.Devices.{DeviceProgress, new_progress}
use Rattle.kdf_transfer.specs.Examples.{all_a, all_b, having}
use Rattle.kdf_processor.specs.declared.registers.Life.{Life}
use Rattle.kdf_journal.specs.declared.need.Need.{Need}
use Rattle.kdf_processor.specs.declared.step.Step.TheVariants.{Held}
use Rattle.kdf_processor.specs.Effect.{Nothing}
use Rattle.kdf_processor.specs.Examples.{calling, claiming, equipped, obeyed_over}
use Rattle.kdf_processor.specs.Lone.{lone}
use Rattle.kdf_processor.specs.Needs.{effect_needs}
use Rattle.kdf_processor.specs.Outcome.{Outcome}
use Rattle.kdf_processor.specs.Plan.{try_order}
use Rattle.kdf_transfer.specs.Slots.{Slot}
use Rattle.kdf_processor.specs.State.{Claims, Lending, State, StintState, Stock, begin, device_limit, lendings}
use Rattle.kdf_processor.specs.Table.{effect}
use Rattle.kdf_processor.specs.View.{View}

-- ---- an order alone

-- the devices of the other examples, of which the first n are claimed, beside a pool of the punches 11 and 13 and the printer 12
abbrev pub lending : ℕ → Claims
lending n =
    record (claiming n) {
      pool = replicate 11 None ++ Some Tp ∷ Some Lp ∷ Some Tp ∷ None ∷ None ∷ [];
    }

-- with an answer to each question; every device of the pool has a holder, or not every one
abbrev pub borrowing : ℕ → Bool → ℕ → View
borrowing n taken answer =
    record (equipped n new_progress answer) { claims = lending n; is_taken = λ kind. taken }

-- OUT, where the pool has a device without a holder, and where it has none
abbrev pub borrows : ℕ → ℕ → List ℕ → Outcome
borrows n answer nest = obeyed_over (borrowing n false answer) (calling nest) (order.Plain 0x21)

abbrev pub tries : ℕ → List ℕ → Outcome
tries n nest = try_order (borrowing n true 0) (calling nest) (order.Plain 0x21)

-- it is held up
abbrev pub waits : List ℕ → Need → Outcome
waits nest need = record { step = Held need; registers = calling nest; act = Nothing }

-- what it needs after the groups of its syllables, the program having transfers on devices 2 and 5
abbrev pub needs_for : ℕ → List ℕ → List Need
needs_for n nest = effect_needs (2 ∷ 5 ∷ []) (effect (lending n) (calling nest) (order.Plain 0x21))

-- ---- stints

-- a device was taken, or was given back when it had come so far
abbrev pub held : ℕ → StintState
held d = record { device = d; left = None }

abbrev pub returned : ℕ → DeviceProgress → StintState
returned d progress = record { device = d; left = Some progress }

-- a punch as a stint shows it
abbrev pub lent_punch : ℕ → List (List ℕ) → Bool → Lending
lent_punch d blocks given = record { device = d; kind = Tp; progress = having blocks; given = given }

-- what a program has beside a pool of the punches 0 and 2 and the printer 1, of which nothing but the last may be claimed and may
-- have moved something
abbrev pub stocking : Bool → ℕ → List StintState → List (List ℕ) → Stock
stocking claimed asked stints blocks =
    record {
      claims = record {
        size = 2;
        claimed = false ∷ false ∷ claimed ∷ [];
        fixtures = [];
        pool = Some Tp ∷ Some Lp ∷ Some Tp ∷ [];
        served = false;
      };
      spooled = [];
      asked = asked;
      stints = stints;
      store = all_a ∷ all_b ∷ [];
      devices = having [] ∷ having [] ∷ having blocks ∷ [];
    }

-- ---- whole programs

-- SET 1; SET 5; OUT; SET 6; OUT; SET 1; SET 5; OUT; ZERO; OUT;
abbrev pub takes_twice : List ℕ
takes_twice =
    0xa00001010101 ∷ 0xe00001e00005 ∷ 0x21e0000621e0 ∷ 0x0001e0000521 ∷ 0x092101010101 ∷ []

-- V0=Q0/32/32; SET 1; SET 5; OUT; V0; =Q1; =C1; PWQ1; ZERO; OUT;
abbrev pub punches : List ℕ
punches =
    0xa00002010101 ∷ 0x000000200020 ∷ 0xe00001e00005 ∷ 0x21c000015410 ∷ 0x551072100921 ∷ []

-- a store of 64 words with this image, no device of its own, and this pool
abbrev pub beside : List (Option Kind) → List ℕ → Slot
beside pool image =
    record {
      p = 0;
      size = 64;
      words = image;
      fixtures = replicate device_limit None;
      devices = replicate device_limit new_progress;
      pool = pool;
      served = false;
    }

-- no device, and punch 9
abbrev pub no_pool : List (Option Kind)
no_pool = replicate device_limit None

abbrev pub one_punch : List (Option Kind)
one_punch = slice_set no_pool 9 (Some Tp)

-- what is looked at of a program after so many orders, with these answers: its life, how many orders it obeyed, the next syllable, its nest,
-- Q1 and its stints
pub record Seen : Type 0 where
  pub life : Life
  pub ran : ℕ
  pub at : ℕ
  pub nest : List ℕ
  pub q1 : Triple
  pub stints : List Lending

abbrev pub seen : State → Seen
seen s =
    record {
      life = s.registers.state;
      ran = s.registers.ran;
      at = s.registers.at;
      nest = s.registers.nest;
      q1 = triple_at s.registers.q 1;
      stints = lendings s.stock;
    }

abbrev pub after : Slot → List ℕ → ℕ → Seen
after slot answers n = seen (lone (begin slot) answers n)
