-- A turn over a machine shows what the machine's own definitions say.
use Rattle.std.proofs.Common.{◌≡◌, ℕ, Bool, true, false, List, refl, sym, ap, ap₂, ◌∙◌, map, subst}
use Rattle.kdf_processor.specs.declared.registers.Registers.{Registers}
use Rattle.kdf_processor.specs.declared.step.Step.{Step}
use Rattle.kdf_yard.specs.declared.moment.Moment.{Moment}
use Rattle.kdf_yard.specs.declared.remark.Remark.TheVariants.{Quiet}
use Rattle.kdf_processor.specs.Effect.{Act, Nothing, Writes, Starts, Asks, FreeOf, Acquires, Releases, Spools}
use Rattle.kdf_processor.specs.Outcome.{Outcome, outcome}
use Rattle.kdf_processor.specs.declared.spooled.Spooled.{Spooled}
use Rattle.kdf_lockout.specs.Groups.{Cells}
use Rattle.kdf_places.specs.declared.place.Place.{Place}
use Rattle.kdf_yard.specs.declared.machine_port.MachinePort.{MachinePort}
use Rattle.kdf_places.specs.Spots.{Spot, spot_of}
use Rattle.kdf_yard.specs.Fields.Turned.{HasTried}
use Rattle.kdf_yard.specs.Fields.Remarks.{note_after}
use Rattle.kdf_yard.specs.Fields.Parts.{Part, Reach, Seat, part_after, seat}
use Rattle.kdf_places.specs.Shared.{Shared}
use Rattle.kdf_yard.specs.Fields.Shared.{after_act}
use Rattle.kdf_yard.specs.Fields.Stints.{keeping_of}
use Rattle.kdf_yard.specs.declared.stint.Stint.{Stint}
use Rattle.kdf_yard.specs.Fields.MachinePort.{held_in, part_of, reach_in, seat_in, shared, shown, Acts, SameProgram, SameTurn, Stays}

-- a turn that became another is over the same machine as that
pub same_same : (t u w : MachinePort) → SameTurn t u → SameTurn u w → SameTurn t w
same_same t u w first second =
    record {
      moment = second.moment ∙ first.moment;
      journal = second.journal ∙ first.journal;
      claimed = second.claimed ∙ first.claimed;
      spooled = second.spooled ∙ first.spooled;
      stints = second.stints ∙ first.stints;
      store = second.store ∙ first.store;
      places = second.places ∙ first.places;
      block = second.block ∙ first.block;
    }

-- what was done to a turn that only took memory was done to the turn before
pub acts_from : (t u w : MachinePort) (act : Act) → Stays t u → Acts u act w → Acts t act w
acts_from t u w act stays acted =
    record {
      same = same_same t u w stays.same acted.same;
      part = acted.part ∙ ap₂ (λ q s. part_after q s act) stays.part stays.shared;
      shared = acted.shared ∙ ap₂ (λ q s. after_act q s act) stays.part stays.shared;
      note = acted.note ∙ ap (note_after act) stays.note;
    }

-- what a part reaches
abbrev pub reach_from : Part → Reach
reach_from q = record { base = q.base; size = q.size; devices = q.devices; pool = q.pool; served = q.served }

-- and the program that has it
abbrev pub seat_from : Part → Registers → Seat
seat_from q r = seat q.p r q.claimed q.spooled q.stints

-- an act leaves what it reaches, and its slot
reach_after : (q : Part) (s : Shared) (act : Act) → reach_from (part_after q s act) ≡ reach_from q
reach_after q s Nothing = refl
reach_after q s (Writes a w) = refl
reach_after q s (Starts d o first last) = refl
reach_after q s (Asks (FreeOf kind) answer) = refl
reach_after q s (Asks question answer) = refl
reach_after q s (Acquires d) = refl
reach_after q s (Releases true d) = refl
reach_after q s (Releases false d) = refl
reach_after q s (Spools stream first last) = refl

number_after : (q : Part) (s : Shared) (act : Act) → (part_after q s act).p ≡ q.p
number_after q s Nothing = refl
number_after q s (Writes a w) = refl
number_after q s (Starts d o first last) = refl
number_after q s (Asks (FreeOf kind) answer) = refl
number_after q s (Asks question answer) = refl
number_after q s (Acquires d) = refl
number_after q s (Releases true d) = refl
number_after q s (Releases false d) = refl
number_after q s (Spools stream first last) = refl

pub program_acts : (old new : MachinePort) (act : Act) → Acts old act new → SameProgram old new
program_acts old new act acted =
    record {
      same = acted.same;
      p = ap (λ (q : Part). q.p) acted.part ∙ number_after (part_of old) (shared old) act;
      reach = ap reach_from acted.part ∙ reach_after (part_of old) (shared old) act;
    }

pub program_stays : (old new : MachinePort) → Stays old new → SameProgram old new
program_stays old new stays =
    record { same = stays.same; p = ap (λ (q : Part). q.p) stays.part; reach = ap reach_from stays.part }

pub program_then : (t u w : MachinePort) → SameProgram t u → SameProgram u w → SameProgram t w
program_then t u w first second =
    record { same = same_same t u w first.same second.same; p = second.p ∙ first.p; reach = second.reach ∙ first.reach }

pub program_itself : (t : MachinePort) → SameProgram t t
program_itself t =
    record {
      same = record { moment = refl; journal = refl; claimed = refl; spooled = refl; stints = refl; store = refl; places = refl; block = refl };
      p = refl;
      reach = refl;
    }

-- an order that was obeyed once memory was taken, where nothing was noted before
pub tried_by : (old mid new : MachinePort) (r left : Registers) (ended : Step) → old.note ≡ Quiet → Stays old mid → ended ≡ (outcome (shown old) r).step
    → left ≡ (outcome (shown old) r).registers → Acts mid (outcome (shown old) r).act new → HasTried (reach_in old) (held_in old) old.moment (seat_in old r)
    (shared old) (seat_in new left) (shared new) ended new.note
tried_by old mid new r left ended quiet stays step registers acted =
    let o : Outcome = outcome (shown old) r in
    let done : Acts old o.act new = acts_from old mid new o.act stays acted in
    let q : Part = part_after (part_of old) (shared old) o.act in
    record {
      step = step;
      note = done.note ∙ ap (note_after o.act) quiet;
      program = ap₂ seat_from done.part registers
          ∙ ap (λ k. seat k o.registers q.claimed q.spooled q.stints) (number_after (part_of old) (shared old) o.act);
      shared = done.shared;
    }

abbrev pub share : Cells → List Spot → Shared
share c s = record { cells = c; spots = s }

-- what holds of a turn over what was lent, and of the turn that it became, holds of what was lent and of what came back
pub lent_over : (P : Reach → Moment → Seat → Shared → Seat → Shared → Type 0) (r r' : Reach) (m m' : Moment) (a a' : Seat) (s s' : Shared) (b b' : Seat)
    (l l' : Shared) → r ≡ r' → m ≡ m' → a ≡ a' → s ≡ s' → b' ≡ b → l' ≡ l → P r m a s b l → P r' m' a' s' b' l'
lent_over P r r' m m' a a' s s' b b' l l' e f g h i j p =
    subst (λ x. P r' m' a' s' b' x) (sym j)
    (subst (λ x. P r' m' a' s' x l) (sym i)
    (subst (λ x. P r' m' a' x b l) h (subst (λ x. P r' m' x s b l) g (subst (λ x. P r' x a s b l) f (subst (λ x. P x m a s b l) e p)))))

-- the fields of a program that were lent are as the turn leaves them
pub seat_back : (t : MachinePort) (p : ℕ) (r : Registers) (claimed : List Bool) (spooled : List Spooled) (stints : List Stint) → t.p ≡ p
    → claimed ≡ t.claimed.now
    → spooled ≡ t.spooled.now.items → stints ≡ t.stints.now.items → seat p r claimed spooled (map keeping_of stints) ≡ seat_in t r
seat_back t p r claimed spooled stints e f g h =
    ap₂ (λ k x. seat k r x spooled (map keeping_of stints)) (sym e) f ∙ ap₂ (λ x y. seat t.p r t.claimed.now x (map keeping_of y)) g h

pub shared_back : (t : MachinePort) (c : Cells) (ps : List Place) → c ≡ t.store.now → ps ≡ t.places.now.items → share c (map spot_of ps) ≡ shared t
shared_back t c ps d e = ap₂ (λ a b. share a (map spot_of b)) d e
