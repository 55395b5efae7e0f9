use Rattle.std.proofs.Common.{◌≡◌, ◌<◌, true, false, length, map, set, cond, None, refl, sym, ap, ap₂, ◌∙◌, subst, arith}
use Rattle.std.proofs.lemmas.List.{length-map}
use Rattle.kdf_transfer.specs.Devices.{fixture_of, progress_of}
use Rattle.kdf_yard.specs.Fields.Keeping.{IsActiveBy}
use Rattle.kdf_yard.specs.Fields.Parts.{Part, back_from}
use Rattle.kdf_places.specs.Shared.{Shared}
use Rattle.kdf_places.specs.Spots.{Spot, blank_spot, can_leave, left_spot, spot_at, spot_of}
use Rattle.kdf_yard.specs.Fields.Stints.{Loan, keeping_of, with_loan}
use Rattle.kdf_yard.specs.Fields.MachinePort.{part_of, shared}
use Rattle.kdf_yard.proofs.Physical.PoolDevices.{IsIts}
use Rattle.kdf_yard.proofs.Physical.FreeDevices.{back_is, left_is, leaves_there, not_busy}
use Rattle.kdf_yard.proofs.Turns.TurnsKeep.{active_in, give_active, give_kept, kept_in}
use Rattle.kdf_yard.proofs.machine_port.MachinePort.return_pooled.Goals as goal
use Rattle.kdf_yard.proofs.machine_port.MachinePort.return_pooled.Goals.{After-take_back_at, After-hand_in}

-- the device is the program's, and can leave its place
its : (c : After-take_back_at) → IsIts (part_of c.args.self.now) (shared c.args.self.now) c.args.d
its c =
    let t = c.args.self.now in
    record {
      pooled = c.requires.pooled;
      lent = sym ((active_in t).marks c.args.d c.requires.pooled) ∙ c.requires.its;
      idle = not_busy (spot_at (shared t).spots c.args.d).flight c.requires.idle;
    }

abbrev x : After-take_back_at → Spot
x c = spot_at (map spot_of c.args.self.now.places.now.items) c.args.d

leaves : (c : After-take_back_at) → can_leave (x c) ≡ true
leaves c = leaves_there (part_of c.args.self.now) (shared c.args.self.now) c.args.d (kept_in c.args.self.now) (its c).pooled (its c).idle

shows : (c : After-take_back_at) → map spot_of c.take_back_at.new.places.items ≡ set (map spot_of c.args.self.now.places.now.items) c.args.d (blank_spot (x c))
shows c =
    let spots = map spot_of c.args.self.now.places.now.items in
    c.take_back_at.ensures.spots
    ∙ ap (λ e. set spots e (left_spot (spot_at spots e))) c.from.ensures
    ∙ ap (set spots c.args.d) (left_is (x c) (leaves c))

inside : (c : After-take_back_at) → c.args.d < length (map spot_of c.args.self.now.places.now.items)
inside c = omega (arith, c.requires.number, c.args.self.now.sixteen, length-map c.args.self.now.places.now.items spot_of)

are : (c : After-hand_in) → (leave : can_leave (spot_at (map spot_of c.args.self.now.places.now.items) c.args.d) ≡ true)
    → map keeping_of c.hand_in.new.stints.items ≡ map (with_loan c.args.d (back_from (spot_at (map spot_of c.args.self.now.places.now.items) c.args.d)))
    (map keeping_of c.args.self.now.stints.now.items)
are c leave =
    let spots = map spot_of c.args.self.now.places.now.items in
    c.hand_in.ensures
    ∙ ap (λ (l : Loan). map (with_loan c.args.d l) (map keeping_of c.args.self.now.stints.now.items))
    (back_is (spot_at spots c.args.d) (fixture_of c.in-Some.device) (progress_of c.in-Some.device) leave
    (c.in-Some.ensures.fixture ∙ ap (λ e. cond (can_leave (spot_at spots e)) (spot_at spots e).fixture None) c.from.ensures)
    (c.in-Some.ensures.progress ∙ ap (λ e. (spot_at spots e).progress) c.from.ensures))

pub invariant_of-self-clause-kept : goal.invariant_of-self-clause-kept
invariant_of-self-clause-kept c =
    let at = (goal.at.invariant_of-self-clause-kept c).After-take_back_at in
    let by = (goal.at.invariant_of-self-clause-kept c).After-hand_in in
    give_kept c.args.self.now c.args.d c.hand_in.new.stints.items c.take_back_at.new.places.items (inside at) (its at) (are by (leaves at)) (shows at)

pub invariant_of-self-clause-active : goal.invariant_of-self-clause-active
invariant_of-self-clause-active c =
    let t = c.args.self.now in
    let at = (goal.at.invariant_of-self-clause-active c).After-take_back_at in
    let by = (goal.at.invariant_of-self-clause-active c).After-hand_in in
    subst (λ e. IsActiveBy t.p t.window t.slot.now (set t.claimed.now e false) c.hand_in.new.stints.items) (sym c.from-2.ensures)
    (give_active t c.args.d c.hand_in.new.stints.items c.take_back_at.new.places.items (inside at) (its at) (are by (leaves at)) (shows at))

pub returns : goal.returns
returns c =
    let t = c.args.self.now in
    let at = (goal.at.returns c).After-take_back_at in
    let by = (goal.at.returns c).After-hand_in in
    record {
      same = record { moment = refl; journal = refl; claimed = refl; spooled = refl; stints = refl; store = refl; places = refl; block = refl };
      part = ap₂ (λ e ks. let q : Part = record (part_of t) { claimed = set t.claimed.now e false; stints = ks } in q) c.from-2.ensures (are by (leaves at));
      shared = ap (λ ss. let s : Shared = record { cells = t.store.now; spots = ss } in s) (shows at);
      note = refl;
    }

pub invariant_of-self-clause-dry : goal.invariant_of-self-clause-dry
invariant_of-self-clause-dry c = c.take_back_at.ensures.dry c.args.self.now.dry
