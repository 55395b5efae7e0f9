use Rattle.std.specs.Prelude.{unwrap_or}
use Rattle.std.proofs.Common.{◌≡◌, ◌∷◌, ◌++◌, [], true, false, None, get_or, map, set, is_some, refl, sym, ap, ◌∙◌, subst}
use Rattle.std.proofs.lemmas.Bool.{or_parts}
use Rattle.std.proofs.lemmas.List.{map_push}
use Rattle.kdf_yard.specs.Fields.Keeping.{IsActiveBy}
use Rattle.kdf_yard.specs.Fields.Parts.{Part}
use Rattle.kdf_yard.specs.Fields.Shared.{free_in, is_taken_by}
use Rattle.kdf_yard.specs.Fields.Stints.{Lent, keeping_of}
use Rattle.kdf_yard.specs.Fields.MachinePort.{held_in, part_of, shared}
use Rattle.kdf_yard.specs.declared.remark.Remark.TheVariants.{Took}
use Rattle.kdf_yard.proofs.Physical.PoolDevices.{IsFree}
use Rattle.kdf_yard.proofs.Physical.FreeDevices.{can_take_free, free_one, lent_is}
use Rattle.kdf_yard.proofs.Turns.TurnsKeep.{active_in, take_active, take_kept, take_part}
use Rattle.kdf_yard.proofs.machine_port.MachinePortPort.take_pool.Goals as goal
use Rattle.kdf_yard.proofs.machine_port.MachinePortPort.take_pool.Goals.{After-push_reserved}

-- the device is of the pool, and the program doesn't have it
free : (c : After-push_reserved) → IsFree (part_of c.args.self.now) c.least_free-d.result
free c =
    let t = c.args.self.now in
    let d = c.least_free-d.result in
    let one = free_one (part_of t).pool (is_taken_by t.claimed.now (held_in t)) c.args.kind d c.least_free-d.ensures.least in
    let pooled = ap is_some one.0 in
    record {
      pooled = pooled;
      unlent = sym ((active_in t).marks d pooled) ∙ (or_parts (get_or t.claimed.now d false) (is_some (held_in t d)) one.1).0;
    }

are : (c : After-push_reserved) → map keeping_of c.push_reserved.new.self.items ≡ map keeping_of c.args.self.now.stints.now.items
    ++ record { device = c.least_free-d.result; loan = Lent } ∷ []
are c =
    ap (map keeping_of) c.push_reserved.ensures.items
    ∙ map_push keeping_of c.args.self.now.stints.now.items (record { d = c.least_free-d.result; given = false; device = None })

pub invariant_of-self-clause-kept : goal.invariant_of-self-clause-kept
invariant_of-self-clause-kept c =
    let at = (goal.at.invariant_of-self-clause-kept c).After-push_reserved in
    take_kept c.args.self.now c.least_free-d.result c.push_reserved.new.self.items (free at) (are at)

pub invariant_of-self-clause-active : goal.invariant_of-self-clause-active
invariant_of-self-clause-active c =
    let t = c.args.self.now in
    let at = (goal.at.invariant_of-self-clause-active c).After-push_reserved in
    subst (λ e. IsActiveBy t.p t.window t.slot.now (set t.claimed.now e true) c.push_reserved.new.self.items) (sym c.from.ensures)
    (take_active t c.least_free-d.result c.push_reserved.new.self.items (free at) (are at))

pub returns-clause-can : goal.returns-clause-can
returns-clause-can c =
    let t = c.args.self.now in
    can_take_free (part_of t) (shared t) (held_in t) c.args.kind c.least_free-d.result c.least_free-d.ensures.number c.least_free-d.ensures.least

pub returns-clause-recorded : goal.returns-clause-recorded
returns-clause-recorded c =
    let t = c.args.self.now in
    let at = (goal.at.returns-clause-recorded c).After-push_reserved in
    let answer = unwrap_or (free_in (part_of t).pool (is_taken_by t.claimed.now (held_in t)) c.args.kind) 0 in
    let lent = lent_is (part_of t) (shared t) (held_in t) c.args.kind c.least_free-d.result c.least_free-d.ensures.number c.least_free-d.ensures.least in
    record {
      same = record { moment = refl; journal = refl; claimed = refl; spooled = refl; stints = refl; store = refl; places = refl; block = refl };
      part = ap (λ e. let q : Part = record (part_of t) { claimed = set t.claimed.now e true; stints = map keeping_of c.push_reserved.new.self.items } in q)
          c.from.ensures
          ∙ take_part (part_of t) (shared t) c.args.kind answer c.least_free-d.result (map keeping_of c.push_reserved.new.self.items) lent (are at);
      shared = refl;
      note = ap Took (sym (ap (λ o. unwrap_or o 0) c.least_free-d.ensures.least));
    }
