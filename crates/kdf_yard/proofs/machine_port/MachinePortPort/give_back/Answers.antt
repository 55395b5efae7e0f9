use Rattle.std.proofs.Common.{◌≡◌, false, is_some, set, None, refl, sym, ap, ◌∙◌, subst}
use Rattle.kdf_job.specs.Slots.{lent_kind}
use Rattle.kdf_transfer.proofs.Numbers.{number_at}
use Rattle.kdf_processor.specs.Effect.{Releases}
use Rattle.kdf_yard.specs.Fields.Remarks.{note_after}
use Rattle.kdf_yard.specs.Fields.Parts.{Part, in_pool, part_after}
use Rattle.kdf_yard.specs.Fields.Shared.{after_act}
use Rattle.kdf_yard.specs.Fields.MachinePort.{Acts, part_of, shared}
use Rattle.kdf_yard.proofs.Physical.PoolDevices.{active-marked}
use Rattle.kdf_yard.proofs.Physical.PartsShow.{claimed_small}
use Rattle.kdf_yard.proofs.Turns.TurnsKeep.{marked}
use Rattle.kdf_yard.proofs.machine_port.MachinePortPort.give_back.Goals as goal
use Rattle.kdf_yard.proofs.machine_port.MachinePortPort.give_back.Goals.{After-is_some}

-- whether the device is of the pool
pooled : (c : After-is_some) → in_pool (part_of c.args.self.now) c.args.device ≡ c.is_some.result
pooled c =
    let t = c.args.self.now in
    ap is_some (number_at (lent_kind t.slot.now.pool.items) c.args.device None (claimed_small (part_of t) (shared t) c.args.device c.requires.claimed))
    ∙ sym (c.is_some.ensures ∙ ap is_some (c.kind_lent.ensures ∙ ap (λ ps. lent_kind ps c.args.device) c.deref.ensures.value))

pub return_pooled-requires-clause-pooled : goal.return_pooled-requires-clause-pooled
return_pooled-requires-clause-pooled c = pooled (goal.at.return_pooled-requires-clause-pooled c).After-is_some ∙ c.if-is_some.true

pub invariant_of-self-clause-active : goal.invariant_of-self-clause-active
invariant_of-self-clause-active c =
    let t = c.args.self.now in
    active-marked (marked t) c.from.result false
    (ap (in_pool (marked t)) c.from.ensures ∙ pooled (goal.at.invariant_of-self-clause-active c).After-is_some ∙ c.if-is_some.false)
    t.active

pub returns-then-is_some : goal.returns-then-is_some
returns-then-is_some c =
    subst (λ b. Acts c.args.self.now (Releases b c.args.device) c.return_pooled.new.self)
    (sym (pooled (goal.at.returns-then-is_some c).After-is_some ∙ c.if-is_some.true)) c.return_pooled.ensures

pub returns-else-is_some : goal.returns-else-is_some
returns-else-is_some c =
    let t = c.args.self.now in
    let not = pooled (goal.at.returns-else-is_some c).After-is_some ∙ c.if-is_some.false in
    record {
      same = record { moment = refl; journal = refl; claimed = refl; spooled = refl; stints = refl; store = refl; places = refl; block = refl };
      part = ap (λ e. let q : Part = record (part_of t) { claimed = set t.claimed.now e false } in q) c.from.ensures
          ∙ ap (λ b. part_after (part_of t) (shared t) (Releases b c.args.device)) (sym not);
      shared = ap (λ b. after_act (part_of t) (shared t) (Releases b c.args.device)) (sym not);
      note = ap (λ b. note_after (Releases b c.args.device) t.note) (sym not);
    }
