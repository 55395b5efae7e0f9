use Rattle.std.proofs.Common.{length, ap, ◌∙◌}
use Rattle.std.proofs.lemmas.List.{with_items_is}
use Rattle.kdf_lockout.proofs.Ranges.{put_back}
use Rattle.kdf_lockout.proofs.Readings.{with_count}
use Rattle.kdf_lockout.proofs.store.Store.unlock.Goals as goal

pub returns-clause-back : goal.returns-clause-back
returns-clause-back c =
    with_items_is c.self.inside.groups c.put_groups.new.groups (c.put_groups.auto.groups ∙ c.deref_mut.ensures.len)
    ∙ c.put_groups.ensures
    ∙ put_back c.args.self.now c.deref_mut.result.now c.args.lease c.parts-first.result.0 c.parts-first.result.1.items c.parts-first.ensures.first
    c.parts-first.ensures.groups c.parts-first.ensures.here (c.deref_mut.ensures.value ∙ c.self.view_is)

pub returns-clause-size : goal.returns-clause-size
returns-clause-size c = ap length (returns-clause-back c) ∙ with_count c.args.self.now c.args.lease c.requires.inside
