use Rattle.std.proofs.Common.{◌+◌, ◌-◌, ◌/◌, length, take, drop, ap, sym, ◌∙◌, arith, subst}
use Rattle.std.proofs.lemmas.List.{with_items_is}
use Rattle.kdf_lockout.specs.Groups.{AreAllHere, Lent, first_out_of}
use Rattle.kdf_lockout.proofs.Ranges.{here_in_range, lent_is, without_is}
use Rattle.kdf_lockout.proofs.Readings.{lent_out, lent_first, lent_count, without_count}
use Rattle.kdf_lockout.proofs.store.Store.lock.Goals as goal

pub new-requires : goal.new-requires
new-requires c =
    let same = c.deref_mut.ensures.value ∙ c.self.view_is in
    let free = ap (λ s. first_out_of s (c.args.from / 32) (c.args.to / 32 + 1 - c.args.from / 32)) (sym c.self.view_is ∙ sym c.deref.ensures.value)
    ∙ sym c.in-None.ensures.value in
    subst AreAllHere (sym (c.take_groups.ensures.taken ∙ ap (λ s. take (c.args.to / 32 + 1 - c.args.from / 32) (drop (c.args.from / 32) s)) same))
    (here_in_range c.args.self.now (c.args.from / 32) (c.args.to / 32 + 1 - c.args.from / 32) (omega arith) free)

pub returns-in-None-clause-lease : goal.returns-in-None-clause-lease
returns-in-None-clause-lease c =
    c.new.ensures ∙ lent_is c.args.self.now c.deref_mut.result.now (c.args.from / 32) (c.args.to / 32 + 1 - c.args.from / 32) c.take_groups.result.items
    (c.deref_mut.ensures.value ∙ c.self.view_is) c.take_groups.ensures.taken

pub returns-in-None-clause-groups : goal.returns-in-None-clause-groups
returns-in-None-clause-groups c =
    with_items_is c.self.inside.groups c.take_groups.new.groups (c.take_groups.auto.groups ∙ c.deref_mut.ensures.len)
    ∙ c.take_groups.ensures.left
    ∙ without_is c.args.self.now c.deref_mut.result.now (c.args.from / 32) (c.args.to / 32 + 1 - c.args.from / 32) (c.deref_mut.ensures.value ∙ c.self.view_is)

pub returns-in-None-clause-taken : goal.returns-in-None-clause-taken
returns-in-None-clause-taken c =
    lent_out c.args.self.now _ _ (c.args.from / 32) (c.args.to / 32 + 1 - c.args.from / 32) (omega arith) (returns-in-None-clause-lease c)
    (returns-in-None-clause-groups c)

pub returns-in-None-clause-first : goal.returns-in-None-clause-first
returns-in-None-clause-first c =
    ap (λ (l : Lent). l.first) (returns-in-None-clause-lease c) ∙ lent_first c.args.self.now (c.args.from / 32) (c.args.to / 32 + 1 - c.args.from / 32)

pub returns-in-None-clause-count : goal.returns-in-None-clause-count
returns-in-None-clause-count c =
    ap (λ (l : Lent). length l.groups) (returns-in-None-clause-lease c) ∙ lent_count c.args.self.now (c.args.from / 32) (c.args.to / 32 + 1 - c.args.from / 32)
    (omega arith)

pub returns-in-None-clause-size : goal.returns-in-None-clause-size
returns-in-None-clause-size c =
    ap length (returns-in-None-clause-groups c) ∙ without_count c.args.self.now (c.args.from / 32) (c.args.to / 32 + 1 - c.args.from / 32) (omega arith)
