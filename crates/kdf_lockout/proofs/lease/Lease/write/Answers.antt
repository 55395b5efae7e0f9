use Rattle.std.proofs.Common.{◌≡◌, ◌-◌, ◌/◌, ◌<◌, length, map, ap, ◌∙◌, arith, length-set}
use Rattle.std.proofs.lemmas.List.{length-map}
use Rattle.kdf_lockout.specs.Groups.{Lent, words_in, with_lent_word}
use Rattle.kdf_lockout.proofs.Ranges.{lease_written}
use Rattle.kdf_lockout.proofs.lease.Lease.write.Goals as goal

pub returns-clause-written : goal.returns-clause-written
returns-clause-written c =
    let items = c.self.inside.groups.items in
    let counted : length (map words_in items) ≡ length c.args.self.now.groups = ap (λ (l : Lent). length l.groups) c.self.view_is in
    let first : c.self.inside.first ≡ c.args.self.now.first = ap (λ (l : Lent). l.first) c.self.view_is in
    let lt : c.args.place / 32 - c.self.inside.first < length items = omega (arith, length-map items words_in, c.requires) in
    lease_written c.self.inside.first items c.deref_mut.result.now c.args.place c.args.word c.in-Some.group c.set_word.new.self c.index-deref_mut-place.result
    c.deref_mut.ensures.value c.in-Some.is lt c.set_word.ensures
    ∙ ap (λ l. with_lent_word l c.args.place c.args.word) c.self.view_is

pub returns-clause-first : goal.returns-clause-first
returns-clause-first c = ap (λ (l : Lent). l.first) (returns-clause-written c)

pub returns-clause-count : goal.returns-clause-count
returns-clause-count c = ap (λ (l : Lent). length l.groups) (returns-clause-written c) ∙ length-set c.args.self.now.groups _ _
