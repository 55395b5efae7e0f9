use Rattle.std.proofs.Common.{◌≡◌, ◌-◌, ◌%◌, ◌/◌, ◌+◌, ◌≤◌, ◌<◌, length, map, take, ap, ◌∙◌, arith, length-take}
use Rattle.std.proofs.lemmas.List.{length-map}
use Rattle.kdf_word.specs.Characters.{words_of}
use Rattle.kdf_lockout.specs.Groups.{Lent, words_in, with_lent_words}
use Rattle.kdf_lockout.proofs.GroupsWritten.{lease_written_all, lent_words_count, lent_words_first}
use Rattle.kdf_lockout.proofs.lease.Lease.write_codes.Goals as goal

pub returns-clause-written : goal.returns-clause-written
returns-clause-written c =
    let items = c.self.inside.groups.items in
    let ws = take c.args.count (words_of c.args.codes.now) in
    let counted : length (map words_in items) ≡ length c.args.self.now.groups = ap (λ (l : Lent). length l.groups) c.self.view_is in
    let first : c.self.inside.first ≡ c.args.self.now.first = ap (λ (l : Lent). l.first) c.self.view_is in
    let lt : c.args.place / 32 - c.self.inside.first < length items = omega (arith, length-map items words_in, c.requires.lent) in
    let fits : c.args.place % 32 + length ws ≤ 32 = omega (arith, length-take c.args.count (words_of c.args.codes.now), c.requires.group) in
    lease_written_all c.self.inside.first items c.deref_mut.result.now c.args.place ws c.in-Some.group c.set_codes.new.self c.index-deref_mut-place.result
    c.deref_mut.ensures.value c.in-Some.is lt fits c.set_codes.ensures
    ∙ ap (λ l. with_lent_words l c.args.place ws) c.self.view_is

pub returns-clause-first : goal.returns-clause-first
returns-clause-first c = ap (λ (l : Lent). l.first) (returns-clause-written c)
    ∙ lent_words_first c.args.self.now c.args.place (take c.args.count (words_of c.args.codes.now))

pub returns-clause-count : goal.returns-clause-count
returns-clause-count c = ap (λ (l : Lent). length l.groups) (returns-clause-written c)
    ∙ lent_words_count c.args.self.now c.args.place (take c.args.count (words_of c.args.codes.now))
