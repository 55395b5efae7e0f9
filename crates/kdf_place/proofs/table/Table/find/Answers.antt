use Rattle.std.proofs.Common.{◌≡◌, length, sym, ap, ◌∙◌, get_or, arith, rules}
use Rattle.kdf_place.specs.Keys.{key_of}
use Rattle.kdf_place.proofs.Firsts.{parts-from, found-here, not-here, none-there}
use Rattle.kdf_place.proofs.table.Table.find.Goals as goal

pub returns-then-place-entries : goal.returns-then-place-entries
returns-then-place-entries g c =
    let es = c.args.self.now.entries.items in
    let i = c.before-place.result in
    let same : c.as_slice-entries.result.now ≡ es = c.as_slice-entries.ensures.value in
    let parts = parts-from es (key_of c.args.section c.args.number) i c.before-place.ensures.point in
    sym (none-there es c.args.section c.args.number i parts (omega (arith, c.if-place-entries.true, ap length same)))

pub returns-then-is_named : goal.returns-then-is_named
returns-then-is_named g c =
    let es = c.args.self.now.entries.items in
    let i = c.before-place.result in
    let e = c.index-entries-place.result in
    let same : c.as_slice-entries.result.now ≡ es = c.as_slice-entries.ensures.value in
    let parts = parts-from es (key_of c.args.section c.args.number) i c.before-place.ensures.point in
    sym (found-here es c.args.section c.args.number i e parts (omega (arith, c.before-place.ensures.bound, c.if-place-entries.false, ap length same))
    (c.index-entries-place.is ∙ ap (λ xs. get_or xs i e) same) (sym c.is_named.ensures.value ∙ c.if-is_named.true))

pub returns-else-is_named : goal.returns-else-is_named
returns-else-is_named g c =
    let es = c.args.self.now.entries.items in
    let i = c.before-place.result in
    let e = c.index-entries-place.result in
    let same : c.as_slice-entries.result.now ≡ es = c.as_slice-entries.ensures.value in
    let parts = parts-from es (key_of c.args.section c.args.number) i c.before-place.ensures.point in
    sym (not-here es c.args.section c.args.number i e parts (search rules)
    (omega (arith, c.before-place.ensures.bound, c.if-place-entries.false, ap length same))
    (c.index-entries-place.is ∙ ap (λ xs. get_or xs i e) same) (omega (arith, c.is_named.ensures.small)) (omega arith)
    (sym c.is_named.ensures.value ∙ c.if-is_named.false))
