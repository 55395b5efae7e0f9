use Rattle.std.proofs.Common.{◌≡◌, ◌+◌, ◌-◌, ◌*◌, ◌<◌, ◌∙◌, length, set, take, drop, ap, arith, length-drop}
use Rattle.std.proofs.lemmas.List.{take_all}
use Rattle.kdf_word.specs.Characters.{first_word, words_of}
use Rattle.kdf_word.proofs.Packing.{length-words_of}
use Rattle.kdf_lockout.specs.Groups.{with_words}
use Rattle.kdf_lockout.proofs.GroupsWritten.{first_eight, with_more}
use Rattle.kdf_lockout.proofs.group.Group.set_codes.Goals as goal

pub loop-k-preserved : goal.loop-k-preserved
loop-k-preserved c =
    let codes = c.args.codes.now in
    let k = c.loop-k.k in
    let w = c.of_codes.result in
    let lt : k < length (words_of codes) = omega (arith, length-words_of codes, c.requires.given, c.loop-k-test.true) in
    let eight : 8 * k + 8 - 8 * k ≡ 8 = omega arith in
    c.set_word.ensures
    ∙ ap (λ ws. set ws (c.args.i + k) w) c.loop-k.invariant
    ∙ with_more codes c.args.self.now c.args.i k w lt (c.of_codes.ensures ∙ ap (λ n. first_word (take n (drop (8 * k) codes))) eight
    ∙ first_eight (drop (8 * k) codes))

pub returns-then-whole-count : goal.returns-then-whole-count
returns-then-whole-count c =
    let codes = c.args.codes.now in
    let group = c.args.self.now in
    let whole = c.min-whole.result in
    let w = c.of_codes-then-whole-count.result in
    let lt : whole < length (words_of codes) = omega (arith, length-words_of codes, c.requires.given, c.if-whole-count.true) in
    let done : c.loop-k.k ≡ whole = omega (arith, c.loop-k-test.false, c.loop-k.auto.k-end) in
    let last : whole + 1 ≡ c.args.count = omega (arith, c.if-whole-count.true, c.requires.given, c.min-whole.ensures) in
    c.set_word-then-whole-count.ensures
    ∙ ap (λ ws. set ws (c.args.i + whole) w) (c.loop-k.invariant ∙ ap (λ n. with_words group c.args.i (take n (words_of codes))) done)
    ∙ with_more codes group c.args.i whole w lt (c.of_codes-then-whole-count.ensures
    ∙ ap first_word (take_all (length codes - 8 * whole) (drop (8 * whole) codes) (omega (arith, length-drop (8 * whole) codes))))
    ∙ ap (λ n. with_words group c.args.i (take n (words_of codes))) last
