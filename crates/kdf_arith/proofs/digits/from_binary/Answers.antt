use Rattle.std.proofs.Common.{ap, ◌∙◌, sym}
use Rattle.kdf_arith.specs.Digits.{Spelled}
use Rattle.kdf_arith.proofs.DigitLemmas.{from_binary_none, from_binary_step}
use Rattle.kdf_arith.proofs.digits.from_binary.Goals as goal

pub loop-k-init : goal.loop-k-init
loop-k-init c =
    let none = from_binary_none c.args.radices c.args.number in
    (c.default-word.ensures ∙ ap (λ (s : Spelled). s.word) (sym none), c.bits-rest.ensures.value ∙ ap (λ (s : Spelled). s.rest) (sym none))

pub loop-k-preserved : goal.loop-k-preserved
loop-k-preserved c =
    let step = from_binary_step c.loop-k.k c.args.radices c.args.number c.loop-k.word c.loop-k.rest c.loop-k.invariant.0 c.loop-k.invariant.1 in
    let word = rw c.character.ensures.value at c.spell.ensures.word in
    let rest = rw c.character.ensures.value at c.spell.ensures.rest in
    (word ∙ ap (λ (s : Spelled). s.word) step, rest ∙ ap (λ (s : Spelled). s.rest) step)
