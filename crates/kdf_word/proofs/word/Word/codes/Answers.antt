use Rattle.std.proofs.Common.{◌∙◌, ◌<◌, ap, sym, subst}
use Rattle.std.specs.Int.{w64, to_be_bytes}
use Rattle.std.specs.List.{All}
use Rattle.kdf_word.proofs.Lanes.{bytes_are, codes_below, from_eight, from_fours, from_twos}
use Rattle.kdf_word.proofs.word.Word.codes.Goals as goal

pub returns-clause-value : goal.returns-clause-value
returns-clause-value c = c.to_be_bytes.ensures ∙ ap (λ w. to_be_bytes w64 (from_twos (from_fours (from_eight w)))) c.bits-bits.ensures.value
    ∙ bytes_are c.args.self c.bits-bits.ensures.below

pub returns-clause-small : goal.returns-clause-small
returns-clause-small c =
    subst (All (λ k. k < 64)) (sym (c.to_be_bytes.ensures ∙ ap (λ w. to_be_bytes w64 (from_twos (from_fours (from_eight w)))) c.bits-bits.ensures.value
    ∙ bytes_are c.args.self c.bits-bits.ensures.below)) (codes_below c.args.self)
