use Rattle.std.proofs.Common.{◌∙◌}
use Rattle.kdf_place.proofs.Listed.{words-more}
use Rattle.kdf_place.proofs.listings.write_words.Goals as goal

pub loop-address-preserved : goal.loop-address-preserved
loop-address-preserved c =
    words-more c.args.words.now c.loop-address.address c.bits.result c.index-words-address.result _ _ _ c.loop-address-test.true
    (c.bits.ensures.value ∙ c.index-words-address.is) c.loop-address.invariant c.in_ok-write_word.ensures
