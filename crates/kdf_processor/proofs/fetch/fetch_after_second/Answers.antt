use Rattle.std.proofs.Common.{◌≡◌, ◌≢◌, sym, ◌∙◌, ap, rules}
use Rattle.kdf_processor.proofs.Syllables.{order_of_two, order_of_three, size_of_three}
use Rattle.kdf_processor.specs.Fetch.{syllable_read}
use Rattle.kdf_processor.specs.Table.{syllable_after}
use Rattle.kdf_processor.specs.declared.fetch.Syllable.TheVariants.{Byte}
use Rattle.kdf_processor.proofs.fetch.fetch_after_second.Goals as goal

pub returns-then-size-eq2 : goal.returns-then-size-eq2
returns-then-size-eq2 g c =
    let v = g.P.Port.shows c.args.port.now in
    let size = sym c.size_of_first-size.ensures.value ∙ c.if-size-eq2.true in
    record {
      held = search rules;
      order = rw (order_of_two v c.args.at c.args.first c.args.second c.requires.first c.requires.second size) c.spelt.ensures.order;
    }

pub returns-in-Byte : goal.returns-in-Byte
returns-in-Byte g c =
    let v = g.P.Port.shows c.args.port.now in
    let third : Byte c.in-Byte.third ≡ syllable_read v (syllable_after (syllable_after c.args.at 1) 1) =
    sym c.in-Byte.is ∙ c.read_syllable.ensures ∙ ap (syllable_read v) (c.syllable_after-2.ensures ∙ ap (λ m. syllable_after m 1) c.syllable_after.ensures) in
    let shorter : c.size_of_first-size.result ≢ 1 = λ one. c.requires.longer (sym c.size_of_first-size.ensures.value ∙ one) in
    let size = size_of_three c.args.first c.size_of_first-size.result c.size_of_first-size.ensures.value shorter c.if-size-eq2.false in
    record {
      held = search rules;
      order = rw (order_of_three v c.args.at _ _ _ c.requires.first c.requires.second third size) c.spelt-in-Byte.ensures.order;
    }
