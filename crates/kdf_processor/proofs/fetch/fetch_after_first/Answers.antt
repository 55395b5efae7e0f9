use Rattle.std.proofs.Common.{sym, ◌∙◌, rules}
use Rattle.kdf_processor.proofs.Syllables.{order_of_one}
use Rattle.kdf_processor.proofs.fetch.fetch_after_first.Goals as goal

pub returns-then-size-eq1 : goal.returns-then-size-eq1
returns-then-size-eq1 g c =
    let size = sym c.size_of_first-size.ensures.value ∙ c.if-size-eq1.true in
    record { held = search rules; order = rw (order_of_one (g.P.Port.shows c.args.port.now) c.args.at c.args.first c.requires size) c.spelt.ensures.order }
