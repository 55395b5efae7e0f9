use Rattle.std.proofs.Common.{◌<◌, ◌%◌, length, ap, ◌∙◌, sym, subst}
use Rattle.std.specs.List.{All}
use Rattle.kdf_transfer.specs.AtOnce.{finished, area_len, words_out}
use Rattle.kdf_transfer.specs.Devices.{fixture_of, progress_of}
use Rattle.kdf_transfer.specs.InFlight.{area_words}
use Rattle.kdf_transfer.proofs.Codes.{codes_small, codes_whole}
use Rattle.kdf_transfer.proofs.Words.{block_whole}
use Rattle.kdf_transfer.proofs.flight.Flight.finish.Goals as goal

pub finish-requires-clause-small : goal.finish-requires-clause-small
finish-requires-clause-small c =
    let f = c.args.self in
    let e = c.requires.flying.block ∙ block_whole f.order f.area.first f.area.last f.lease (fixture_of f.device) (progress_of f.device) f.moved
    (c.requires.all ∙ c.requires.flying.total) in
    subst (All (λ k. k < 64)) (sym e) (codes_small (words_out f.order (area_words f.order f.area.first f.area.last f.lease)))

pub finish-requires-clause-whole : goal.finish-requires-clause-whole
finish-requires-clause-whole c =
    let f = c.args.self in
    let e = c.requires.flying.block ∙ block_whole f.order f.area.first f.area.last f.lease (fixture_of f.device) (progress_of f.device) f.moved
    (c.requires.all ∙ c.requires.flying.total) in
    ap (λ xs. length xs % 8) e ∙ codes_whole (words_out f.order (area_words f.order f.area.first f.area.last f.lease))

pub returns-clause-progress : goal.returns-clause-progress
returns-clause-progress c =
    let f = c.args.self in
    c.finish.ensures.progress
    ∙ ap (λ n. finished f.order n f.block.items (fixture_of f.device) (progress_of f.device)) c.words_in.ensures.value
    ∙ ap (λ b. finished f.order (area_len f.order f.area.first f.area.last) b (fixture_of f.device) (progress_of f.device))
    (c.requires.flying.block ∙ block_whole f.order f.area.first f.area.last f.lease (fixture_of f.device) (progress_of f.device) f.moved
    (c.requires.all ∙ c.requires.flying.total))

pub words_in-requires : goal.words_in-requires
words_in-requires c = λ has. let h = c.requires.flying.area has in (h.rising, h.few)
