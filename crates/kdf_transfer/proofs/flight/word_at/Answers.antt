use Rattle.std.proofs.Common.{◌≡◌, ◌∙◌, sym, get_or, Some, None}
use Rattle.kdf_transfer.specs.AtOnce.{offered}
use Rattle.kdf_transfer.specs.Devices.{fixture_of, progress_of}
use Rattle.kdf_transfer.specs.InFlight.{area_words}
use Rattle.kdf_transfer.proofs.Words.{word_there, word_is}
use Rattle.kdf_transfer.proofs.flight.word_at.Goals as goal

pub returns : goal.returns
returns c =
    let o = c.args.order in
    let first = c.args.area.first in
    let last = c.args.area.last in
    let l = c.args.lease.now in
    let f = fixture_of c.args.device.now in
    let p = progress_of c.args.device.now in
    c.fill_up.ensures ∙ word_is o first last l f p c.args.i c.in-Some.word c.requires.inside (sym c.in-Some.ensures)

pub unreachable-requires : goal.unreachable-requires
unreachable-requires c =
    let o = c.args.order in
    let first = c.args.area.first in
    let last = c.args.area.last in
    let l = c.args.lease.now in
    let f = fixture_of c.args.device.now in
    let p = progress_of c.args.device.now in
    let ws = offered o first last (area_words o first last l) f p in
    let e : None ≡ Some (get_or ws c.args.i 0) = c.in-None.ensures ∙ word_there o first last l f p c.args.i c.requires.inside in
    cc
