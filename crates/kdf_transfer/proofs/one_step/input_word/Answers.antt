use Rattle.std.proofs.Common.{◌≡◌, ◌∙◌, sym, ap, get_or, Some, None}
use Rattle.std.proofs.lemmas.Option.{slice_get-get_or, get_or_from_slice_get}
use Rattle.kdf_transfer.specs.AtOnce.{fill, given}
use Rattle.kdf_transfer.specs.Devices.{fixture_of, progress_of}
use Rattle.kdf_transfer.proofs.one_step.input_word.Goals as goal

pub returns : goal.returns
returns c =
    let g = given c.args.order (fixture_of c.args.device.now) (progress_of c.args.device.now) in
    c.fill_up.ensures ∙ ap (fill c.args.order) (sym (get_or_from_slice_get g c.args.i c.in-Some.word 0 (sym c.in-Some.ensures)))

pub unreachable-requires : goal.unreachable-requires
unreachable-requires c =
    let g = given c.args.order (fixture_of c.args.device.now) (progress_of c.args.device.now) in
    let e : None ≡ Some (get_or g c.args.i 0) = c.in-None.ensures ∙ slice_get-get_or g c.args.i 0 c.requires.inside in
    cc
