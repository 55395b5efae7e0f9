use Rattle.std.proofs.Common.{ℕ, ◌+◌, ◌-◌, ◌<◌, ◌∙◌, ap, take, length, arith, length-take}
use Rattle.std.specs.Prelude.{slice_set}
use Rattle.kdf_transfer.specs.AtOnce.{given, stopped, place_of}
use Rattle.kdf_transfer.specs.Devices.{fixture_of, progress_of}
use Rattle.kdf_transfer.proofs.OneStep.{counted, written_next, written_all}
use Rattle.kdf_transfer.proofs.Stopping.{moved_at, stopped-le}
use Rattle.kdf_transfer.proofs.one_step.read_into.Goals as goal

pub place_at-requires-clause-inside : goal.place_at-requires-clause-inside
place_at-requires-clause-inside c =
    let o = c.args.order in
    let n : ℕ = c.args.area.last + 1 - c.args.area.first in
    let g = given o (fixture_of c.args.device.now) (progress_of c.args.device.now) in
    let e = counted o c.args.area.first c.args.area.last c.words_in.result c.count_input-i-end.result g c.requires.input c.words_in.ensures.value
    c.count_input-i-end.ensures.value in
    omega (arith, e, stopped-le o (take n g), length-take n g)

pub loop-i-preserved : goal.loop-i-preserved
loop-i-preserved c =
    let o = c.args.order in
    let first = c.args.area.first in
    let last = c.args.area.last in
    let n : ℕ = last + 1 - first in
    let g = given o (fixture_of c.args.device.now) (progress_of c.args.device.now) in
    let e = counted o first last c.words_in.result c.count_input-i-end.result g c.requires.input c.words_in.ensures.value c.count_input-i-end.ensures.value in
    let low : c.loop-i.i < length (stopped o (take n g)) = omega (arith, e) in
    ap (λ p. slice_set c.loop-i.words p c.input_word.result) c.place_at.ensures.value
    ∙ ap (λ ws. slice_set ws (place_of o first last c.loop-i.i) c.input_word.result) c.loop-i.invariant
    ∙ written_next o first last c.loop-i.i c.input_word.result (stopped o (take n g)) c.args.words.now low
    (moved_at o n c.loop-i.i c.input_word.result g low c.input_word.ensures)

pub returns : goal.returns
returns c =
    let o = c.args.order in
    let first = c.args.area.first in
    let last = c.args.area.last in
    let n : ℕ = last + 1 - first in
    let g = given o (fixture_of c.args.device.now) (progress_of c.args.device.now) in
    let e = counted o first last c.words_in.result c.count_input-i-end.result g c.requires.input c.words_in.ensures.value c.count_input-i-end.ensures.value in
    c.loop-i.invariant ∙ written_all o first last c.loop-i.i (stopped o (take n g)) c.args.words.now (omega (arith, e))
