use Rattle.std.proofs.Common.{◌∙◌, sym, ap, length, arith}
use Rattle.kdf_transfer.specs.AtOnce.{offered}
use Rattle.kdf_transfer.specs.Devices.{fixture_of, progress_of}
use Rattle.kdf_transfer.specs.InFlight.{area_words}
use Rattle.kdf_transfer.proofs.Stopping.{count_none, count_last, count_more, count_end}
use Rattle.kdf_transfer.proofs.Words.{words_are, few_area}
use Rattle.kdf_transfer.proofs.flight.count_up.Goals as goal

pub words_in-requires : goal.words_in-requires
words_in-requires c = λ has. let h = c.requires.area has in (h.rising, h.few)

pub words_in-i-end-requires : goal.words_in-i-end-requires
words_in-i-end-requires c = λ has. let h = c.requires.area has in (h.rising, h.few)

pub returns-then-is_last-clause-value : goal.returns-then-is_last-clause-value
returns-then-is_last-clause-value c =
    let o = c.args.order in
    let first = c.args.area.first in
    let last = c.args.area.last in
    let l = c.args.lease.now in
    let f = fixture_of c.args.device.now in
    let p = progress_of c.args.device.now in
    let ws = offered o first last (area_words o first last l) f p in
    sym
    (ap length (words_are o first last l f p)
    ∙ count_last o ws c.loop-i.i c.in-Some.word (sym c.in-Some.ensures) (sym c.is_last.ensures ∙ c.if-is_last.true) c.loop-i.invariant)

pub returns-in-None-clause-value : goal.returns-in-None-clause-value
returns-in-None-clause-value c =
    let o = c.args.order in
    let first = c.args.area.first in
    let last = c.args.area.last in
    let l = c.args.lease.now in
    let f = fixture_of c.args.device.now in
    let p = progress_of c.args.device.now in
    let ws = offered o first last (area_words o first last l) f p in
    sym (ap length (words_are o first last l f p) ∙ count_none o ws c.loop-i.i (sym c.in-None.ensures) c.loop-i.invariant)

pub returns-clause-value : goal.returns-clause-value
returns-clause-value c =
    let o = c.args.order in
    let first = c.args.area.first in
    let last = c.args.area.last in
    let l = c.args.lease.now in
    let f = fixture_of c.args.device.now in
    let p = progress_of c.args.device.now in
    let ws = offered o first last (area_words o first last l) f p in
    let e = count_end o ws c.loop-i.i (omega (arith, few_area o first last l f p, c.words_in-i-end.ensures.value)) c.loop-i.invariant in
    omega (arith, e, ap length (words_are o first last l f p), c.words_in-i-end.ensures.value, c.words_in.ensures.value)

pub loop-i-preserved : goal.loop-i-preserved
loop-i-preserved c =
    let o = c.args.order in
    let first = c.args.area.first in
    let last = c.args.area.last in
    let l = c.args.lease.now in
    let f = fixture_of c.args.device.now in
    let p = progress_of c.args.device.now in
    let ws = offered o first last (area_words o first last l) f p in
    count_more o ws c.loop-i.i c.in-Some.word (sym c.in-Some.ensures) (sym c.is_last.ensures ∙ c.if-is_last.false) c.loop-i.invariant
