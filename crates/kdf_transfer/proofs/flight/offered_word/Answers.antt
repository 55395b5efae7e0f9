use Rattle.std.proofs.Common.{◌≡◌, ◌<◌, ◌+◌, ◌-◌, ◌∙◌, true, false, sym, ap, subst, Some, arith}
use Rattle.kdf_transfer.specs.AtOnce.{has_area, is_input, is_output}
use Rattle.kdf_transfer.specs.Devices.{fixture_of, progress_of}
use Rattle.kdf_transfer.specs.InFlight.{Covers, lent_at}
use Rattle.kdf_transfer.proofs.Areas.{area_has, len_has, len_is}
use Rattle.kdf_transfer.proofs.Words.{offer_past, input_at, output_at}
use Rattle.kdf_transfer.proofs.flight.offered_word.Goals as goal
use Rattle.kdf_transfer.proofs.flight.offered_word.Goals.{In-Some}

has : (c : In-Some) → has_area c.args.order ≡ true
has c = len_has c.args.order c.args.area.first c.args.area.last c.args.i (omega (arith, c.words_in-words.ensures.value, c.if-i-words.false))

covers : (c : In-Some) → Covers (Some c.in-Some.lease) c.args.area.first c.args.area.last
covers c = subst (λ l. Covers l c.args.area.first c.args.area.last) c.in-Some.is (c.requires.area (has c))

within : (c : In-Some) → c.args.i < c.args.area.last + 1 - c.args.area.first
within c = omega (arith, c.words_in-words.ensures.value, c.if-i-words.false, len_is c.args.order c.args.area.first c.args.area.last (has c))

pub words_in-words-requires : goal.words_in-words-requires
words_in-words-requires c = λ has. let h = c.requires.area has in (h.rising, h.few)

pub returns-then-i-words : goal.returns-then-i-words
returns-then-i-words c =
    let o = c.args.order in
    let first = c.args.area.first in
    let last = c.args.area.last in
    let l = c.args.lease.now in
    let f = fixture_of c.args.device.now in
    let p = progress_of c.args.device.now in
    offer_past o first last l f p c.args.i (omega (arith, c.words_in-words.ensures.value, c.if-i-words.true))

pub returns-then-is_input : goal.returns-then-is_input
returns-then-is_input c =
    let o = c.args.order in
    let first = c.args.area.first in
    let last = c.args.area.last in
    let l = c.args.lease.now in
    let f = fixture_of c.args.device.now in
    let p = progress_of c.args.device.now in
    input_at o first last l f p c.args.i c.given_word.result (sym c.is_input.ensures ∙ c.if-is_input.true)
    (omega (arith, c.words_in-words.ensures.value, c.if-i-words.false)) c.given_word.ensures

pub overflow_add-area : goal.overflow_add-area
overflow_add-area c = omega (arith, within (goal.at.overflow_add-area c).In-Some, (covers (goal.at.overflow_add-area c).In-Some).few)

pub read-requires : goal.read-requires
read-requires c =
    let h = covers (goal.at.read-requires c).In-Some in
    let i = within (goal.at.read-requires c).In-Some in
    (omega (arith, h.first_group, i, h.rising), omega (arith, h.first_group, h.count, h.rising, i))

pub returns-in-Some : goal.returns-in-Some
returns-in-Some c =
    let o = c.args.order in
    let first = c.args.area.first in
    let last = c.args.area.last in
    let l = c.args.lease.now in
    let f = fixture_of c.args.device.now in
    let p = progress_of c.args.device.now in
    let here = (goal.at.returns-in-Some c).In-Some in
    let not : is_input o ≡ false = sym c.is_input.ensures ∙ c.if-is_input.false in
    let is : is_output o ≡ true = area_has o (has here) not in
    output_at o first last l f p c.args.i c.read.result not is (within here)
    (c.read.ensures
    ∙ ap (λ l. lent_at l (first + c.from.result)) (sym c.in-Some.is)
    ∙ ap (λ i. lent_at l (first + i)) c.from.ensures)
